-- The chains of a buffer: what the functions of this crate ask of it, where a key's place is, and the words after a tuple is linked or unlinked.
use Rattle.std.specs.Prelude.{Bool, true, false, cond, Option, Some, None, List, [], ◌∷◌, ◌++◌, ◌≢◌, ◌≡◌, ℕ, ◌+◌, ◌-◌, ◌≤◌, eqb, length, set}
use Rattle.std.proofs.Math.Option.{some}
use Rattle.model.specs.declared.Direction.{Direction}
use Rattle.model.specs.declared.Direction.TheVariants.{Outpointing, Inpointing, Adjacent}
use Rattle.model.specs.declared.Key.{Key}
use Rattle.model.specs.Ordered.{is_less, Ascending}
use Rattle.model.specs.Keys.{Value, key_of, space_key, compare_keys, same_key}
use Rattle.model.specs.Tuples.{Tuples}
use Rattle.layouts.specs.Buffer.{word, capacity_of, next, past_records, used_of, free_of, tuples_of}
use Rattle.model.specs.Rules.{first_key}
use Rattle.layouts.specs.Chains.{ChainRules}
use Rattle.chain.specs.declared.Place.{Place}
use Rattle.words.specs.Words.{Inside, put_next, put_tuple}

-- "for A, each of the two": has a pair two keys, one for the edge each way
unfoldable pub both_ways : Direction → Bool
both_ways Outpointing = false
both_ways Inpointing = false
both_ways Adjacent = true

-- a store but for what its tuples name: chains that meet each record once, keys that ascend from (0,0,0,0).
-- Within a call that adds or removes several tuples the buffer is that much at each moment.
pub record Linked (b : List ℕ) : Type 0 where
  pub chains : ChainRules b (used_of b) (free_of b)
  pub ascends : Ascending key_of compare_keys (tuples_of b)
  pub first : first_key (tuples_of b) ≡ some (space_key 0)

-- record i of the used chain, with those before it and those after it
pub record Reached (b : List ℕ) (i : ℕ) : Type 0 where
  pub before : List ℕ
  pub after : List ℕ
  pub split : used_of b ≡ before ++ (i ∷ after)

-- where a search may start: a used record, or 0 for none
abbrev pub Hint : List ℕ → ℕ → Type 0
Hint b i = i ≢ 0 → Reached b i

-- what was used is used still
abbrev pub KeepsHints : List ℕ → List ℕ → Type 0
KeepsHints b b' = (i : ℕ) → Hint b i → Hint b' i

-- a hint is of use where its key is below the key that is sought
unfoldable pub start_of : (ℕ → Key) → ℕ → Key → ℕ
start_of key hint k = cond (eqb hint 0) 0 (cond (is_less (compare_keys (key hint) k)) hint 0)

-- the record after a used record; the first one after 0
unfoldable pub after_in : List ℕ → ℕ → ℕ
after_in b before = cond (eqb before 0) (word b 1) (next b before)

abbrev pub place : ℕ → ℕ → Place
place before at = record { before = before; at = at }

-- a key's place among records whose keys ascend: the last record whose key is below it (`last` where there is none), and the record after that (0 for none)
unfoldable pub place_in : (ℕ → Key) → Key → ℕ → List ℕ → Place
place_in key k last [] = place last 0
place_in key k last (i ∷ is) = cond (is_less (compare_keys (key i) k)) (place_in key k i is) (place last i)

-- the record that holds a key; 0 for none
unfoldable pub find_in : (ℕ → Key) → Key → List ℕ → ℕ
find_in key k [] = 0
find_in key k (i ∷ is) = cond (same_key k (key i)) i (find_in key k is)

-- the record of a number; none for 0
unfoldable pub record_named : ℕ → Option ℕ
record_named i = cond (eqb i 0) None (Some i)

-- the buffer after an edit: it holds these tuples, and has the same length and the same words past record C.
-- Left to the builder: which record holds a tuple, and with it the order of the free chain; the words of free records besides next.
pub record Edited (b b' : List ℕ) (ts : Tuples) : Type 0 where
  pub linked : Linked b'
  pub tuples : tuples_of b' ≡ ts
  pub size : length b' ≡ length b
  pub past : past_records b' ≡ past_records b

-- what linking after record `before` needs: that record, a free record, and words that fit
pub record Linking (b : List ℕ) (before : ℕ) : Type 0 where
  pub there : Inside b before
  pub taken : Inside b (word b 2)
  pub small : capacity_of b ≤ 2048
  pub free : next b (word b 2) ≤ capacity_of b
  pub after : next b before ≤ capacity_of b
  pub used : word b 3 ≤ capacity_of b

-- a free record is taken, written whole, and linked after record `before`
unfoldable pub insert_after : List ℕ → ℕ → Key → Value → List ℕ
insert_after b before k v =
    let taken = word b 2 in
    set (put_next (put_next (put_tuple (set b 2 (next b taken)) taken k v) taken (next b before)) before taken) 3 (word b 3 + 1)

-- what unlinking the record after record `before` needs: both records, a tuple, and words that fit
pub record Unlinking (b : List ℕ) (before : ℕ) : Type 0 where
  pub there : Inside b before
  pub gone : Inside b (next b before)
  pub small : capacity_of b ≤ 2048
  pub after : next b (next b before) ≤ capacity_of b
  pub free : word b 2 ≤ capacity_of b
  pub used : (1 ≤ word b 3) × (word b 3 ≤ capacity_of b)

-- the record after record `before` is unlinked and put first in the free chain
unfoldable pub remove_after : List ℕ → ℕ → List ℕ
remove_after b before =
    let gone = next b before in
    set (set (put_next (put_next b before (next b gone)) gone (word b 2)) 2 gone) 3 (word b 3 - 1)
