-- Document 01, "The buffer of records": the layout, the rules of a store as a test that computes, and what preparing leaves.
-- A buffer is the list of its words. The rules as statements are in Chains.antt, those on the tuples in Rules.antt of the model; proofs/Store.antt proves that the test says yes exactly when they hold.
use Rattle.std.specs.Prelude.{Bool, true, false, cond, ◌&&◌, List, [], ◌∷◌, ◌++◌, map, ◌≡◌, ℕ, zero, suc, ◌+◌, ◌-◌, ◌*◌, ◌/◌, ◌≤◌, eqb, leb, ltb, length, get_or, drop, Result, Ok, Err}
use Rattle.std.proofs.Math.Option
use Rattle.std.proofs.Math.Option.{Option, none, some}
use Rattle.model.specs.declared.Key.{Key}
use Rattle.model.specs.declared.Refusal.{Refusal}
use Rattle.model.specs.declared.Refusal.TheVariants.{NotAStore}
use Rattle.model.specs.Keys.{NIL, Tuple, space_key}
use Rattle.model.specs.Tuples.{Tuples}
use Rattle.model.specs.Numbers.{every_up_to}
use Rattle.model.specs.Rules.{sound}

-- ---- the layout

abbrev pub word : List ℕ → ℕ → ℕ
word b i = get_or b i 0

-- words before the first record; words of a record
abbrev pub head_words : ℕ
head_words = 4

abbrev pub record_words : ℕ
record_words = 6

-- "a length outside 10 to 12,297 words"
abbrev pub least_length : ℕ
least_length = 10

abbrev pub most_length : ℕ
most_length = 12297

-- "a buffer of 10 to 12,297 words"
unfoldable pub fits_length : List ℕ → Bool
fits_length b = leb least_length (length b) && leb (length b) most_length

-- "C = (length − 4) / 6 rounded down"
unfoldable pub capacity_of : List ℕ → ℕ
capacity_of b = (length b - head_words) / record_words

-- "Word 0 is C"
abbrev pub size_word : List ℕ → ℕ
size_word b = capacity_of b

-- "Record i, 1 to C, starts at word 4 + 6 × (i − 1)"
abbrev pub record_start : ℕ → ℕ
record_start i = head_words + record_words * (i - 1)

-- a word of record i, by its place in the record: "next index, s, n, g, m, value"
unfoldable pub word_of : List ℕ → ℕ → ℕ → ℕ
word_of b i place = word b (record_start i + place)

abbrev pub next_place : ℕ
next_place = 0

abbrev pub value_place : ℕ
value_place = 5

unfoldable pub next : List ℕ → ℕ → ℕ
next b i = word_of b i next_place

unfoldable pub key_at : List ℕ → ℕ → Key
key_at b i = record { s = word_of b i 1; n = word_of b i 2; g = word_of b i 3; m = word_of b i 4 }

unfoldable pub tuple_at : List ℕ → ℕ → Tuple
tuple_at b i = record { key = key_at b i; value = word_of b i value_place }

-- "Words past record C are never touched."
unfoldable pub past_records : List ℕ → List ℕ
past_records b = drop (head_words + record_words * capacity_of b) b

-- ---- chains

-- "A next of 0 ends a chain": the records that a chain meets from its start, where it ends within so many records
unfoldable pub walk : (ℕ → ℕ) → ℕ → ℕ → Option (List ℕ)
walk link zero zero = some []
walk link zero (suc i) = none
walk link (suc most) zero = some []
walk link (suc most) (suc i) = Option.map (λ (is : List ℕ). suc i ∷ is) (walk link most (link (suc i)))

unfoldable pub ends : Option (List ℕ) → Bool
ends none = false
ends (some is) = true

unfoldable pub or_nothing : Option (List ℕ) → List ℕ
or_nothing none = []
or_nothing (some is) = is

-- "word 1 heads the used chain, word 2 the free chain"
unfoldable pub used_chain : List ℕ → Option (List ℕ)
used_chain b = walk (next b) (capacity_of b) (word b 1)

unfoldable pub free_chain : List ℕ → Option (List ℕ)
free_chain b = walk (next b) (capacity_of b) (word b 2)

unfoldable pub used_of : List ℕ → List ℕ
used_of b = or_nothing (used_chain b)

unfoldable pub free_of : List ℕ → List ℕ
free_of b = or_nothing (free_chain b)

-- "A used record holds the tuple that its key and value give": the tuples that a store holds, in chain order
unfoldable pub tuples_of : List ℕ → Tuples
tuples_of b = map (tuple_at b) (used_of b)

abbrev pub one_if : Bool → ℕ
one_if true = 1
one_if false = 0

-- how often an index stands in a list of indices
unfoldable pub count : ℕ → List ℕ → ℕ
count i [] = 0
count i (j ∷ js) = one_if (eqb i j) + count i js

-- ---- a store

-- "A store is a buffer of 10 to 12,297 words where: word 0 fits; both heads and every next are at most C;
-- the two chains together meet each record exactly once; word 3 is right; .." and the rules on the tuples
unfoldable pub is_store : List ℕ → Bool
is_store b =
    fits_length b
    && (eqb (word b 0) (size_word b)
    && (leb (word b 1) (capacity_of b)
    && (leb (word b 2) (capacity_of b)
    && (every_up_to (λ (i : ℕ). leb (next b i) (capacity_of b)) (capacity_of b)
    && (ends (used_chain b)
    && (ends (free_chain b)
    && (every_up_to (λ (i : ℕ). eqb (count i (used_of b ++ free_of b)) 1) (capacity_of b)
    && (eqb (word b 3) (length (used_of b)) && sound (tuples_of b)))))))))

-- ---- preparing

-- the next free record in ascending order, 0 after the last
unfoldable pub follower : ℕ → ℕ → ℕ
follower C i = cond (ltb i C) (suc i) 0

-- "Preparing uses record 1 for UNIVERSE, chains 2 to C as free in ascending order": what it leaves of a buffer of 10 to 12,297 words.
-- Left to the builder: the words of free records besides next.
pub record Prepared (before after : List ℕ) : Type 0 where
  pub fits : fits_length before ≡ true
  pub size : length after ≡ length before
  pub capacity : word after 0 ≡ size_word before
  pub used_head : word after 1 ≡ 1
  pub free_head : word after 2 ≡ follower (capacity_of before) 1
  pub used : word after 3 ≡ 1
  pub universe_last : next after 1 ≡ 0
  pub universe : tuple_at after 1 ≡ record { key = space_key 0; value = NIL }
  pub free : (i : ℕ) → 2 ≤ i → i ≤ capacity_of before → next after i ≡ follower (capacity_of before) i
  pub past : past_records after ≡ past_records before

-- all that preparing does, on any buffer: condition 1, "a length outside 10 to 12,297 words", changes nothing; else it "returns C"
pub record Preparing (b : List ℕ) (a : Result ℕ Refusal) (b' : List ℕ) : Type 0 where
  pub outside : fits_length b ≡ false → (a ≡ Err NotAStore) × (b' ≡ b)
  pub inside : fits_length b ≡ true → (a ≡ Ok (capacity_of b)) × Prepared b b'
