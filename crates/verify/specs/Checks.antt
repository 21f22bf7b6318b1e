-- Document 01, "A store is a buffer of 10 to 12,297 words where: ..": the test `is_store` of the model in the parts that the check takes one after another.
-- What is said of the tuples alone, and of a chain that ends, is in presence/specs/Presence.antt. proofs/Parts.antt proves that the parts together are the test.
use Rattle.std.specs.Prelude.{Bool, true, cond, not, ◌&&◌, ◌||◌, List, ◌++◌, ◌≡◌, ℕ, zero, suc, ◌+◌, ◌-◌, ◌≤◌, eqb, leb, ltb, length, Option, Some, None}
use Rattle.model.specs.declared.Key.{Key}
use Rattle.model.specs.Ordered.{is_less}
use Rattle.model.specs.Keys.{space_key, compare_keys, same_key}
use Rattle.model.specs.Tuples.{Tuples}
use Rattle.layouts.specs.Buffer.{word, fits_length, capacity_of, size_word, next, key_at, walk, ends, used_chain, free_chain, used_of, free_of, tuples_of, count}
use Rattle.model.specs.Numbers.{every_up_to}
use Rattle.model.specs.Rules.{ascends_from_universe, every_key}
use Rattle.presence.specs.declared.kept.KeptRecords.{KeptRecords}
use Rattle.presence.specs.Presence.{ends_within, good_key, with_named, settled, kept_with, Decided}
use Rattle.verify.specs.declared.chains.Walk.{Walk}
use Rattle.verify.specs.declared.chains.Walked.{Walked}
use Rattle.verify.specs.declared.keys.Used.{Used}

-- ---- words and nexts

-- "a buffer of 10 to 12,297 words where: word 0 fits; both heads .. are at most C"
unfoldable pub heads_fit : List ℕ → Bool
heads_fit b = fits_length b && (eqb (word b 0) (size_word b) && (leb (word b 1) (capacity_of b) && leb (word b 2) (capacity_of b)))

-- ".. and every next [is] at most C"
unfoldable pub nexts_within : List ℕ → Bool
nexts_within b = every_up_to (λ (i : ℕ). leb (next b i) (capacity_of b)) (capacity_of b)

-- ---- the two chains

-- "the two chains together meet each record exactly once"
unfoldable pub met_once : List ℕ → Bool
met_once b = every_up_to (λ (i : ℕ). eqb (count i (used_of b ++ free_of b)) 1) (capacity_of b)

-- both chains end, they meet each record exactly once, "word 3 is right"
unfoldable pub chains_right : List ℕ → Bool
chains_right b = ends (used_chain b) && (ends (free_chain b) && (met_once b && eqb (word b 3) (length (used_of b))))

-- every next at most C, and the chains right
unfoldable pub links_right : List ℕ → Bool
links_right b = nexts_within b && chains_right b

-- how many records a chain meets from its start, counted up to so many
unfoldable pub steps : (ℕ → ℕ) → ℕ → ℕ → ℕ
steps link zero i = 0
steps link (suc most) zero = 0
steps link (suc most) (suc i) = suc (steps link most (link (suc i)))

-- the last record that a chain meets within so many; d where it meets none
unfoldable pub last_met : (ℕ → ℕ) → ℕ → ℕ → ℕ → ℕ
last_met link zero i d = d
last_met link (suc most) zero d = d
last_met link (suc most) (suc i) d = last_met link most (link (suc i)) (suc i)

-- what a walk finds from where it is, where the chain ends with records of at most C: how many records it meets, the last of them
unfoldable pub walked_on : List ℕ → Walk → Option Walked
walked_on b w =
    cond (ends_within (capacity_of b) (walk (next b) w.left w.at))
    (Some (record {
      count = (capacity_of b - w.left) + steps (next b) w.left w.at;
      last = last_met (next b) w.left w.at w.last;
    }))
    None

-- a walk of at most C records from a head
unfoldable pub walked_from : List ℕ → ℕ → Option Walked
walked_from b head = walked_on b (record { at = head; left = capacity_of b; last = 0 })

-- a walk one record on; one that has ended stays, and so does one that leaves the records
unfoldable pub stepped : List ℕ → Walk → Walk
stepped b w = cond (eqb w.at 0 || ltb (capacity_of b) w.at) w (record { at = next b w.at; left = w.left - 1; last = w.at })

-- is the next of a record the one after it in the buffer
unfoldable pub in_run : List ℕ → ℕ → Bool
in_run b at = ltb 0 at && (leb at (capacity_of b) && eqb (next b at) (at + 1))

-- a walk, with so many to go, as far as each next is the record after
unfoldable pub along_run : List ℕ → ℕ → ℕ → ℕ → Walk
along_run b zero at last = record { at = at; left = 0; last = last }
along_run b (suc left) at last = cond (in_run b at) (along_run b left (at + 1) at) (record { at = at; left = suc left; last = last })

-- a walk of the free chain that has gone some records on, with so many to go at least
pub record FreeWalk (b : List ℕ) (w : Walk) (most : ℕ) : Type 0 where
  pub few : w.left ≤ capacity_of b
  pub enough : most ≤ w.left
  pub same : walked_on b w ≡ walked_from b (word b 2)

-- ---- keys

-- the keys ascend from (0,0,0,0), and each is one that a store may hold
unfoldable pub keys_right : Tuples → Bool
keys_right ts = ascends_from_universe ts && every_key good_key ts

-- may a walk meet a record, with so many to go
unfoldable pub may_meet : ℕ → ℕ → ℕ → Bool
may_meet C left at = leb at C && not (eqb left 0)

-- may a key follow another in a store
unfoldable pub key_follows : Key → Key → Bool
key_follows j k = is_less (compare_keys j k) && good_key k

-- is there a first used record, with UNIVERSE's key
unfoldable pub starts_right : List ℕ → Bool
starts_right b = not (eqb (word b 1) 0) && same_key (key_at b (word b 1)) (space_key 0)

-- the walk of the used chain, given up where its keys are not right
unfoldable pub used_walk : List ℕ → Option Walked
used_walk b = cond (ends_within (capacity_of b) (used_chain b) && keys_right (tuples_of b)) (walked_from b (word b 1)) None

-- ---- the whole walk of the used chain

-- what the walk leaves: what it finds, the marks and the kept records
pub record UsedRun : Type 0 where
  pub used : Option Used
  pub marks : List ℕ
  pub kept : KeptRecords

-- a walk that is given up
abbrev pub run_stopped : List ℕ → KeptRecords → UsedRun
run_stopped marks kept = record { used = None; marks = marks; kept = kept }

-- a walk that has met so many records up to the end of the chain
abbrev pub run_ended : ℕ → ℕ → Bool → Walk → List ℕ → KeptRecords → UsedRun
run_ended count last sure free marks kept =
    record { used = Some (record { walked = record { count = count; last = last }; sure = sure; free = free }); marks = marks; kept = kept }

-- may the walk take a record after another, with so many to go
unfoldable pub may_take : List ℕ → ℕ → ℕ → ℕ → Bool
may_take b left last at = may_meet (capacity_of b) left at && key_follows (key_at b last) (key_at b at)

-- the walk from a record on, with so many to go: each record is looked at, kept and marked, and the free chain is walked beside it
unfoldable pub used_run : List ℕ → ℕ → ℕ → ℕ → Bool → Walk → List ℕ → KeptRecords → UsedRun
used_run b zero at last sure free marks kept =
    cond (eqb at 0) (run_ended (capacity_of b - 0) last sure free marks kept) (run_stopped marks kept)
used_run b (suc left) at last sure free marks kept =
    cond (eqb at 0) (run_ended (capacity_of b - suc left) last sure free marks kept)
    (cond (may_take b (suc left) last at)
    (used_run b left (next b at) at (sure && settled b marks (key_at b last) (key_at b at)) (stepped b free) (with_named marks (key_at b at) at)
    (kept_with marks kept (key_at b at) at))
    (run_stopped marks kept))

-- the whole walk, with these marks and these kept records at first
unfoldable pub used_run_of : List ℕ → List ℕ → KeptRecords → UsedRun
used_run_of b marks kept =
    cond (starts_right b)
    (used_run b (capacity_of b - 1) (next b (word b 1)) (word b 1) true (record { at = word b 2; left = capacity_of b; last = 0 }) marks kept)
    (run_stopped marks kept)

-- what the walk finds of the tuples, and the free chain walked beside it
pub record UsedFound (b marks : List ℕ) (kept : KeptRecords) (sure : Bool) (free : Walk) : Type 0 where
  pub tuples : Decided b marks kept sure
  pub beside : FreeWalk b free 0
