-- What the functions that add, set and remove tuples ask of a buffer.
use Rattle.std.specs.Prelude.{false, cond, List, ◌≡◌, ℕ, ◌<◌, eqb, length}
use Rattle.model.specs.declared.Key.{Key}
use Rattle.model.specs.Keys.{Value}
use Rattle.model.specs.Tuples.{present, assign}
use Rattle.layouts.specs.Buffer.{word, capacity_of, key_at, used_of, tuples_of}
use Rattle.words.specs.Words.{put_value}
use Rattle.chain.specs.Links.{Linked, KeepsHints, place_in, find_in, Edited, remove_after}
use Rattle.taken.specs.declared.Selection.{Selection}
use Rattle.taken.specs.declared.Span.{Span}
use Rattle.taken.specs.Selections.{taken_by, span_start}

-- room for a key that is missing
pub record Adding (b : List ℕ) (k : Key) : Type 0 where
  pub linked : Linked b
  pub room : present k (tuples_of b) ≡ false → length (tuples_of b) < capacity_of b

-- the buffer with the value word of the record that holds the key written, and no other word; the same buffer where no record holds it
unfoldable pub assign_in : List ℕ → Key → Value → List ℕ
assign_in b k v = cond (eqb (find_in (key_at b) k (used_of b)) 0) b (put_value b (find_in (key_at b) k (used_of b)) v)

-- a key's value is set: every word of the buffer, and the tuples
pub record Assigned (b : List ℕ) (k : Key) (v : Value) (b' : List ℕ) : Type 0 where
  pub words : b' ≡ assign_in b k v
  pub edited : Edited b b' (assign k v (tuples_of b))
  pub hints : KeepsHints b b'

-- one record of a walk that removes: where the selection takes record `at`, it is unlinked
pub record Turned (b : List ℕ) (sel : Selection) (before at left : ℕ) (b' : List ℕ) : Type 0 where
  pub answer : left ≡ cond (taken_by sel (key_at b at)) before at
  pub buffer : b' ≡ cond (taken_by sel (key_at b at)) (remove_after b before) b

-- the record before a place, and the first record where none is before it
abbrev pub or_first : List ℕ → ℕ → ℕ
or_first b before = cond (eqb before 0) (word b 1) before

-- the record that a sweep of a span starts behind
unfoldable pub sweep_start : List ℕ → Span → ℕ
sweep_start b span = or_first b (place_in (key_at b) (span_start span) 0 (used_of b)).before
