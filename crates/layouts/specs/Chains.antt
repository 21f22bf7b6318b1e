-- Document 01, "A store is a buffer of 10 to 12,297 words where: ..": its rules as statements; those on the tuples are TupleRules of the model.
-- proofs/Store.antt proves that the test `is_store` (Buffer.antt) says yes exactly when they hold.
use Rattle.std.specs.Prelude.{List, [], ◌∷◌, ◌++◌, map, ◌≢◌, ◌≡◌, ℕ, ◌≤◌, length}
use Rattle.model.specs.Rules.{TupleRules}
use Rattle.layouts.specs.Buffer.{word, least_length, most_length, capacity_of, size_word, next, tuple_at, count}

-- ---- the chains

-- the records that a chain meets, from its start; "a next of 0 ends a chain"
abbrev pub Chain : (ℕ → ℕ) → ℕ → List ℕ → Type 0
Chain link i [] = i ≡ 0
Chain link i (j ∷ js) = (i ≢ 0) × (j ≡ i) × Chain link (link i) js

-- records that are all 1 to C
abbrev pub Within : ℕ → List ℕ → Type 0
Within C [] = Unit {0}
Within C (i ∷ is) = (1 ≤ i) × (i ≤ C) × Within C is

-- what is left of a chain to walk: the records from `at` to its end
pub record Rest (b : List ℕ) (at : ℕ) : Type 0 where
  pub high : at ≤ capacity_of b
  pub rest : List ℕ
  pub chain : Chain (next b) at rest
  pub within : Within (capacity_of b) rest
  pub short : length rest ≤ capacity_of b

-- the rules on words 0 to 3 and the chains of a buffer whose used and free chains meet these records
pub record ChainRules (b used free : List ℕ) : Type 0 where
  -- "a buffer of 10 to 12,297 words"
  pub least : least_length ≤ length b
  pub most : length b ≤ most_length
  -- "word 0 fits"
  pub capacity : word b 0 ≡ size_word b
  -- "both heads and every next are at most C"
  pub used_head : word b 1 ≤ capacity_of b
  pub free_head : word b 2 ≤ capacity_of b
  pub nexts : (i : ℕ) → 1 ≤ i → i ≤ capacity_of b → next b i ≤ capacity_of b
  -- "the two chains together meet each record exactly once"
  pub used_chain : Chain (next b) (word b 1) used
  pub free_chain : Chain (next b) (word b 2) free
  pub once : (i : ℕ) → 1 ≤ i → i ≤ capacity_of b → count i (used ++ free) ≡ 1
  -- "word 3 is right"
  pub counted : word b 3 ≡ length used

-- ---- a store

pub record StoreRules (b used free : List ℕ) : Type 0 where
  pub chains : ChainRules b used free
  pub tuples : TupleRules (map (tuple_at b) used)

-- the rules of a store
abbrev pub IsStore : List ℕ → Type 0
IsStore b = (used : List ℕ) × (free : List ℕ) × StoreRules b used free
