-- A layout of the buffer: all that the contract of a call and the demands read of a buffer, and no more.
use Rattle.std.specs.Prelude.{Bool, true, List, ◌↔◌, ◌≡◌, ℕ, ◌+◌, ◌≤◌, length}
use Rattle.model.specs.Tuples.{fresh}
use Rattle.model.specs.Machine.{State}
use Rattle.model.specs.Rules.{TupleRules}

pub record Layout : Type 1 where
  -- C, how many records a buffer of this length has
  pub capacity_of : List ℕ → ℕ
  -- which buffers are stores: a test that computes, and the rules as statements
  pub is_store : List ℕ → Bool
  pub IsStore : List ℕ → Type 0
  -- the state that a store holds, and its free records
  pub state_of : List ℕ → State
  pub free_of : List ℕ → List ℕ
  -- the words past record C
  pub past_records : List ℕ → List ℕ
  -- what preparing leaves of a buffer that it accepts
  pub Prepared : List ℕ → List ℕ → Type 0

-- what every layout proves of itself
pub record Lawful (Y : Layout) : Type 0 where
  -- the length alone decides C
  pub sized : (b b' : List ℕ) → length b' ≡ length b → Y.capacity_of b' ≡ Y.capacity_of b
  -- a store has at most 2,048 records
  pub most : (b : List ℕ) → Y.is_store b ≡ true → Y.capacity_of b ≤ 2048
  -- the test says yes exactly when the rules hold
  pub exactly : (b : List ℕ) → (Y.is_store b ≡ true) ↔ Y.IsStore b
  pub rules : (b : List ℕ) → Y.is_store b ≡ true → TupleRules (Y.state_of b)
  -- "tuples + free = C"
  pub counted : (b : List ℕ) → Y.is_store b ≡ true → length (Y.state_of b) + length (Y.free_of b) ≡ Y.capacity_of b
  -- a buffer just prepared is a fresh store of the same length
  pub prepared_size : (raw b : List ℕ) → Y.Prepared raw b → length b ≡ length raw
  pub prepared_store : (raw b : List ℕ) → Y.Prepared raw b → Y.is_store b ≡ true
  pub prepared_state : (raw b : List ℕ) → Y.Prepared raw b → Y.state_of b ≡ fresh
