-- Demand 1 of one call, on any buffer and with any answer list, whether the list is of words or of pairs.
-- That the call ends with the answer that document 01 names, on every buffer and for every number, is `OneCall.no_store` and `OneCall.on_store`.
use Rattle.std.specs.Prelude.{true, false, List, ◌↔◌, ◌≡◌, ℕ, Result, Err}
use Rattle.model.specs.declared.Call.{Call}
use Rattle.model.specs.declared.Answer.{Answer}
use Rattle.model.specs.declared.Refusal.{Refusal}
use Rattle.model.specs.declared.Refusal.TheVariants.{NotAStore}
use Rattle.model.specs.Operators.{operator_of}
use Rattle.model.specs.Refusals.{selects_nothing}
use Rattle.model.specs.Layouts.{Layout}
use Rattle.model.specs.OneCall.{writes}

-- the call c on the buffer b with the answer list l gives the answer a and leaves the buffer b' and the list l'
pub record Demand1 (Y : Layout) {A : Type 0} (b : List ℕ) (l : List A) (c : Call) (a : Result Answer Refusal) (b' : List ℕ) (l' : List A) : Type 0 where
  -- "A refusal is a number and changes no word of the store or of the answer list.", whatever the condition
  pub refused : (condition : Refusal) → a ≡ Err condition → (b' ≡ b) × (l' ≡ l)
  -- "A buffer that isn't a store is itself refused.": 1 is answered exactly when the buffer breaks the rules of a store
  pub no_store : (a ≡ Err NotAStore) ↔ (Y.IsStore b → ⊥)
  -- "Operators of V, X and S change no word."
  pub reading : writes (operator_of c.operator) ≡ false → b' ≡ b
  -- request 1, "C, B and D change nothing", and no other operator does: with no selection every word of the buffer and of the list stays
  pub unselected : selects_nothing c ≡ true → (b' ≡ b) × (l' ≡ l)
