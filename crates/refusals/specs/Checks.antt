-- What a check of conditions gives, and the conditions in two parts: on the call, and on what the store holds.
use Rattle.std.specs.Prelude.{false, List, [], ◌∷◌, ◌++◌, ◌≡◌, ℕ, Result, Ok, Err}
use Rattle.std.proofs.Math.Option.{Option, none, some}
use Rattle.model.specs.declared.Call.{Call}
use Rattle.model.specs.declared.Decoded.{Decoded}
use Rattle.model.specs.declared.Refusal.{Refusal}
use Rattle.model.specs.declared.Refusal.TheVariants.{EdgeAbsent, ListTooShort, Full}
use Rattle.model.specs.Tuples.{Tuples}
use Rattle.model.specs.Steps.{decoded}
use Rattle.model.specs.Refusals.{Stop, stop, no_operator, zero_name, edge_absent, list_short, full, of_tuples}

-- the condition that stops a call is the error; where none does, y is the result
unfoldable pub checked : {A : Type 0} → A → Option Refusal → Result A Refusal
checked y none = Ok y
checked y (some condition) = Err condition

-- conditions 5 to 10, in their order
unfoldable pub of_store : ℕ → Tuples → Decoded → ℕ → List Stop
of_store C ts d room = of_tuples ts d room ++ (stop Full (full C d ts) ∷ [])

-- the last of them: 8 to 10
abbrev pub of_step : ℕ → Tuples → Decoded → ℕ → List Stop
of_step C ts d room = stop EdgeAbsent (edge_absent d ts) ∷ stop ListTooShort (list_short d ts room) ∷ stop Full (full C d ts) ∷ []

-- what is read of a call that conditions 2 and 3 do not stop
pub record Unstopped (d : Decoded) : Type 0 where
  pub call : Call
  pub same : d ≡ decoded call
  pub known : no_operator call ≡ false
  pub named : zero_name call ≡ false
