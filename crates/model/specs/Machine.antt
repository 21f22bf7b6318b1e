-- Document 01, "The tuple machine": one call, and a list of calls.
use Rattle.std.specs.Prelude.{cond, List, [], ◌∷◌, ℕ, ◌≤◌}
use Rattle.std.proofs.Math.Option.{Option, none, some}
use Rattle.model.specs.declared.Call.{Call}
use Rattle.model.specs.declared.Fields.{Fields}
use Rattle.model.specs.declared.Refusal.{Refusal}
use Rattle.model.specs.Tuples.{Tuples}
use Rattle.model.specs.Keys.{most_name}
use Rattle.model.specs.Steps.{Reply, refusal, decoded, first_argument, reply, idle_reply, after}
use Rattle.model.specs.Refusals.{selects_nothing, refusal_of}

-- "Its state is a set of tuples .."
abbrev pub State : Type 0
State = Tuples

-- what a call answers, and the state after it
pub record Outcome : Type 0 where
  pub answer : Reply
  pub state : State

-- "Each operator is one step."
abbrev pub step : Call → State → Outcome
step c ts =
    let d = decoded c in
    record { answer = reply d.operator (first_argument d) d.fields ts; state = after d.operator d.fields ts }

-- request 1, "The tuple machine gains this step": with nothing as the space the state stays
abbrev pub idle : Call → State → Outcome
idle c ts = record { answer = idle_reply (decoded c).operator (first_argument (decoded c)); state = ts }

-- "A call that 'Where a call is stopped' stops leaves the state as it is, and its answer is the refusal of that number."
unfoldable pub outcome_of : Option Refusal → State → Call → Outcome
outcome_of (some condition) ts c = record { answer = refusal condition; state = ts }
outcome_of none ts c = cond (selects_nothing c) (idle c ts) (step c ts)

-- "It is fed only the calls: operator, fields and the length of the call's answer list."
unfoldable pub machine : ℕ → State → Call → ℕ → Outcome
machine C ts c room = outcome_of (refusal_of C ts c room) ts c

-- "every name a field of 16 bits"
pub record FieldsFit (f : Fields) : Type 0 where
  pub n : f.n ≤ most_name
  pub g : f.g ≤ most_name
  pub m : f.m ≤ most_name
  pub s : f.s ≤ most_name

-- a call with the length of its answer list
pub record CallRequest : Type 0 where
  pub call : Call
  pub room : ℕ

-- what a list of calls holds
pub data Request : Type 0 where
  calling : CallRequest → Request

-- what the machine does with each
unfoldable pub serve : ℕ → State → Request → Outcome
serve C ts (calling r) = machine C ts r.call r.room

-- the machine's answers to a list of calls ..
unfoldable pub answers : ℕ → State → List Request → List Reply
answers C ts [] = []
answers C ts (r ∷ rs) = (serve C ts r).answer ∷ answers C (serve C ts r).state rs

-- .. and its state after the last
unfoldable pub final : ℕ → State → List Request → State
final C ts [] = ts
final C ts (r ∷ rs) = final C (serve C ts r).state rs
