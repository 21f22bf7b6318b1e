-- Every call of the operators 1 to 57 has a line that does what the call does.
use mathlib.Core.Path.{◌≡◌, sym, ◌∙◌, ap}
use Rattle.model.specs.declared.Call.{Call}
use Rattle.model.specs.Machine.{State, machine}
use Rattle.model.proofs.Unread.{unread_fields}
use Rattle.lines.specs.Reachable.{line_of, CallFits}
use Rattle.lines.proofs.Reachable.{no_operator_out_of_reach}
use Rattle.script.specs.Scripts.{script_records, script_places, reading_outcome, line_outcome}

pub line_of_call : (ts : State) (c : Call) → CallFits c → line_outcome ts (line_of c) ≡ machine script_records ts c script_places
unfolding line_outcome reading_outcome
line_of_call ts c f = ap (reading_outcome ts) (no_operator_out_of_reach c f) ∙ sym (unread_fields script_records ts c script_places)
