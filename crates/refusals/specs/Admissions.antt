-- A call that is admitted, as the call that it is.
use Rattle.std.specs.Prelude.{Result, Ok, Err}
use Rattle.model.specs.declared.Call.{Call}
use Rattle.model.specs.declared.Refusal.{Refusal}
use Rattle.refusals.specs.declared.NamedCall.{NamedCall}

-- the call, where it is admitted
unfoldable pub call_admitted : Result NamedCall Refusal → Result Call Refusal
call_admitted (Ok a) = Ok a.read.call
call_admitted (Err condition) = Err condition
