-- A call that is decoded, as the call that it is.
use Rattle.std.specs.Prelude.{Option, Some, None}
use Rattle.model.specs.declared.Call.{Call}
use Rattle.operators.specs.declared.DecodedCall.{DecodedCall}

-- the call, where it is decoded
unfoldable pub call_decoded : Option DecodedCall → Option Call
call_decoded None = None
call_decoded (Some c) = Some c.call
