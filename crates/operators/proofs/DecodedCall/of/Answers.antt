use Rattle.std.specs.Prelude.{Bool, cond, Some, None}
use Rattle.std.proofs.Common.{sym, ap}
use Rattle.operators.specs.DecodedCalls.{call_decoded}
use Rattle.operators.proofs.Known.{not_known, is_known}
use Rattle.operators.proofs.DecodedCall.of.Goals as goal

pub returns-in_err-operator : goal.returns-in_err-operator
unfolding call_decoded
returns-in_err-operator c = rw c.from_residual.ensures (not_known c.args.call _ c.known_operator.ensures c.in_err-operator.was)

pub decode_as-decoded-requires : goal.decode_as-decoded-requires
decode_as-decoded-requires c = (c.row_of-row.ensures, (is_known c.args.call _ _ c.known_operator.ensures c.in_ok-operator.was).1)

pub returns : goal.returns
unfolding call_decoded
returns c =
    let K = is_known c.args.call _ _ c.known_operator.ensures c.in_ok-operator.was in
    sym (ap (λ (t : Bool). cond t None (Some c.args.call)) K.0)
