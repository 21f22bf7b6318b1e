use mathlib.Core.Path.{refl}
use Rattle.model.specs.Refusals.{of_call}
use Rattle.refusals.specs.Admissions.{call_admitted}
use Rattle.refusals.proofs.Stops.{stops, passes, tested, nothing_left}
use Rattle.refusals.proofs.Admissions.{not_decoded, decoded_is, as_decoded}
use Rattle.refusals.proofs.NamedCall.admit.Goals as goal

pub returns-in_default : goal.returns-in_default
unfolding call_admitted of_call
returns-in_default c = stops _ _ _ _ _ refl (not_decoded _ _ c.of.ensures c.in_default.is)

pub returns-then-zero_name : goal.returns-then-zero_name
unfolding call_admitted of_call
returns-then-zero_name c =
    let D = decoded_is _ _ _ c.of.ensures c.in-Some.is in
    as_decoded _ _ _ D.0 (search (passes, stops) depth 14)

pub returns-then-lacks_space : goal.returns-then-lacks_space
unfolding call_admitted of_call
returns-then-lacks_space c =
    let D = decoded_is _ _ _ c.of.ensures c.in-Some.is in
    as_decoded _ _ _ D.0 (search (passes, stops) depth 14)

pub returns-then-destroys_universe : goal.returns-then-destroys_universe
unfolding call_admitted of_call
returns-then-destroys_universe c =
    let D = decoded_is _ _ _ c.of.ensures c.in-Some.is in
    as_decoded _ _ _ D.0 (search (passes, stops) depth 14)

pub invariant_of-result : goal.invariant_of-result
invariant_of-result c =
    record { known = (decoded_is _ _ _ c.of.ensures c.in-Some.is).1; named = tested _ _ _ c.zero_name.ensures c.if-zero_name.false }

pub returns : goal.returns
unfolding call_admitted of_call
returns c =
    let D = decoded_is _ _ _ c.of.ensures c.in-Some.is in
    as_decoded _ _ _ D.0 (search (passes, nothing_left) depth 14)
