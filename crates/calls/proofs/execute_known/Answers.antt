use Rattle.std.proofs.lemmas.Result.{err_from_is_err_and}
use Rattle.calls.proofs.AtOnce.{at_once_known, none_listed, as_it_was}
use Rattle.refusals.proofs.Admissions.{refused_by, admitted_is}
use Rattle.calls.proofs.Known.{call_refused, idle_known, decoded_fields, decoded_first, as_called}
use Rattle.refusals.proofs.Stops.{tested}
use Rattle.calls.proofs.execute_known.Goals as goal

pub returns-in_err-a : goal.returns-in_err-a
returns-in_err-a c =
    let p = err_from_is_err_and c.from_residual.result c.from_residual.ensures.1 in
    rw (p.1, p.2) (call_refused _ _ _ _ c.requires (refused_by _ _ _ c.admit.ensures c.in_err-a.was))

pub returns-then-selects_nothing : goal.returns-then-selects_nothing
returns-then-selects_nothing c = as_called _ _ _ _ _ c.in_ok-a.a _ (admitted_is _ _ _ c.admit.ensures c.in_ok-a.was).0 (search (idle_known, decoded_first, (admitted_is _ _ _ c.admit.ensures c.in_ok-a.was).1))

pub returns-in-Some : goal.returns-in-Some
returns-in-Some c =
    as_called _ _ _ _ _ c.in_ok-a.a _ (admitted_is _ _ _ c.admit.ensures c.in_ok-a.was).0 (search (at_once_known, (admitted_is _ _ _ c.admit.ensures c.in_ok-a.was).1, decoded_fields))

pub look_up-requires : goal.look_up-requires
look_up-requires c = (search, (admitted_is _ _ _ c.admit.ensures c.in_ok-a.was).1, search tested)

pub returns : goal.returns
returns c = as_called _ _ _ _ _ c.in_ok-a.a _ (admitted_is _ _ _ c.admit.ensures c.in_ok-a.was).0 (search (as_it_was, none_listed))
