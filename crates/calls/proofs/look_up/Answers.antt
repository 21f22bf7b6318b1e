use Rattle.std.proofs.lemmas.Result.{err_from_is_err_and}
use Rattle.located.proofs.Nearby.{universe_near, also_near, located_told}
use Rattle.edit.proofs.Built.{store_linked}
use Rattle.refusals.proofs.Admissions.{unstopped}
use Rattle.calls.proofs.Known.{ready, refused_known, performed_known, decoded_first}
use Rattle.calls.proofs.look_up.Goals as goal

pub locate_universe-above-requires : goal.locate_universe-above-requires
locate_universe-above-requires c = search store_linked

pub locate-l-requires : goal.locate-l-requires
locate-l-requires c = (search store_linked, search (universe_near, store_linked))

pub check_store-requires : goal.check_store-requires
check_store-requires c =
    let L = store_linked _ c.requires.0 in
    let T = located_told _ L _ _ c.locate-l.ensures in
    let U = universe_near _ L _ _ c.locate_universe-above.ensures in
    (c.requires.0, T, also_near _ L _ _ _ _ T.near U c.also_in_universe-universe.ensures, unstopped c.args.a)

pub returns-in_err-check_store : goal.returns-in_err-check_store
returns-in_err-check_store c =
    let p = err_from_is_err_and c.from_residual.result c.from_residual.ensures.1 in
    rw (p.1, p.2) (refused_known _ _ c.args.a.read.call c.args.a.read.decoded c.args.a.read.told c.requires.1 c.requires.2 _ c.requires.0 c.in_err-check_store.ensures)

pub perform-requires : goal.perform-requires
perform-requires c =
    let L = store_linked _ c.requires.0 in
    let T = located_told _ L _ _ c.locate-l.ensures in
    let U = universe_near _ L _ _ c.locate_universe-above.ensures in
    let R = ready _ c.args.list.now c.args.a.read.call c.args.a.read.decoded c.args.a.read.told c.requires.1 c.requires.2 c.in_ok-check_store.ensures in
    (c.requires.0, T.near, also_near _ L _ _ _ _ T.near U c.also_in_universe-universe.ensures, R)

pub returns : goal.returns
returns c =
    performed_known _ c.args.list.now c.args.a.read.call c.args.a.read.decoded c.args.a.read.told c.requires.1 c.requires.2 _ _ _ _
    c.requires.0 c.args.a.read.fit c.in_ok-check_store.ensures (search decoded_first) c.perform.ensures
