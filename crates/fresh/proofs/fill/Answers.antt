use Rattle.fresh.proofs.Preparing.{long_enough, records_few, universe_ready, records_room, filled}
use native.Mathlib.Omega.{arith}
use Rattle.fresh.proofs.fill.Goals as goal

pub capacity-c-requires : goal.capacity-c-requires
capacity-c-requires c = search long_enough

pub put_heads-requires : goal.put_heads-requires
put_heads-requires c = (search (long_enough), search records_few)

pub put_universe-requires : goal.put_universe-requires
put_universe-requires c = search universe_ready

pub chain_free-requires : goal.chain_free-requires
chain_free-requires c =
    (omega (arith, records_room _ _ c.requires c.capacity-c.ensures), search records_few)

pub returns : goal.returns
returns c = search filled
