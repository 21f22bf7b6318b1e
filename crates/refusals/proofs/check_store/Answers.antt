use Rattle.refusals.specs.Checks.{of_store}
use Rattle.model.specs.Refusals.{of_tuples}
use Rattle.edit.proofs.Built.{store_linked}
use Rattle.refusals.proofs.Stops.{stops, passes, tested}
use Rattle.refusals.proofs.check_store.Goals as goal

pub returns-then-space_absent : goal.returns-then-space_absent
unfolding of_store of_tuples
returns-then-space_absent c = search stops

pub node_absent-requires : goal.node_absent-requires
node_absent-requires c = (search store_linked, search, search, search tested)

pub returns-then-node_absent : goal.returns-then-node_absent
unfolding of_store of_tuples
returns-then-node_absent c = search (passes, stops) depth 14

pub returns-then-second_absent : goal.returns-then-second_absent
unfolding of_store of_tuples
returns-then-second_absent c = search (passes, stops) depth 14

pub returns : goal.returns
unfolding of_store of_tuples
returns c = search passes depth 14
