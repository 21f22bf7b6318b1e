use Rattle.entries.proofs.KeyTests.{nodes_outside, never_outside}
use Rattle.entries.specs.Queries.{outside}
use Rattle.entries.proofs.NamesQuerySource.is_past.Goals as goal

pub returns-in_default : goal.returns-in_default
unfolding outside
returns-in_default c = never_outside _ _ c.in_default.not-Nodes

pub returns : goal.returns
unfolding outside
returns c = search nodes_outside
