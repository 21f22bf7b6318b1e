use Rattle.refusals.proofs.Absent.{node_asked}
use Rattle.refusals.proofs.node_absent.Goals as goal

pub returns : goal.returns
returns c = search node_asked
