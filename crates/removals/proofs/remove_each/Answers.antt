use Rattle.removals.proofs.Collects.{removing_next}
use Rattle.removals.proofs.remove_each.Goals as goal

pub loop-n-preserved : goal.loop-n-preserved
loop-n-preserved c = search removing_next
