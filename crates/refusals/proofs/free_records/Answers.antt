use Rattle.refusals.proofs.Stops.{used_fits}
use Rattle.refusals.proofs.free_records.Goals as goal

pub overflow_sub-result : goal.overflow_sub-result
overflow_sub-result c = search used_fits
