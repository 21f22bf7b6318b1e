use Rattle.refusals.proofs.Stops.{never_full, full_told}
use Rattle.refusals.proofs.is_full.Goals as goal

pub returns-then-free-ge-MOST_ADDED : goal.returns-then-free-ge-MOST_ADDED
returns-then-free-ge-MOST_ADDED c = search never_full

pub returns : goal.returns
returns c = search full_told
