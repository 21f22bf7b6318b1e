use Rattle.presence.proofs.Shows.{ends_all, ends_no}
use Rattle.presence.proofs.kept.KeptRecords.all_ends.Goals as goal

pub returns-then-not-end_there : goal.returns-then-not-end_there
returns-then-not-end_there c = search ends_no

pub returns : goal.returns
returns c = search ends_all
