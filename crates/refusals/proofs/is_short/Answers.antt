use Rattle.refusals.proofs.Stops.{short_names}
use Rattle.refusals.proofs.is_short.Goals as goal

pub list_short-requires : goal.list_short-requires
list_short-requires c = (search, search, search short_names)
