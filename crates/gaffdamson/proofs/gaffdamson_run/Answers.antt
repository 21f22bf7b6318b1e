use Rattle.gaffdamson.proofs.Outcomes.{ran_as}
use Rattle.gaffdamson.proofs.gaffdamson_run.Goals as goal

pub returns : goal.returns
returns c = search ran_as
