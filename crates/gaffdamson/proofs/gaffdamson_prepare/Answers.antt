use Rattle.gaffdamson.proofs.Outcomes.{prepared_as}
use Rattle.gaffdamson.proofs.gaffdamson_prepare.Goals as goal

pub returns : goal.returns
returns c = search prepared_as
