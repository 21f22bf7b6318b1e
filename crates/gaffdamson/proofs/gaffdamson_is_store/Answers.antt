use Rattle.gaffdamson.proofs.Outcomes.{bit_told}
use Rattle.gaffdamson.proofs.gaffdamson_is_store.Goals as goal

pub returns : goal.returns
returns c = search bit_told
