use Rattle.pairs.proofs.WrittenPairs.{pair_written}
use Rattle.pairs.proofs.write_pair.Goals as goal

pub returns : goal.returns
returns c = search pair_written
