use Rattle.pairs.proofs.Executed.{executed_answered, listed_readable, listed_fits, executed_listed}
use Rattle.pairs.proofs.execute_pairs.Goals as goal

pub returns-in-Answered : goal.returns-in-Answered
returns-in-Answered c = search executed_answered

pub write_pairs-requires : goal.write_pairs-requires
write_pairs-requires c = (search listed_readable, search listed_fits)

pub returns-in-Listed : goal.returns-in-Listed
returns-in-Listed c = search executed_listed
