use Rattle.gaffdamson.proofs.Outcomes.{pairs_counted, called_in_pairs}
use Rattle.gaffdamson.proofs.gaffdamson_call_pairs.Goals as goal

pub answer_words-requires : goal.answer_words-requires
answer_words-requires c = search pairs_counted

pub returns : goal.returns
returns c = search called_in_pairs
