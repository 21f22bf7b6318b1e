use Rattle.gaffdamson.proofs.Outcomes.{answer_counted, called}
use Rattle.gaffdamson.proofs.gaffdamson_call.Goals as goal

pub answer_words-requires : goal.answer_words-requires
answer_words-requires c = search answer_counted

pub returns : goal.returns
returns c = search called
