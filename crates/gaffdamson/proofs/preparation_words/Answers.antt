use native.Mathlib.Omega.{arith}
use mathlib.Core.Path.{sym, ap, ◌∙◌}
use Rattle.model.specs.OneCall.{list_count}
use Rattle.gaffdamson.specs.Calls.{preparation_words}
use Rattle.gaffdamson.proofs.preparation_words.Goals as goal

pub answer_words-requires : goal.answer_words-requires
unfolding list_count
answer_words-requires c = omega arith

pub returns-in-Err : goal.returns-in-Err
unfolding preparation_words
returns-in-Err c = c.answer_words.ensures ∙ sym (ap preparation_words c.in-Err.is)

pub returns-in-Ok : goal.returns-in-Ok
unfolding preparation_words
returns-in-Ok c = sym (ap preparation_words c.in-Ok.is)
