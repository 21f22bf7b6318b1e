use mathlib.Core.Path.{sym, ap, ◌∙◌}
use Rattle.gaffdamson.specs.Calls.{run_word}
use Rattle.gaffdamson.proofs.run_word.Goals as goal

pub returns-in-Ok : goal.returns-in-Ok
unfolding run_word
returns-in-Ok c = sym (ap run_word c.in-Ok.is)

pub returns-in-Err : goal.returns-in-Err
unfolding run_word
returns-in-Err c = c.from.ensures ∙ sym (ap run_word c.in-Err.is)
