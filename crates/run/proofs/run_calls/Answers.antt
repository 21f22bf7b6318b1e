use Rattle.run.proofs.Outcomes.{answers_short, lists_short, all_run}
use Rattle.run.proofs.run_calls.Goals as goal

pub returns-then-answers-calls : goal.returns-then-answers-calls
returns-then-answers-calls c = search answers_short

pub returns-then-not-lists_fit : goal.returns-then-not-lists_fit
returns-then-not-lists_fit c = search lists_short

pub returns : goal.returns
returns c = search all_run
