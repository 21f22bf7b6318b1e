use Rattle.run.proofs.Turns.{run_end, run_turn}
use Rattle.run.specs.Words.{calls_in}
use Rattle.run.proofs.run_all.Goals as goal

pub loop-i-preserved : goal.loop-i-preserved
loop-i-preserved c = search run_turn

pub returns : goal.returns
unfolding calls_in
returns c = search run_end
