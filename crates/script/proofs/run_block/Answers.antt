use Rattle.script.proofs.Turns.{run_start, run_turn, run_short, next_of}
use Rattle.script.proofs.run_block.Goals as goal

pub loop-at-init : goal.loop-at-init
loop-at-init c = search run_start

pub returns-then-out-length-lt-MOST_LINE : goal.returns-then-out-length-lt-MOST_LINE
returns-then-out-length-lt-MOST_LINE c = search run_short

pub loop-at-preserved : goal.loop-at-preserved
loop-at-preserved c = search (run_turn, next_of)
