use Rattle.std.proofs.Common.{length, ◌≡◌, OnOk}
use Rattle.script.proofs.Blocks.{Going}
use Rattle.program.proofs.Output.{Written}
use Rattle.program.proofs.run_lines.Given as goal

-- The lines before `rest` have been run, the block of output keeps its size, and where no write failed the output has what these lines print.
abbrev pub invariant-loop-rest : goal.invariant-loop-rest
invariant-loop-rest g l =
    Going l.fn.store l.fn.list l.script l.store l.list l.rest × (length l.out ≡ 65536)
    × OnOk l.written (Written (g.W.Write.contents l.fn.output) (g.W.Write.contents l.output) l.fn.store l.script l.store l.rest)

abbrev pub decreases-loop-rest : goal.decreases-loop-rest
decreases-loop-rest g l = length l.rest
