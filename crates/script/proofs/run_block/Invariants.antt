use Rattle.script.proofs.Turns.{Running}
use lib.ListN.{length as size}
use Prim.Native.Nat.{◌-◌}
use Rattle.script.proofs.run_block.Given as goal

abbrev pub invariant-loop-at : goal.invariant-loop-at
invariant-loop-at l =
    Running l.initial.store l.initial.list l.script l.initial.out l.store l.list l.at l.length l.out

abbrev pub decreases-loop-at : goal.decreases-loop-at
decreases-loop-at l = size l.script - l.at
