use Rattle.removals.proofs.Collects.{Removing}
use Rattle.removals.proofs.remove_each.Given as goal

abbrev pub invariant-loop-n : goal.invariant-loop-n
invariant-loop-n l = Removing l.initial.b l.s l.nodes l.b l.n-index
