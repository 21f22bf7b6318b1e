use Rattle.run.proofs.Turns.{Running}
use Rattle.run.proofs.run_all.Given as goal

abbrev pub invariant-loop-i : goal.invariant-loop-i
invariant-loop-i l = Running l.calls l.count l.initial.store l.initial.answers l.initial.lists l.store l.answers l.lists l.at l.i
