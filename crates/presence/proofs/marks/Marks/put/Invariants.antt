use Rattle.presence.proofs.Hints.{Placing}
use Rattle.presence.proofs.marks.Marks.put.Given as goal

abbrev pub invariant-loop : goal.invariant-loop
invariant-loop l = Placing l.initial.self.words l.self.words l.w l.from l.place l.counter
