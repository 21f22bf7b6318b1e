use Rattle.print.specs.Answers.{Adds}
use Rattle.print.proofs.Entries.{first_entries}
use Rattle.print.proofs.line.Line.put_entries.Given as goal

abbrev pub invariant-loop-w : goal.invariant-loop-w
invariant-loop-w l = Adds (first_entries l.list l.w-index) l.initial.self l.self
