use Rattle.presence.proofs.Shows.{EndsThere}
use Rattle.presence.proofs.kept.KeptRecords.all_ends.Given as goal

abbrev pub invariant-loop-i : goal.invariant-loop-i
invariant-loop-i l = EndsThere l.b l.self l.i-index
