use lib.ListN.{length}
use Rattle.presence.specs.Presence.{records_from}
use Rattle.presence.proofs.Rest.{Seeking}
use Rattle.presence.proofs.seek.holds_from.Given as goal

abbrev pub invariant-loop-at : goal.invariant-loop-at
invariant-loop-at l = Seeking l.b l.k l.from l.at

abbrev pub decreases-loop-at : goal.decreases-loop-at
decreases-loop-at l = length (records_from l.b l.at)
