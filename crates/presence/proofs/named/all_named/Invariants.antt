use lib.ListN.{length}
use Rattle.layouts.specs.Buffer.{tuples_of}
use Rattle.presence.specs.Presence.{records_from, named_present}
use Rattle.presence.proofs.Rest.{EveryLeft}
use Rattle.presence.proofs.named.all_named.Given as goal

abbrev pub invariant-loop-at : goal.invariant-loop-at
invariant-loop-at l = EveryLeft (named_present (tuples_of l.b)) l.b l.at

abbrev pub decreases-loop-at : goal.decreases-loop-at
decreases-loop-at l = length (records_from l.b l.at)
