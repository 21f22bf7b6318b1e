use lib.ListN.{length}
use Rattle.presence.specs.Presence.{records_from}
use Rattle.presence.proofs.EdgeEnds.{Spanning}
use Rattle.presence.proofs.Rest.{Seeking}
use Rattle.presence.proofs.edge_ends.edges_ended.Given as goal

abbrev pub invariant-loop-end : goal.invariant-loop-end
invariant-loop-end l = Seeking l.b l.end l.space l.seek

abbrev pub decreases-loop-end : goal.decreases-loop-end
decreases-loop-end l = length (records_from l.b l.seek)

abbrev pub invariant-tuples : goal.invariant-tuples
invariant-tuples l = Spanning l.b l.space l.at

abbrev pub decreases-tuples : goal.decreases-tuples
decreases-tuples l = length (records_from l.b l.at)
