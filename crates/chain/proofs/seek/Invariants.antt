use Rattle.chain.proofs.Walks.{remaining}
use Rattle.chain.proofs.Places.{Seeking}
use Rattle.chain.proofs.seek.Given as goal

abbrev pub invariant-loop-at : goal.invariant-loop-at
invariant-loop-at l = Seeking l.b l.k l.before l.at

abbrev pub decreases-loop-at : goal.decreases-loop-at
decreases-loop-at l = remaining l.b l.at
