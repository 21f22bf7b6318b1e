use Rattle.edit.proofs.Sweeps.{Sweeping}
use Rattle.chain.proofs.Walks.{remaining}
use Rattle.edit.proofs.sweep.Given as goal

abbrev pub invariant-loop-at : goal.invariant-loop-at
invariant-loop-at l = Sweeping l.initial.b l.sel l.b l.before l.at

abbrev pub decreases-loop-at : goal.decreases-loop-at
decreases-loop-at l = remaining l.b l.at
