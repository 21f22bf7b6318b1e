use mathlib.Core.Path.{◌≡◌}
use Prim.Native.Nat.{◌≤◌}
use Rattle.layouts.specs.Buffer.{capacity_of}
use Rattle.verify.specs.Checks.{walked_on}
use Rattle.verify.proofs.chains.finish.Given as goal

abbrev pub invariant-loop-at : goal.invariant-loop-at
invariant-loop-at l =
    (l.c ≡ capacity_of l.b)
    × (l.left ≤ capacity_of l.b)
    × (walked_on l.b (record { at = l.at; left = l.left; last = l.last })
    ≡ walked_on l.b (record { at = l.initial.at; left = l.initial.left; last = l.initial.last }))

abbrev pub decreases-loop-at : goal.decreases-loop-at
decreases-loop-at l = l.left
