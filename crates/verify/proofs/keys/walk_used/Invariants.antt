use mathlib.Core.Path.{◌≡◌}
use Rattle.layouts.specs.Buffer.{capacity_of}
use Rattle.verify.specs.Checks.{used_run, used_run_of}
use Rattle.verify.proofs.OneWalk.{Using}
use Rattle.verify.proofs.keys.walk_used.Given as goal

abbrev pub invariant-loop-at : goal.invariant-loop-at
invariant-loop-at l =
    (l.c ≡ capacity_of l.b)
    × Using l.b l.marks.words l.kept l.sure l.left l.last l.at l.free
    × (used_run l.b l.left l.at l.last l.sure l.free l.marks.words l.kept ≡ used_run_of l.b l.initial.marks.words l.initial.kept)

abbrev pub decreases-loop-at : goal.decreases-loop-at
decreases-loop-at l = l.left
