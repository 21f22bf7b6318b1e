use mathlib.Core.Path.{◌≡◌}
use Prim.Native.Nat.{◌-◌}
use Rattle.verify.specs.Checks.{along_run}
use Rattle.verify.proofs.chains.along_run.Given as goal

abbrev pub invariant-loop-passed : goal.invariant-loop-passed
invariant-loop-passed l =
    along_run l.b (l.w.left - l.passed) l.at l.last ≡ along_run l.b l.w.left l.w.at l.w.last
