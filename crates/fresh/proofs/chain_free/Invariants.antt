use Prim.Native.Nat.{◌-◌, ◌≤◌}
use mathlib.Core.Path.{◌≡◌}
use Rattle.fresh.specs.Prepare.{chained}
use Rattle.fresh.proofs.chain_free.Given as goal

abbrev pub invariant-loop-i : goal.invariant-loop-i
invariant-loop-i l = (l.i - 2 ≤ l.c - 1) × (l.b ≡ chained l.c l.initial.b (l.i - 2))
