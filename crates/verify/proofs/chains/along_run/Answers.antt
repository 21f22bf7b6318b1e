use mathlib.Core.Path.{sym, ◌∙◌}
use native.Mathlib.Omega.{arith}
use Rattle.layouts.specs.Buffer.{capacity_of}
use Rattle.verify.proofs.Walks.{run_low, along_on}
use Rattle.verify.proofs.chains.along_run.Goals as goal

pub overflow_add-at : goal.overflow_add-at
unfolding capacity_of
overflow_add-at c =
    omega (arith, run_low c.args.b.now c.loop-passed.at (sym c.in_run.ensures ∙ c.if-not-in_run.false), c.requires.most)

pub loop-passed-preserved : goal.loop-passed-preserved
loop-passed-preserved c =
    along_on _ _ _ _ _ c.loop-passed-test.true (sym c.in_run.ensures ∙ c.if-not-in_run.false) ∙ c.loop-passed.invariant
