use Rattle.std.specs.Prelude.{Some}
use mathlib.Core.Path.{ap, ◌∙◌}
use Prim.Native.Nat.{ℕ, ◌-◌, ◌≤◌}
use native.Mathlib.Omega.{arith}
use Rattle.layouts.specs.Buffer.{capacity_of}
use Rattle.verify.proofs.Walks.{walked_run, walked_end, walked_long, walked_far}
use Rattle.verify.proofs.chains.finish.Goals as goal

pub returns-then-at-c : goal.returns-then-at-c
returns-then-at-c c =
    walked_far _ c.loop-at.left c.loop-at.at c.loop-at.last (omega (arith, c.loop-at.invariant.0, c.if-at-c.true)) ∙ c.loop-at.invariant.2

pub returns-then-left-eq0 : goal.returns-then-left-eq0
returns-then-left-eq0 c =
    walked_long _ c.loop-at.left c.loop-at.at c.loop-at.last c.loop-at-test.true c.if-left-eq0.true ∙ c.loop-at.invariant.2

pub loop-at-smaller : goal.loop-at-smaller
loop-at-smaller c =
    let I = c.loop-at.invariant in
    let within : c.loop-at.at ≤ capacity_of c.args.b.now = omega (arith, I.0, c.if-at-c.false) in
    (walked_run _ c.loop-at.left c.loop-at.at c.loop-at.last _ _ c.loop-at-test.true c.if-left-eq0.false I.1 within c.next_of.ensures
    c.along_run-on.ensures).1

pub loop-at-preserved : goal.loop-at-preserved
loop-at-preserved c =
    let I = c.loop-at.invariant in
    let within : c.loop-at.at ≤ capacity_of c.args.b.now = omega (arith, I.0, c.if-at-c.false) in
    let run =
    walked_run _ c.loop-at.left c.loop-at.at c.loop-at.last _ _ c.loop-at-test.true c.if-left-eq0.false I.1 within c.next_of.ensures
    c.along_run-on.ensures in
    (I.0, omega (arith, I.1, run.1), run.0 ∙ I.2)

pub returns : goal.returns
returns c =
    let I = c.loop-at.invariant in
    ap (λ (n : ℕ). Some (record { count = n - c.loop-at.left; last = c.loop-at.last })) I.0
    ∙ walked_end _ c.loop-at.left c.loop-at.at c.loop-at.last c.loop-at-test.false
    ∙ I.2
