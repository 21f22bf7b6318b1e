use Rattle.std.proofs.Common.{arith, ◌∙◌}
use Rattle.run.proofs.Fits.{fit_next, fit_not, fit_all}
use Rattle.run.proofs.lists_fit.Goals as goal

pub loop-words-preserved : goal.loop-words-preserved
loop-words-preserved c =
    let steps = c.in-Some.ensures.steps in
    let so_far = c.loop-words.invariant in
    (steps.0 ∙ so_far.0, fit_next _ _ _ _ _ _ _ so_far.1 steps.1.0 (steps.1.1 ∙ so_far.0) c.room_in-one.ensures c.if-left-one.false)

pub returns-then-left-one : goal.returns-then-left-one
returns-then-left-one c =
    let steps = c.in-Some.ensures.steps in
    let so_far = c.loop-words.invariant in
    fit_not _ _ _ _ _ _ _ so_far.1 steps.1.0 (steps.1.1 ∙ so_far.0) c.room_in-one.ensures c.if-left-one.true

pub returns : goal.returns
returns c =
    let so_far = c.loop-words.invariant in
    fit_all _ _ _ _ so_far.1 (omega (arith, c.in-None.ensures.steps.1.0, so_far.0))
