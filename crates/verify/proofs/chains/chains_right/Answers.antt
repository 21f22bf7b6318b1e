use native.Mathlib.Omega.{arith}
use mathlib.Core.Logic.{⊎_elim}
use mathlib.Core.Path.{sym, ◌∙◌}
use Rattle.layouts.proofs.Sizes.{few_records}
use Rattle.verify.proofs.Walks.{found_most, no_free, no_count, no_last, all_right}
use Rattle.verify.proofs.chains.chains_right.Goals as goal
use Rattle.verify.proofs.chains.chains_right.Goals.{then-used-free, else-used-free}

pub returns-in_default : goal.returns-in_default
returns-in_default c =
    no_free c.args.b.now c.requires.0 c.args.used c.requires.1 c.finish.result (c.finish.ensures ∙ c.requires.2.same) c.in_default.is

pub overflow_add-used : goal.overflow_add-used
overflow_add-used c =
    let used_most = found_most c.args.b.now _ c.args.used c.requires.1 in
    let free_most = found_most c.args.b.now _ c.in-Some.free (sym c.in-Some.is ∙ c.finish.ensures ∙ c.requires.2.same) in
    omega (arith, few_records c.args.b.now c.requires.0.least c.requires.0.most, used_most, free_most)

pub returns-then-used-free-2 : goal.returns-then-used-free-2
returns-then-used-free-2 c =
    all_right c.args.b.now c.requires.0 c.args.used c.requires.1 c.finish.result (c.finish.ensures ∙ c.requires.2.same) c.in-Some.free c.in-Some.is _
    c.capacity.ensures _ c.if-used-free-2.true.0 c.if-used-free-2.true.1 c.head_word.ensures

pub returns-else-used-free-2 : goal.returns-else-used-free-2
returns-else-used-free-2 c =
    elim c.if-used-free.branch [
      | then-used-free w ↦
          w.t-7-is
          ∙ no_last c.args.b.now c.requires.0 c.args.used c.requires.1 c.finish.result (c.finish.ensures ∙ c.requires.2.same) c.in-Some.free c.in-Some.is _
          c.capacity.ensures w.if-used-free.true (⊎_elim (λ h. h.1) (λ h. absurd (h w.if-used-free.true)) c.if-used-free-2.either)
      | else-used-free w ↦
          w.t-7-is
          ∙ no_count c.args.b.now c.requires.0 c.args.used c.requires.1 c.finish.result (c.finish.ensures ∙ c.requires.2.same) c.in-Some.free c.in-Some.is _
          c.capacity.ensures w.if-used-free.false
    ]
