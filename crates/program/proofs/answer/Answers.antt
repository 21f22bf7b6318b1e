use Rattle.std.proofs.Common.{◌∙◌, sym, subst}
use Rattle.std.specs.Io.KnownBytes.{Appends}
use Rattle.std.proofs.lemmas.Result.{on_ok_weaker}
use Rattle.model.specs.declared.Refusal.TheVariants.{Unreadable}
use Rattle.model.specs.Steps.{refusal}
use Rattle.model.proofs.Bools.{cond_yes, cond_no}
use Rattle.print.specs.Answers.{answer_line}
use Rattle.script.specs.Scripts.{script_output, slips_output}
use Rattle.program.proofs.answer.Goals as goal

pub returns-then-not-accepted : goal.returns-then-not-accepted
unfolding slips_output
returns-then-not-accepted g c =
    on_ok_weaker _ (subst (λ bs. Appends (g.W.Write.contents c.args.output.now) (g.W.Write.contents c.refuse.new.output) bs)
    (cond_no _ (script_output c.args.input.now) (answer_line (refusal Unreadable)) (sym c.accepted.ensures ∙ c.if-not-accepted.true)))
    c.refuse.ensures

pub returns : goal.returns
unfolding slips_output
returns g c =
    on_ok_weaker _ (subst (λ bs. Appends (g.W.Write.contents c.args.output.now) (g.W.Write.contents c.run_script.new.output) bs)
    (cond_yes _ (script_output c.args.input.now) (answer_line (refusal Unreadable)) (sym c.accepted.ensures ∙ c.if-not-accepted.false)))
    c.run_script.ensures
