use Rattle.std.proofs.Common.{refl, ap, subst}
use Rattle.std.specs.Io.KnownBytes.{Appends}
use Rattle.std.proofs.lemmas.Result.{on_ok_weaker}
use Rattle.lines.specs.Lines.{lines_of}
use Rattle.script.specs.Scripts.{lines_output, script_output}
use Rattle.script.proofs.Fresh.{fresh_ready, fresh_tuples}
use Rattle.program.proofs.run_script.Goals as goal

pub run_lines-requires : goal.run_lines-requires
run_lines-requires g c = fresh_ready _ _ _ c.prepare.ensures.rules refl _ refl

pub returns : goal.returns
unfolding script_output
returns g c =
    on_ok_weaker _ (subst (λ bs. Appends (g.W.Write.contents c.args.output.now) (g.W.Write.contents c.run_lines.new.output) bs)
    (ap (λ ts. lines_output ts (lines_of c.args.script.now)) (fresh_tuples _ _ _ c.prepare.ensures.rules refl)))
    c.run_lines.ensures.written
