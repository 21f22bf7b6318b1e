use Rattle.std.proofs.Common.{◌≡◌, ◌-◌, length, take, drop, arith, sym, ap, subst, length-drop}
use Rattle.std.proofs.Math.Seq.{take-add}
use Rattle.std.proofs.lemmas.List.{take_rest}
use Rattle.std.specs.Io.KnownBytes.{Appends}
use Rattle.std.proofs.KnownBytes.{Appends-trans}
use Rattle.program.proofs.write_full.Goals as goal

pub loop-done-preserved : goal.loop-done-preserved
loop-done-preserved g c =
    let bytes = c.args.bytes.now in
    let done = c.loop-done.done in
    let lent : take (length bytes - done) (drop done bytes) ≡ drop done bytes = take_rest bytes done in (
      omega (arith, c.in-Ok.ensures.bound, ap length lent, length-drop done bytes),
      subst (Appends _ _) (sym (take-add done c.in-Ok.count bytes))
          (Appends-trans _ _ _ _ _ c.loop-done.invariant.1 (subst (λ xs. Appends (g.W.Write.contents c.loop-done.output) (g.W.Write.contents c.write.new.self) (take c.in-Ok.count xs)) lent c.in-Ok.ensures.bytes)),
    )
