use Rattle.std.proofs.Common.{arith, sym, subst}
use Rattle.std.specs.Io.KnownBytes.{Consumes}
use Rattle.std.proofs.KnownBytes.{Consumes-trans}
use Rattle.program.proofs.Inputs.{more_read}
use Rattle.program.proofs.read_full.Goals as goal

pub loop-done-preserved : goal.loop-done-preserved
loop-done-preserved g c =
    let read = c.in-Ok.ensures in (
      omega arith,
      omega arith,
      subst (Consumes _ _) (sym (more_read _ _ c.loop-done.done c.in-Ok.count (omega arith) (omega arith)))
          (Consumes-trans _ _ _ _ _ c.loop-done.invariant.2 read.bytes.0),
    )
