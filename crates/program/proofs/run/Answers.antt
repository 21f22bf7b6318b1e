use Rattle.std.proofs.Common.{arith, length-take-le}
use Rattle.std.proofs.lemmas.Result.{on_ok_weaker}
use Rattle.program.proofs.Inputs.{whole_input}
use Rattle.program.proofs.run.Goals as goal

pub returns-clause-prints : goal.returns-clause-prints
returns-clause-prints g c =
    on_ok_weaker _
    (λ ended. on_ok_weaker _ (whole_input _ _ _ _ _ c.read_full-length.ensures.read (λ fits. ended (omega (arith, fits, length-take-le _ _ c.read_full-length.ensures.within)))) c.answer-write.ensures)
    c.read_full-length.ensures.end
