use Rattle.std.proofs.Common.{sym, ap, subst, ℕ, ◌+◌, ◌≤◌, length}
use Rattle.text.specs.Bytes.{R}
use Rattle.model.specs.OneCall.{observed}
use Rattle.print.specs.Answers.{signed, answer_text}
use Rattle.print.proofs.Puts.{adds_same}
use Rattle.print.proofs.Parts.{known_room, known_printable, known_adds}
use Rattle.print.proofs.line.Line.put_result.Goals as goal

pub put_answer-requires : goal.put_answer-requires
put_answer-requires c = known_printable _ c.in-Ok.is c.requires

pub put_signed-requires : goal.put_signed-requires
unfolding answer_text observed
put_signed-requires c =
    subst (λ (n : ℕ). c.args.self.now.at + length (signed R n) ≤ length c.args.self.now.out.now) (sym c.from.ensures) (known_room _ c.in-Err.is c.requires)

pub returns-in-Ok : goal.returns-in-Ok
returns-in-Ok c = known_adds _ c.in-Ok.is c.put_answer.ensures

pub returns-in-Err : goal.returns-in-Err
unfolding answer_text observed
returns-in-Err c = known_adds _ c.in-Err.is (adds_same (ap (signed R) c.from.ensures) c.put_signed.ensures)
