use Rattle.std.proofs.Common.{◌∙◌, arith}
use Rattle.lines.proofs.Digits.{no_digits, zero_refused, one_digit, digits_read}
use Rattle.lines.proofs.numbers.number_in.Goals as goal
use Rattle.lines.proofs.numbers.number_in.Goals.{else-first-eq48-via-then-first-eq48+else-several, else-first-eq48-via-else-first-eq48}

pub returns-in_default : goal.returns-in_default
returns-in_default c = search no_digits

pub returns-then-several : goal.returns-then-several
returns-then-several c = search zero_refused

pub returns : goal.returns
returns c =
    c.digits_in.ensures
    ∙ elim c.else-first-eq48.branch [
      | else-first-eq48-via-then-first-eq48+else-several w ↦ one_digit _ _ (omega arith) (omega arith)
      | else-first-eq48-via-else-first-eq48 w ↦ digits_read _ _ (omega arith) w.if-first-eq48.false
    ]
