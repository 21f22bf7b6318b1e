use Rattle.std.proofs.Common.{sym, ◌∙◌, arith}
use Rattle.text.specs.Numerals.{is_digit}
use Rattle.lines.proofs.Digits.{no_digit, digit_taken, digits_ended, past_most}
use Rattle.lines.proofs.numbers.digits_in.Goals as goal

pub returns-then-not-is_ascii_digit : goal.returns-then-not-is_ascii_digit
unfolding is_digit
returns-then-not-is_ascii_digit c = no_digit _ _ _ _ c.loop-b.invariant.1 (omega arith) (sym c.is_ascii_digit.ensures.value ∙ c.if-not-is_ascii_digit.true)

pub returns-then-value-from : goal.returns-then-value-from
unfolding is_digit
returns-then-value-from c =
    past_most _ _ _ _
    (digit_taken _ _ _ _ c.loop-b.invariant.1 _ (omega arith) (sym c.is_ascii_digit.ensures.value ∙ c.if-not-is_ascii_digit.false) c.from.ensures)
    (omega (arith, c.from-in-loop-b.ensures))

pub loop-b-preserved : goal.loop-b-preserved
unfolding is_digit
loop-b-preserved c = (
  omega (arith, c.from-in-loop-b.ensures),
  digit_taken _ _ _ _ c.loop-b.invariant.1 _ (omega arith) (sym c.is_ascii_digit.ensures.value ∙ c.if-not-is_ascii_digit.false) c.from.ensures,
)

pub returns : goal.returns
returns c = search digits_ended
