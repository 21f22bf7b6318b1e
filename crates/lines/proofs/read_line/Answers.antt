use Rattle.std.proofs.Common.{◌∙◌, ap, arith}
use Rattle.std.specs.Prelude.{ℕ, Some}
use Rattle.text.specs.Bytes.{blank}
use Rattle.text.proofs.Reading.{before_length}
use Rattle.lines.proofs.CallLaws.{no_operator_read, bus_read, sus_read, other_read}
use Rattle.lines.proofs.read_line.Goals as goal

pub split_at-requires : goal.split_at-requires
split_at-requires c = omega (arith, c.end_of.ensures, before_length blank c.args.line.now)

pub returns-in-None : goal.returns-in-None
returns-in-None c = no_operator_read _ _ _ _ _ c.end_of.ensures c.split_at.ensures.front c.split_at.ensures.back c.operator_number.ensures c.in-None.is

pub returns-in-Some-eq52 : goal.returns-in-Some-eq52
returns-in-Some-eq52 c =
    bus_read _ _ _ _ _ c.end_of.ensures c.split_at.ensures.front c.split_at.ensures.back c.operator_number.ensures
    (c.in-Some-eq52.is ∙ ap (λ (x : ℕ). Some x) c.in-Some-eq52.field-0-test) _ c.space_then_value.ensures

pub returns-in-Some-eq56 : goal.returns-in-Some-eq56
returns-in-Some-eq56 c =
    sus_read _ _ _ _ _ c.end_of.ensures c.split_at.ensures.front c.split_at.ensures.back c.operator_number.ensures
    (c.in-Some-eq56.is ∙ ap (λ (x : ℕ). Some x) c.in-Some-eq56.field-0-test) _ c.spaces_of.ensures

pub returns-in-Some : goal.returns-in-Some
returns-in-Some c =
    other_read _ _ _ _ _ c.end_of.ensures c.split_at.ensures.front c.split_at.ensures.back c.operator_number.ensures
    _ c.in-Some.is c.in-Some.o-test.0.1 c.in-Some.o-test.1 _ c.in_order.ensures
