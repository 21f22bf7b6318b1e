use Rattle.operators.proofs.Rows.{row_1, row_4, row_7, row_9}
use native.Mathlib.Omega.{arith}
use Rattle.operators.proofs.pair_operator.Goals as goal

pub returns-in-1-to-3 : goal.returns-in-1-to-3
returns-in-1-to-3 c = search row_1

pub returns-in-4-to-6 : goal.returns-in-4-to-6
returns-in-4-to-6 c = search row_4

pub returns-in-7-to-8 : goal.returns-in-7-to-8
returns-in-7-to-8 c = search row_7

pub returns-in_default : goal.returns-in_default
returns-in_default c =
    elim c.in_default.branch [ goal.in_default-via-then-o-lt1 x ↦ absurd (omega arith) | goal.in_default-via-else-o-lt1+else-o-lt4+else-o-lt7+else-o-lt9 x ↦ search row_9 ]
