use Rattle.operators.proofs.Rows.{row_12, row_15, row_18, row_21, row_24, row_27}
use native.Mathlib.Omega.{arith}
use Rattle.operators.proofs.pair_removal.Goals as goal

pub returns-in-12-to-14 : goal.returns-in-12-to-14
returns-in-12-to-14 c = search row_12

pub returns-in-15-to-17 : goal.returns-in-15-to-17
returns-in-15-to-17 c = search row_15

pub returns-in-18-to-20 : goal.returns-in-18-to-20
returns-in-18-to-20 c = search row_18

pub returns-in-21-to-23 : goal.returns-in-21-to-23
returns-in-21-to-23 c = search row_21

pub returns-in-24-to-26 : goal.returns-in-24-to-26
returns-in-24-to-26 c = search row_24

pub returns-in_default : goal.returns-in_default
returns-in_default c =
    elim c.in_default.branch [ goal.in_default-via-then-o-lt12 x ↦ absurd (omega arith) | goal.in_default-via-else-o-lt12+else-o-lt15+else-o-lt18+else-o-lt21+else-o-lt24+else-o-lt27 x ↦ search row_27 ]
