use Rattle.operators.proofs.Rows.{row_30, row_33, row_36, row_39, row_42}
use native.Mathlib.Omega.{arith}
use Rattle.operators.proofs.pair_listing.Goals as goal

pub returns-in-30-to-32 : goal.returns-in-30-to-32
returns-in-30-to-32 c = search row_30

pub returns-in-33-to-35 : goal.returns-in-33-to-35
returns-in-33-to-35 c = search row_33

pub returns-in-36-to-38 : goal.returns-in-36-to-38
returns-in-36-to-38 c = search row_36

pub returns-in-39-to-41 : goal.returns-in-39-to-41
returns-in-39-to-41 c = search row_39

pub returns-in_default : goal.returns-in_default
returns-in_default c =
    elim c.in_default.branch [ goal.in_default-via-then-o-lt30 x ↦ absurd (omega arith) | goal.in_default-via-else-o-lt30+else-o-lt33+else-o-lt36+else-o-lt39+else-o-lt42 x ↦ search row_42 ]
