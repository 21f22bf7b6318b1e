use native.Mathlib.Omega.{arith}
use Rattle.operators.proofs.Rows.{above_rows}
use Rattle.operators.proofs.other_operator.Goals as goal

pub returns-in_default : goal.returns-in_default
returns-in_default c = above_rows _ (omega arith)
