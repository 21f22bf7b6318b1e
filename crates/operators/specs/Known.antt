-- The operator of a number, where it has one.
use Rattle.std.specs.Prelude.{Option, Some, None, cond, ℕ}
use Rattle.model.specs.declared.Operator.{Operator}
use Rattle.model.specs.Operators.{within, operator_of}

-- condition 2: "not 1 to 57"
unfoldable pub known_operator : ℕ → Option Operator
known_operator o = cond (within 1 57 o) (Some (operator_of o)) None
