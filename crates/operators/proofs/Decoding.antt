-- What is read of a call: the space, the fields as numbers, the first argument.
use mathlib.Core.Path.{◌≡◌}
use Rattle.model.specs.declared.Call.{Call}
use Rattle.model.specs.declared.Fields.{Fields}
use Rattle.model.specs.declared.Operator.{Operator}
use Rattle.model.specs.declared.Row.{Row}
use Rattle.model.specs.Operators.{operator_of, row_of}
use Rattle.model.specs.Steps.{fields_of, decoded}

-- ---- the fields

pub decoded_as : (c : Call) (row : Row) (op : Operator) (f : Fields) → row ≡ row_of c.operator → op ≡ operator_of c.operator → f ≡ fields_of c
    → record { row = row; operator = op; fields = f } ≡ decoded c
decoded_as c row op f R O F = λ i. record { row = R i; operator = O i; fields = F i }
