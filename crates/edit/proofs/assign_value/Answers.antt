use Rattle.edit.proofs.Assigns.{value_set, value_unset}
use Rattle.chain.proofs.Found.{found_inside}
use Rattle.edit.proofs.assign_value.Goals as goal

pub put_value-requires : goal.put_value-requires
put_value-requires c = search found_inside

pub returns-in-Some : goal.returns-in-Some
returns-in-Some c = search value_set

pub returns-in_default : goal.returns-in_default
returns-in_default c = search value_unset
