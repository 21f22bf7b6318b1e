use Rattle.chain.proofs.Found.{found_inside, value_none, value_some}
use Rattle.chain.proofs.value_at.Goals as goal

pub value_of-requires : goal.value_of-requires
value_of-requires c = search found_inside

pub returns-in-Some : goal.returns-in-Some
returns-in-Some c = search value_some

pub returns-in-None : goal.returns-in-None
returns-in-None c = search value_none
