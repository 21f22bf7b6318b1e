use Rattle.edit.proofs.Adds.{held_inside, held_none, held_same}
use Rattle.edit.proofs.held_at.Goals as goal

pub used_key-requires : goal.used_key-requires
used_key-requires c = search held_inside

pub returns-then-at-ne0 : goal.returns-then-at-ne0
returns-then-at-ne0 c = search held_same

pub returns-else-at-ne0 : goal.returns-else-at-ne0
returns-else-at-ne0 c = search held_none
