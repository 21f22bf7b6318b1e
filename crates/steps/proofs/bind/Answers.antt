use Rattle.steps.proofs.Named.{bind_one, bind_two, main_hint_lem}
use Rattle.steps.proofs.bind.Goals as goal

pub assign_value-requires : goal.assign_value-requires
assign_value-requires c = search main_hint_lem

pub returns-else-is_adjacent : goal.returns-else-is_adjacent
returns-else-is_adjacent c = search bind_one

pub returns-then-is_adjacent : goal.returns-then-is_adjacent
returns-then-is_adjacent c = search bind_two
