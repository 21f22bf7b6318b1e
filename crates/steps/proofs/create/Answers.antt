use Rattle.steps.proofs.Named.{near_kept}
use Rattle.steps.proofs.Creates.{room_in_space, room_in_universe, created_space, created_both}
use Rattle.steps.proofs.create.Goals as goal

pub add_in-requires : goal.add_in-requires
add_in-requires c = (search, search, search room_in_space)

pub returns-else-not-is_space : goal.returns-else-not-is_space
returns-else-not-is_space c = search created_space

pub add_in-requires-then-not-is_space : goal.add_in-requires-then-not-is_space
add_in-requires-then-not-is_space c = (search, search near_kept, search room_in_universe)

pub returns-then-not-is_space : goal.returns-then-not-is_space
returns-then-not-is_space c = search created_both
