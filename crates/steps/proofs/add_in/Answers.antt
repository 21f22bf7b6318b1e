use Rattle.steps.proofs.Named.{main_hint_lem}
use Rattle.steps.proofs.Creates.{adding_first, adding_second, added_one, added_two, kept_twice, second_kept}
use Rattle.steps.proofs.add_in.Goals as goal

pub add_missing-requires : goal.add_missing-requires
add_missing-requires c = (search adding_first, search main_hint_lem)

pub returns-else-is_adjacent : goal.returns-else-is_adjacent
returns-else-is_adjacent c = record { edited = search added_one; hints = search }

pub add_missing-requires-then-is_adjacent : goal.add_missing-requires-then-is_adjacent
add_missing-requires-then-is_adjacent c = (search adding_second, search second_kept)

pub returns-then-is_adjacent : goal.returns-then-is_adjacent
returns-then-is_adjacent c = record { edited = search added_two; hints = search kept_twice }
