use Rattle.steps.proofs.Named.{exists_first, exists_second, exists_none, main_hint_lem}
use Rattle.steps.proofs.exists.Goals as goal

pub has-requires : goal.has-requires
has-requires c = search main_hint_lem

pub returns-then-has : goal.returns-then-has
returns-then-has c = search exists_first

pub returns-then-is_adjacent : goal.returns-then-is_adjacent
returns-then-is_adjacent c = search exists_second

pub returns-else-is_adjacent : goal.returns-else-is_adjacent
returns-else-is_adjacent c = search exists_none
