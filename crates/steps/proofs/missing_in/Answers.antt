use Rattle.steps.proofs.Named.{main_hint_lem}
use Rattle.steps.proofs.Creates.{missing_one, missing_loop, missing_two}
use Rattle.steps.proofs.missing_in.Goals as goal

pub count_absent-first-requires : goal.count_absent-first-requires
count_absent-first-requires c = search main_hint_lem

pub returns-then-not-is_adjacent : goal.returns-then-not-is_adjacent
returns-then-not-is_adjacent c = search missing_one

pub returns-then-f : goal.returns-then-f
returns-then-f c = search missing_loop

pub returns : goal.returns
returns c = search missing_two
