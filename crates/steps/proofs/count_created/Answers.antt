use Rattle.steps.proofs.Creates.{count_universe, count_space, count_both, two_spaces_sum}
use Rattle.steps.proofs.count_created.Goals as goal

pub returns-then-f-eq0 : goal.returns-then-f-eq0
returns-then-f-eq0 c = search count_universe

pub returns-then-is_space : goal.returns-then-is_space
returns-then-is_space c = search count_space

pub overflow_add-result : goal.overflow_add-result
overflow_add-result c = search two_spaces_sum

pub returns : goal.returns
returns c = search count_both
