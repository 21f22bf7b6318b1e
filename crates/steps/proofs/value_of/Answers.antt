use Rattle.steps.proofs.Named.{value_named, main_hint_lem}
use Rattle.steps.proofs.value_of.Goals as goal

pub value_at-requires : goal.value_at-requires
value_at-requires c = search main_hint_lem

pub returns : goal.returns
returns c = search value_named
