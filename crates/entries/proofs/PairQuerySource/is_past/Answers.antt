use Rattle.entries.proofs.KeyTests.{outside_space, outside_node, outside_other}
use Rattle.entries.proofs.PairQuerySource.is_past.Goals as goal

pub returns-then-k-self : goal.returns-then-k-self
returns-then-k-self c = search outside_space

pub returns-else-k-self : goal.returns-else-k-self
returns-else-k-self c = search outside_node

pub returns-in-Inpointing : goal.returns-in-Inpointing
returns-in-Inpointing c = search outside_other
