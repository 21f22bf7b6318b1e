use Rattle.presence.proofs.Hints.{shown_node}
use Rattle.presence.proofs.Support.{from_head, head_says}
use Rattle.presence.proofs.marks.Marks.has_node.Goals as goal

pub returns-then-shows_node : goal.returns-then-shows_node
returns-then-shows_node c = search shown_node

pub holds_from-requires : goal.holds_from-requires
holds_from-requires c = search from_head

pub returns-else-shows_node : goal.returns-else-shows_node
returns-else-shows_node c = search head_says
