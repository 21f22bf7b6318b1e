use Rattle.presence.proofs.Support.{from_head}
use Rattle.presence.proofs.named.node_supported.Goals as goal

pub holds_from-requires : goal.holds_from-requires
holds_from-requires c = search from_head

pub holds_from-requires-then-holds_from : goal.holds_from-requires-then-holds_from
holds_from-requires-then-holds_from c = search from_head
