use Rattle.presence.proofs.Support.{from_head}
use Rattle.presence.proofs.named.edge_in_universe.Goals as goal

pub holds_from-requires : goal.holds_from-requires
holds_from-requires c = search from_head
