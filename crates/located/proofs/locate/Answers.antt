use Rattle.located.proofs.Nearby.{farther_hint, sought_hint}
use Rattle.located.proofs.locate.Goals as goal

pub seek_node-space-requires : goal.seek_node-space-requires
seek_node-space-requires c = search farther_hint

pub locate_nodes-requires : goal.locate_nodes-requires
locate_nodes-requires c = search sought_hint

pub seek_node-node-requires : goal.seek_node-node-requires
seek_node-node-requires c = (c.requires.0, sought_hint _ c.requires.0 _ _ c.seek_node-space.ensures)
