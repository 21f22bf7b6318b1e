use Rattle.listings.proofs.Stores.{store_readable}
use Rattle.removals.proofs.Removed.{pair_removed, edges_removed, named_removed, between_removed, node_named, space_named, edge_named}
use Rattle.removals.proofs.Collects.{nodes_of_store, nodes_by_edge_of_store}
use Rattle.removals.proofs.destroy.Goals as goal

pub returns-in-P : goal.returns-in-P
returns-in-P c = search pair_removed

pub returns-in-G : goal.returns-in-G
returns-in-G c = search edges_removed

pub returns-in-GG : goal.returns-in-GG
returns-in-GG c = search named_removed

pub returns-in-GN : goal.returns-in-GN
returns-in-GN c = search between_removed

pub remove_listed-requires : goal.remove_listed-requires
remove_listed-requires c = (search (store_readable, c.requires.0.nodes), search, tt, search (nodes_of_store, c.requires.0.nodes))

pub remove_listed-requires-in-NG : goal.remove_listed-requires-in-NG
remove_listed-requires-in-NG c = (search (store_readable, c.requires.0.named_nodes), search, search edge_named, search (nodes_by_edge_of_store, c.requires.0.named_nodes))

pub remove_node-requires : goal.remove_node-requires
remove_node-requires c = (search, search, search node_named)

pub remove_space-requires : goal.remove_space-requires
remove_space-requires c = (search, search, search space_named)
