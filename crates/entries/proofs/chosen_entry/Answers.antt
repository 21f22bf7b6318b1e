use Rattle.entries.specs.Cursors.{list_of}
use Rattle.entries.proofs.EntryTests.{chosen_both, chosen_edge, chosen_node}
use Rattle.entries.proofs.chosen_entry.Goals as goal

pub returns-in-Both : goal.returns-in-Both
unfolding list_of
returns-in-Both c = search chosen_both

pub returns-in-Edge : goal.returns-in-Edge
unfolding list_of
returns-in-Edge c = search chosen_edge

pub returns-in-Node : goal.returns-in-Node
unfolding list_of
returns-in-Node c = search chosen_node
