use Rattle.taken.specs.Selections.{taken_by}
use Rattle.model.proofs.Taken.{edges_fair}
use borrow.Author.Rules.{rules}
use Rattle.removals.proofs.remove_edges.Goals as goal

pub sweep-requires : goal.sweep-requires
unfolding taken_by
sweep-requires c = (search, search, (edges_fair _ _ _ _).universe)

pub returns : goal.returns
unfolding taken_by
returns c = search rules
