use Rattle.entries.proofs.CursorLaws.{names_behind, names_before, names_going_told, names_stand_told}
use Rattle.entries.specs.Cursors.{in_order}
use mathlib.Core.Path.{refl}
use Rattle.entries.proofs.cursors.advance.Goals as goal

pub next_from-stream-requires : goal.next_from-stream-requires
unfolding in_order
next_from-stream-requires c = (refl, names_going_told _ _ _ _ (names_behind _ _ _ _ _ c.in-Names.is c.requires))

pub returns-in-Names : goal.returns-in-Names
returns-in-Names c =
    names_before _ _ _ _ _ c.in-Names.is (names_stand_told _ _ _ _ (names_behind _ _ _ _ _ c.in-Names.is c.requires) _ c.next_from-stream.ensures)
