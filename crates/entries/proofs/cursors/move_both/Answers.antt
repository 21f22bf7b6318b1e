use Rattle.entries.proofs.CursorLaws.{two_out, two_into, two_stand, out_one_way, in_one_way}
use Rattle.entries.proofs.cursors.move_both.Goals as goal

pub move_side-out-requires : goal.move_side-out-requires
move_side-out-requires c = (search two_out, search out_one_way)

pub move_side-into-requires : goal.move_side-into-requires
move_side-into-requires c = (search two_into, search in_one_way)

pub returns : goal.returns
returns c = search two_stand
