use Rattle.entries.proofs.CursorLaws.{side_stays, side_goes}
use Rattle.entries.proofs.cursors.move_side.Goals as goal

pub returns-then-ne : goal.returns-then-ne
returns-then-ne c = (search side_stays, search)

pub pairs_behind-stream-requires : goal.pairs_behind-stream-requires
pairs_behind-stream-requires c = (search side_goes, search)
