use Rattle.entries.proofs.CursorLaws.{pairs_one_way, pairs_set, pairs_stand}
use Rattle.entries.proofs.cursors.advance_pairs.Goals as goal

pub pairs_behind-stream-requires : goal.pairs_behind-stream-requires
pairs_behind-stream-requires c = (search pairs_set, search pairs_one_way)

pub returns : goal.returns
returns c = search pairs_stand
