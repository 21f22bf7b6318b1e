use Rattle.entries.proofs.CursorLaws.{started_one}
use Rattle.entries.proofs.cursors.start.Goals as goal

pub returns : goal.returns
returns c = search started_one
