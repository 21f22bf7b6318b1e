use Rattle.entries.specs.Cursors.{list_of}
use Rattle.entries.proofs.EntryTests.{apart_first}
use Rattle.entries.proofs.PairQuerySource.entry.Goals as goal

pub returns-then-not-touches : goal.returns-then-not-touches
unfolding list_of
returns-then-not-touches c = search apart_first
