use Rattle.entries.specs.Cursors.{list_of}
use Rattle.entries.proofs.EntryTests.{end_none, end_other, end_given}
use Rattle.entries.proofs.end_entry.Goals as goal
use Rattle.entries.proofs.end_entry.Goals.{then-edge-eq0-via-then-edge-eq0, then-edge-eq0-via-else-edge-eq0+then-first-q}

pub returns-then-edge-eq0 : goal.returns-then-edge-eq0
unfolding list_of
returns-then-edge-eq0 c =
    elim c.then-edge-eq0.branch [
      | then-edge-eq0-via-then-edge-eq0 w ↦ end_none _ _ _ _ w.if-edge-eq0.true
      | then-edge-eq0-via-else-edge-eq0+then-first-q w ↦ end_other _ _ _ _ w.if-edge-eq0.false w.if-first-q.true
    ]

pub returns : goal.returns
unfolding list_of
returns c = search end_given
