use Rattle.print.proofs.Entries.{no_entries, entry_room, one_more_entry}
use Rattle.print.proofs.line.Line.put_entries.Goals as goal

pub loop-w-init : goal.loop-w-init
loop-w-init c = no_entries c.args.list.now _

pub put_entry-requires : goal.put_entry-requires
put_entry-requires c = entry_room _ _ c.requires c.loop-w.invariant c.loop-w-test.true

pub loop-w-preserved : goal.loop-w-preserved
loop-w-preserved c = one_more_entry _ _ c.requires c.loop-w.invariant c.loop-w-test.true c.put_entry.ensures
