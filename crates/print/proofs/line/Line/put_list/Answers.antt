use Rattle.std.proofs.Common.{arith}
use Rattle.print.proofs.Puts.{room_after}
use Rattle.print.proofs.Parts.{list_size, list_adds}
use Rattle.print.proofs.line.Line.put_list.Goals as goal

pub put_entries-requires : goal.put_entries-requires
put_entries-requires c = room_after _ c.put_signed.ensures (omega (arith, c.requires.2, list_size c.args.k c.args.list.now))

pub returns : goal.returns
returns c = list_adds c.args.k c.args.list.now c.requires.2 c.put_signed.ensures c.put_entries.ensures
