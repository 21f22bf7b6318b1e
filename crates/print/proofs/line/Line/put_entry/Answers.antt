use Rattle.std.proofs.Common.{arith}
use Rattle.print.proofs.Puts.{room_after}
use Rattle.print.proofs.Parts.{entry_size, entry_adds}
use Rattle.print.proofs.line.Line.put_entry.Goals as goal

pub put_number-requires : goal.put_number-requires
put_number-requires c = room_after _ c.put_byte.ensures (omega (arith, c.requires, entry_size c.args.w))

pub put_byte-requires-2 : goal.put_byte-requires-2
put_byte-requires-2 c = room_after _ c.put_number.ensures (room_after _ c.put_byte.ensures (omega (arith, c.requires, entry_size c.args.w)))

pub put_number-requires-2 : goal.put_number-requires-2
put_number-requires-2 c =
    room_after _ c.put_byte-2.ensures (room_after _ c.put_number.ensures (room_after _ c.put_byte.ensures (omega (arith, c.requires, entry_size c.args.w))))

pub returns : goal.returns
returns c = entry_adds _ c.requires c.put_byte.ensures c.put_number.ensures c.put_byte-2.ensures c.put_number-2.ensures
