use Rattle.std.proofs.Common.{arith}
use Rattle.print.proofs.Puts.{room_after}
use Rattle.print.proofs.Parts.{changed_size, changed_adds}
use Rattle.print.proofs.line.Line.put_changed.Goals as goal

pub put_byte-requires : goal.put_byte-requires
put_byte-requires c = room_after _ c.put_signed.ensures (omega (arith, c.requires, changed_size c.args.x c.args.sign c.args.k))

pub put_byte-requires-2 : goal.put_byte-requires-2
put_byte-requires-2 c = room_after _ c.put_byte.ensures (room_after _ c.put_signed.ensures (omega (arith, c.requires, changed_size c.args.x c.args.sign c.args.k)))

pub put_number-requires : goal.put_number-requires
put_number-requires c =
    room_after _ c.put_byte-2.ensures (room_after _ c.put_byte.ensures (room_after _ c.put_signed.ensures (omega (arith, c.requires, changed_size c.args.x c.args.sign c.args.k))))

pub returns : goal.returns
returns c = changed_adds _ _ _ c.requires c.put_signed.ensures c.put_byte.ensures c.put_byte-2.ensures c.put_number.ensures
