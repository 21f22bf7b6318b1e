use Rattle.std.proofs.Common.{arith}
use Rattle.print.proofs.Puts.{room_after}
use Rattle.print.proofs.Parts.{signed_adds}
use Rattle.print.proofs.line.Line.put_signed.Goals as goal

pub put_byte-requires-2 : goal.put_byte-requires-2
put_byte-requires-2 c = room_after _ c.put_byte.ensures (omega (arith, c.requires))

pub put_number-requires : goal.put_number-requires
put_number-requires c = room_after _ c.put_byte-2.ensures (room_after _ c.put_byte.ensures (omega (arith, c.requires)))

pub returns : goal.returns
returns c = signed_adds _ _ c.requires c.put_byte.ensures c.put_byte-2.ensures c.put_number.ensures
