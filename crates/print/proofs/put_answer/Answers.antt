use Rattle.std.proofs.Common.{sym, rules, arith}
use Rattle.model.specs.OneCall.{observed}
use Rattle.print.proofs.Puts.{room_after}
use Rattle.print.proofs.Parts.{line_size, line_adds, line_done}
use Rattle.print.proofs.put_answer.Goals as goal

pub put_byte-requires : goal.put_byte-requires
put_byte-requires c = room_after _ c.put_result.ensures (omega (arith, c.requires.room, line_size (observed c.args.a c.args.list.now)))

pub returns : goal.returns
returns c =
    let all = line_adds (observed c.args.a c.args.list.now) c.requires.room c.put_result.ensures c.put_byte.ensures in
    let lent = sym all.lent in
    line_done _ _ _ _ _ all.put (search rules)
