use Rattle.std.proofs.Common.{◌≤◌, arith}
use Rattle.model.specs.Keys.{most_name}
use Rattle.lines.proofs.ArgumentLaws.{argument_fits}
use Rattle.lines.proofs.arguments.space_in.Goals as goal

pub overflow_cast-result : goal.overflow_cast-result
overflow_cast-result c =
    let small : c.in-Number.x ≤ most_name = argument_fits _ _ _ _ c.argument_in-argument.ensures.argument c.in-Number.is in
    record { fits = omega arith }
