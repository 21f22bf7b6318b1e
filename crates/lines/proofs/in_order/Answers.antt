use Rattle.std.proofs.Common.{◌≤◌, arith}
use Rattle.model.specs.Keys.{most_name}
use Rattle.lines.proofs.ArgumentLaws.{field_fits}
use Rattle.lines.proofs.CallLaws.{stop_at_n, stop_at_g, stop_at_m, stop_at_v, stop_at_s, all_read}
use Rattle.lines.proofs.in_order.Goals as goal

pub returns-in_default : goal.returns-in_default
returns-in_default c = stop_at_n _ _ _ c.reads_of-read.ensures _ c.field_in-argument_n.ensures.argument c.in_default.not-Number

pub returns-in_default-argument_g : goal.returns-in_default-argument_g
returns-in_default-argument_g c =
    stop_at_g _ _ _ c.reads_of-read.ensures _ c.field_in-argument_n.ensures.argument
    _ c.in-Number.is _ c.field_in-argument_n.ensures.rest _ c.field_in-argument_g.ensures.argument c.in_default-argument_g.not-Number

pub returns-in_default-argument_m : goal.returns-in_default-argument_m
returns-in_default-argument_m c =
    stop_at_m _ _ _ c.reads_of-read.ensures _ c.field_in-argument_n.ensures.argument
    _ c.in-Number.is _ c.field_in-argument_n.ensures.rest _ c.field_in-argument_g.ensures.argument
    _ c.in-Number-argument_g.is _ c.field_in-argument_g.ensures.rest _ c.field_in-argument_m.ensures.argument c.in_default-argument_m.not-Number

pub returns-in_default-argument_v : goal.returns-in_default-argument_v
returns-in_default-argument_v c =
    stop_at_v _ _ _ c.reads_of-read.ensures _ c.field_in-argument_n.ensures.argument
    _ c.in-Number.is _ c.field_in-argument_n.ensures.rest _ c.field_in-argument_g.ensures.argument
    _ c.in-Number-argument_g.is _ c.field_in-argument_g.ensures.rest _ c.field_in-argument_m.ensures.argument
    _ c.in-Number-argument_m.is _ c.field_in-argument_m.ensures.rest _ c.field_in-argument_v.ensures.argument c.in_default-argument_v.not-Number

pub returns-in_default-space : goal.returns-in_default-space
returns-in_default-space c =
    stop_at_s _ _ _ c.reads_of-read.ensures _ c.field_in-argument_n.ensures.argument
    _ c.in-Number.is _ c.field_in-argument_n.ensures.rest _ c.field_in-argument_g.ensures.argument
    _ c.in-Number-argument_g.is _ c.field_in-argument_g.ensures.rest _ c.field_in-argument_m.ensures.argument
    _ c.in-Number-argument_m.is _ c.field_in-argument_m.ensures.rest _ c.field_in-argument_v.ensures.argument
    _ c.in-Number-argument_v.is _ c.field_in-argument_v.ensures.rest _ c.space_optional.ensures _ c.space_in-space.ensures.space c.in_default-space.is

pub overflow_cast-c : goal.overflow_cast-c
overflow_cast-c c =
    let small : c.in-Number.n ≤ most_name = field_fits _ _ _ _ _ c.field_in-argument_n.ensures.argument c.in-Number.is in
    record { fits = omega arith }

pub overflow_cast-c-2 : goal.overflow_cast-c-2
overflow_cast-c-2 c =
    let small : c.in-Number-argument_g.g ≤ most_name = field_fits _ _ _ _ _ c.field_in-argument_g.ensures.argument c.in-Number-argument_g.is in
    record { fits = omega arith }

pub overflow_cast-c-3 : goal.overflow_cast-c-3
overflow_cast-c-3 c =
    let small : c.in-Number-argument_m.m ≤ most_name = field_fits _ _ _ _ _ c.field_in-argument_m.ensures.argument c.in-Number-argument_m.is in
    record { fits = omega arith }

pub returns : goal.returns
returns c =
    all_read _ _ _ c.reads_of-read.ensures _ c.field_in-argument_n.ensures.argument
    _ c.in-Number.is _ c.field_in-argument_n.ensures.rest _ c.field_in-argument_g.ensures.argument
    _ c.in-Number-argument_g.is _ c.field_in-argument_g.ensures.rest _ c.field_in-argument_m.ensures.argument
    _ c.in-Number-argument_m.is _ c.field_in-argument_m.ensures.rest _ c.field_in-argument_v.ensures.argument
    _ c.in-Number-argument_v.is _ c.field_in-argument_v.ensures.rest _ c.space_optional.ensures _ c.space_in-space.ensures.space
    _ c.in-Some.is _ c.space_in-space.ensures.rest _ c.completed.ensures
