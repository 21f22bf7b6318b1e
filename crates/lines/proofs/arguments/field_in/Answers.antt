use Rattle.lines.specs.Places.{field_of, left_by}
use Rattle.lines.proofs.arguments.field_in.Goals as goal

pub returns-then-not-read-clause-argument : goal.returns-then-not-read-clause-argument
unfolding field_of
returns-then-not-read-clause-argument c = rw c.if-not-read.true

pub returns-then-not-read-clause-rest : goal.returns-then-not-read-clause-rest
unfolding left_by
returns-then-not-read-clause-rest c = rw c.if-not-read.true

pub returns-clause-argument : goal.returns-clause-argument
unfolding field_of
returns-clause-argument c = rw c.if-not-read.false c.argument_in.ensures.argument

pub returns-clause-rest : goal.returns-clause-rest
unfolding left_by
returns-clause-rest c = rw c.if-not-read.false c.argument_in.ensures.rest
