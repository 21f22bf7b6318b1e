use Rattle.std.proofs.Common.{arith}
use Rattle.text.proofs.Reading.{before_length}
use Rattle.lines.proofs.ArgumentLaws.{its_argument, its_rest}
use Rattle.lines.proofs.arguments.argument_in.Goals as goal

pub split_at-requires : goal.split_at-requires
split_at-requires c = omega (arith, c.end_of.ensures, before_length 32 c.in-Some.words.now)

pub returns-clause-argument : goal.returns-clause-argument
returns-clause-argument c = its_argument _ _ _ _ c.in-Some.ensures.cases.0 c.end_of.ensures _ _ _ c.split_at.ensures.front c.of_word.ensures

pub returns-clause-rest : goal.returns-clause-rest
returns-clause-rest c = its_rest _ _ _ _ c.in-Some.ensures.cases.0 c.end_of.ensures _ c.split_at.ensures.back
