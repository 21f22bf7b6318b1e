use Rattle.script.proofs.LineRuns.{refused_printable}
use Rattle.model.specs.OneCall.{observed}
use borrow.Author.Rules.{rules}
use Rattle.script.proofs.refuse_input.Goals as goal

pub put_answer-requires : goal.put_answer-requires
unfolding observed
put_answer-requires c = search (rules, refused_printable)
