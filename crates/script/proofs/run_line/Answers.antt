use Rattle.script.proofs.LineRuns.{call_printable, call_run, refused_printable, refused_run}
use borrow.Author.Rules.{rules}
use Rattle.script.proofs.run_line.Goals as goal

pub put_answer-requires : goal.put_answer-requires
put_answer-requires c =
    call_printable _ _ c.args.line.now _ _ _ _ _ c.requires.0 c.execute_known-answer.ensures c.execute_known-answer.auto.list
    (search) c.requires.1

pub put_answer-requires-in-Err : goal.put_answer-requires-in-Err
put_answer-requires-in-Err c = search (rules, refused_printable)

pub returns-in-Ok : goal.returns-in-Ok
returns-in-Ok c =
    search (call_run, c.in-Ok.is, c.read_line.ensures, c.requires.0, c.requires.1)

pub returns-in-Err : goal.returns-in-Err
returns-in-Err c = search refused_run
