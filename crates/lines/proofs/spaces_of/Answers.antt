use Rattle.std.proofs.Common.{◌≤◌, sym, ◌∙◌, ap, arith}
use Rattle.model.specs.declared.Call.{Call}
use Rattle.model.specs.Keys.{most_name}
use Rattle.lines.specs.Calls.{complete}
use Rattle.lines.specs.Places.{words_behind}
use Rattle.lines.proofs.ArgumentLaws.{argument_fits}
use Rattle.lines.proofs.CallLaws.{node_given, no_node}
use Rattle.lines.proofs.spaces_of.Goals as goal

pub returns-in_default : goal.returns-in_default
returns-in_default c = no_node _ (sym c.is_empty.ensures ∙ c.if-is_empty.false) _ c.argument_in-argument_n.ensures.argument c.in_default.not-Number

pub overflow_cast-n : goal.overflow_cast-n
overflow_cast-n c =
    let small : c.in-Number.n ≤ most_name = argument_fits _ _ _ _ c.argument_in-argument_n.ensures.argument c.in-Number.is in
    record { fits = omega arith }

pub returns : goal.returns
returns c =
    node_given _ (sym c.is_empty.ensures ∙ c.if-is_empty.false) _ c.argument_in-argument_n.ensures.argument _ c.in-Number.is _ c.argument_in-argument_n.ensures.rest
    _ (c.completed.ensures ∙ ap (λ (call : Call). complete call (words_behind c.argument_in-argument_n.result.1.now)) c.node_call-2.ensures)
