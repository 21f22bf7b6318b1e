use Rattle.std.proofs.Common.{◌∙◌, ap}
use Rattle.model.specs.declared.Call.{Call}
use Rattle.lines.specs.Calls.{complete}
use Rattle.lines.specs.Places.{words_behind}
use Rattle.lines.proofs.CallLaws.{stop_at_space, stop_at_value, both_read}
use Rattle.lines.proofs.space_then_value.Goals as goal

pub returns-in_default : goal.returns-in_default
returns-in_default c = stop_at_space _ _ _ c.space_in-space.ensures.space c.in_default.is

pub returns-in_default-argument_v : goal.returns-in_default-argument_v
returns-in_default-argument_v c =
    stop_at_value _ _ _ c.space_in-space.ensures.space _ c.in-Some.is _ c.space_in-space.ensures.rest _ c.argument_in-argument_v.ensures.argument c.in_default-argument_v.not-Number

pub returns : goal.returns
returns c =
    both_read _ _ _ c.space_in-space.ensures.space _ c.in-Some.is _ c.space_in-space.ensures.rest _ c.argument_in-argument_v.ensures.argument
    _ c.in-Number.is _ c.argument_in-argument_v.ensures.rest
    _ (c.completed.ensures ∙ ap (λ (call : Call). complete call (words_behind c.argument_in-argument_v.result.1.now)) c.node_call.ensures)
