use Rattle.std.proofs.Common.{sym, ap, ◌∙◌, arith, length-take-le, take, drop, length, ℕ, ◌-◌}
use Rattle.std.proofs.lemmas.List.{take_rest}
use Rattle.text.specs.Bytes.{Text, before, line_feed}
use Rattle.text.proofs.Reading.{before_take, before_length}
use Rattle.lines.proofs.line_at.Goals as goal

pub slice_bounds-result-end : goal.slice_bounds-result-end
slice_bounds-result-end c =
    let lines : Text = take (length c.args.script.now - c.args.from) (drop c.args.from c.args.script.now) in
    sym (length-take-le c.end_of.result lines (omega (arith, c.end_of.ensures, before_length line_feed lines)))

pub returns : goal.returns
returns c =
    let lines : Text = take (length c.args.script.now - c.args.from) (drop c.args.from c.args.script.now) in
    ap (λ (n : ℕ). take n lines) c.end_of.ensures ∙ before_take line_feed lines ∙ ap (before line_feed) (take_rest c.args.script.now c.args.from)
