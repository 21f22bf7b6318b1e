use Rattle.std.proofs.Common.{◌≡◌, ◌≤◌, drop}
use Rattle.lines.specs.Places.{read_digits}
use Rattle.lines.proofs.numbers.digits_in.Given as goal

abbrev pub invariant-loop-b : goal.invariant-loop-b
invariant-loop-b l = (l.value ≤ l.most) × (read_digits l.most 0 l.word ≡ read_digits l.most l.value (drop l.b-index l.word))
