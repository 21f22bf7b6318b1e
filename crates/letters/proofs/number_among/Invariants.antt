use Rattle.std.proofs.Common.{◌≡◌, drop}
use Rattle.letters.specs.Letters.{number_among}
use Rattle.letters.proofs.number_among.Given as goal

abbrev pub invariant-loop-letters : goal.invariant-loop-letters
invariant-loop-letters l = number_among l.operators l.word ≡ number_among (drop l.letters-index l.operators) l.word
