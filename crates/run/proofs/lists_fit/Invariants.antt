use Rattle.std.proofs.Common.{◌≡◌}
use Rattle.std.specs.Slice.Iter.{chunks_exact_rest, chunks_exact_size}
use Rattle.run.specs.Words.{words_in_call}
use Rattle.run.proofs.Fits.{ListsFitSoFar}
use Rattle.run.proofs.lists_fit.Given as goal

abbrev pub invariant-loop-words : goal.invariant-loop-words
invariant-loop-words l =
    (chunks_exact_size l.words-iterator ≡ words_in_call) × ListsFitSoFar l.calls l.room l.left (chunks_exact_rest l.words-iterator)
