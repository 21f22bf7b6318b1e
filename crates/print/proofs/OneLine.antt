-- "Output, a line each": no byte of an answer's text is a line feed, so an answer is one line.
use mathlib.Core.Bool.{true, false}
use mathlib.Core.List.{List, [], ◌∷◌, ◌++◌}
use mathlib.Core.Path.{◌≡◌, refl}
use Prim.Native.Nat.{ℕ}
use native.Mathlib.Omega.{arith}
use Rattle.model.specs.declared.Pair.{Pair}
use Rattle.model.specs.Pairs.{edge_of, node_of}
use Rattle.model.specs.Numbered.{number_of}
use Rattle.model.specs.Steps.{Reply, refusal, name, added, removed, valued, yes_no, pairs}
use Rattle.text.specs.Bytes.{line_feed, hyphen, plus_sign, colon}
use Rattle.text.specs.Numerals.{printed_number}
use Rattle.text.proofs.Lacking.{lacks, lacks_append, lacks_printed}
use Rattle.print.specs.Answers.{change, yes_or_no, entry_text, entries_text, answer_text}

feedless_number : (x : ℕ) → lacks line_feed (printed_number x) ≡ true
feedless_number x = lacks_printed line_feed x (omega arith)

feedless_entries : (ps : List Pair) → lacks line_feed (entries_text ps) ≡ true
unfolding entries_text entry_text
feedless_entries [] = refl
feedless_entries (p ∷ ps) =
    lacks_append line_feed (printed_number (edge_of p) ++ (colon ∷ printed_number (node_of p))) (entries_text ps)
    (lacks_append line_feed (printed_number (edge_of p)) (colon ∷ printed_number (node_of p)) (feedless_number (edge_of p)) (feedless_number (node_of p)))
    (feedless_entries ps)

pub feedless_answer : (r : Reply) → lacks line_feed (answer_text r) ≡ true
unfolding answer_text yes_or_no
feedless_answer (refusal condition) = feedless_number (number_of condition)
feedless_answer (name x) = feedless_number x
feedless_answer (added x k) = lacks_append line_feed (printed_number x) (change plus_sign k) (feedless_number x) (feedless_number k)
feedless_answer (removed x k) = lacks_append line_feed (printed_number x) (change hyphen k) (feedless_number x) (feedless_number k)
feedless_answer (valued v) = feedless_number v
feedless_answer (yes_no true) = refl
feedless_answer (yes_no false) = refl
feedless_answer (pairs k ps) = lacks_append line_feed (printed_number k) (entries_text ps) (feedless_number k) (feedless_entries ps)
