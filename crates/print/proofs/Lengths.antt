-- No line is longer than `most_line` bytes: what a caller lends that much for.
use mathlib.Core.Bool.{Bool, true, false}
use mathlib.Core.List.{List, [], ◌∷◌, map}
use Rattle.std.specs.Prelude.{Result, Ok, Err}
use Prim.Native.Nat.{ℕ, zero, suc, ◌*◌, ◌/◌, ◌%◌, ◌≤◌}
use native.Mathlib.Omega.{arith}
use lib.ListN.{length, take, get_or, length-append}
use Rattle.model.specs.declared.Answer.{Answer}
use Rattle.model.specs.declared.Answer.TheVariants.{Name, Added, Removed, Value, YesNo, List as Listed}
use Rattle.model.specs.declared.Refusal.{Refusal}
use Rattle.model.specs.Numbered.{number_of}
use Rattle.model.specs.OneCall.{list_count, name_count, unpack, observed}
use Rattle.text.specs.Bytes.{Text, line_feed, hyphen, plus_sign, colon}
use Rattle.text.specs.Numerals.{printed_number}
use Rattle.text.proofs.Printing.{printed_within, printed_ten, printed_five}
use Rattle.print.specs.Answers.{yes_or_no, entry_text, entries_text, answer_text, answer_line, most_line, Printable}
use Rattle.print.proofs.Parts.{changed_size}

-- a blank, at most five digits, a colon, at most five digits
entry_length : (w : ℕ) → w ≤ 4294967295 → length (entry_text (unpack w)) ≤ 12
unfolding entry_text unpack
entry_length w h =
    omega (
      arith,
      printed_five (w / name_count) (omega arith),
      printed_five (w % name_count) (omega arith),
      length-append (printed_number (w / name_count)) (colon ∷ printed_number (w % name_count)),
    )

entries_length : (list : List ℕ) (k : ℕ) → ((i : ℕ) → get_or list i 0 ≤ 4294967295) → length (entries_text (map unpack (take k list))) ≤ k * 12
unfolding entries_text
entries_length list zero h = omega arith
entries_length [] (suc k) h = omega arith
entries_length (w ∷ ws) (suc k) h =
    omega (
      arith,
      entry_length w (h 0),
      entries_length ws k (λ i. h (suc i)),
      length-append (entry_text (unpack w)) (entries_text (map unpack (take k ws))),
    )

yes_or_no_length : (b : Bool) → length (yes_or_no b) ≤ 3
unfolding yes_or_no
yes_or_no_length true = omega arith
yes_or_no_length false = omega arith

text_length : (a : Result Answer Refusal) (list : List ℕ) → list_count a ≤ 2048 → ((i : ℕ) → get_or list i 0 ≤ 4294967295) → length (answer_text (observed a list)) ≤ 24582
unfolding answer_text observed list_count
text_length (Err condition) list h f = omega (arith, printed_ten (number_of condition))
text_length (Ok (Name x)) list h f = omega (arith, printed_ten x)
text_length (Ok (Added x k)) list h f = omega (arith, printed_ten x, printed_ten k, changed_size x plus_sign k)
text_length (Ok (Removed x k)) list h f = omega (arith, printed_ten x, printed_ten k, changed_size x hyphen k)
text_length (Ok (Value v)) list h f = omega (arith, printed_ten v)
text_length (Ok (YesNo b)) list h f = omega (arith, yes_or_no_length b)
text_length (Ok (Listed k)) list h f =
    omega (
      arith,
      printed_within 3 k (omega arith) (omega arith),
      entries_length list k f,
      length-append (printed_number k) (entries_text (map unpack (take k list))),
    )

-- any answer, with a list of 32-bit words of which it counts at most 2,048
pub line_length : (a : Result Answer Refusal) (list : List ℕ) → list_count a ≤ 2048 → ((i : ℕ) → get_or list i 0 ≤ 4294967295) → length (answer_line (observed a list)) ≤ most_line
unfolding answer_line
line_length a list h f = omega (arith, text_length a list h f, length-append (answer_text (observed a list)) (line_feed ∷ []))

-- lent bytes with so much room have room for any line
pub line_printable : (a : Result Answer Refusal) (list : List ℕ) (out : Text) → list_count a ≤ length list → length list ≤ 2048 → ((i : ℕ) → get_or list i 0 ≤ 4294967295) → most_line ≤ length out
    → Printable (answer_line (observed a list)) a list out 0
line_printable a list out h k f l = record { room = omega (arith, line_length a list (omega arith) f); held = h; counted = omega arith }
