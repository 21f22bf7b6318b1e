-- Lines of document 01's example and of its rules, and of document 02's request 1, read.
use mathlib.Core.Bool.{true}
use mathlib.Core.List.{List, [], ◌∷◌}
use mathlib.Core.Path.{◌≡◌, refl}
use Prim.Native.Nat.{ℕ}
use Rattle.std.specs.Prelude.{Ok}
use Rattle.model.specs.declared.Space.{Space}
use Rattle.model.specs.declared.Space.TheVariants.{Universe, Numbered, Nothing}
use Rattle.model.specs.Keys.{most_name}
use Rattle.model.specs.Operators.{reads_of}
use Rattle.text.specs.Bytes.{Text, same_text, line_feed, blank, hyphen, A, B, C, D, G, N, O, P, S, U, «V», X}
use Rattle.text.specs.Numerals.{digit, is_digit, all_digits, plain_digits, number_after, read_number}
use Rattle.lines.specs.Lines.{in_front, lines_of, words_of}
use Rattle.letters.specs.OperatorWords.{operator_words, number_from, operator_number}
use Rattle.lines.specs.Calls.{Reading, refused, with_number, take_number, take_space, complete, call_of, in_order, space_then_value, spaces, arguments, read_words, read_line}

-- a line feed ends a line and starts none
lines_end :
    (lines_of (C ∷ line_feed ∷ []) ≡ (C ∷ []) ∷ [])
    × (lines_of (C ∷ []) ≡ (C ∷ []) ∷ [])
    × (lines_of (line_feed ∷ []) ≡ [] ∷ [])
    × (lines_of (C ∷ line_feed ∷ line_feed ∷ D ∷ []) ≡ (C ∷ []) ∷ [] ∷ (D ∷ []) ∷ [])
unfolding lines_of in_front
lines_end = (refl, refl, refl, refl)

abbrev space : ℕ → Space
space x = Numbered (record { 0 = x })

-- lines of the table: `CUN 1`; `CUS 9`; `SUN 9`; `SUN`; `CUN 1 9`; `COP 1 5 2 9`; `COP 1 5 2`; `BOP 1 5 2 60`; `VOP 1 5 2 9`; `DUN 1`; `XUN 1 9`; `DUS U`; `CUN 0`
table_read :
    (read_line (C ∷ U ∷ N ∷ blank ∷ digit 1 ∷ []) ≡ Ok (call_of 45 1 0 0 0 Universe))
    × (read_line (C ∷ U ∷ S ∷ blank ∷ digit 9 ∷ []) ≡ Ok (call_of 51 0 0 0 0 (space 9)))
    × (read_line (S ∷ U ∷ N ∷ blank ∷ digit 9 ∷ []) ≡ Ok (call_of 50 0 0 0 0 (space 9)))
    × (read_line (S ∷ U ∷ N ∷ []) ≡ Ok (call_of 50 0 0 0 0 Universe))
    × (read_line (C ∷ U ∷ N ∷ blank ∷ digit 1 ∷ blank ∷ digit 9 ∷ []) ≡ Ok (call_of 45 1 0 0 0 (space 9)))
    × (read_line (C ∷ O ∷ P ∷ blank ∷ digit 1 ∷ blank ∷ digit 5 ∷ blank ∷ digit 2 ∷ blank ∷ digit 9 ∷ []) ≡ Ok (call_of 1 1 5 2 0 (space 9)))
    × (read_line (C ∷ O ∷ P ∷ blank ∷ digit 1 ∷ blank ∷ digit 5 ∷ blank ∷ digit 2 ∷ []) ≡ Ok (call_of 1 1 5 2 0 Universe))
    × (read_line (B ∷ O ∷ P ∷ blank ∷ digit 1 ∷ blank ∷ digit 5 ∷ blank ∷ digit 2 ∷ blank ∷ digit 6 ∷ digit 0 ∷ []) ≡ Ok (call_of 4 1 5 2 60 Universe))
    × (read_line («V» ∷ O ∷ P ∷ blank ∷ digit 1 ∷ blank ∷ digit 5 ∷ blank ∷ digit 2 ∷ blank ∷ digit 9 ∷ []) ≡ Ok (call_of 7 1 5 2 0 (space 9)))
    × (read_line (D ∷ U ∷ N ∷ blank ∷ digit 1 ∷ []) ≡ Ok (call_of 49 1 0 0 0 Universe))
    × (read_line (X ∷ U ∷ N ∷ blank ∷ digit 1 ∷ blank ∷ digit 9 ∷ []) ≡ Ok (call_of 48 1 0 0 0 (space 9)))
    × (read_line (D ∷ U ∷ S ∷ blank ∷ U ∷ []) ≡ Ok (call_of 55 0 0 0 0 Universe))
    × (read_line (C ∷ U ∷ N ∷ blank ∷ digit 0 ∷ []) ≡ Ok (call_of 45 0 0 0 0 Universe))
unfolding read_line read_words words_of in_front arguments operator_number operator_words number_from same_text in_order
    space_then_value spaces take_number take_space with_number complete read_number plain_digits all_digits is_digit number_after reads_of
table_read = (refl, refl, refl, refl, refl, refl, refl, refl, refl, refl, refl, refl, refl)

-- the longest and the least arguments: `SUS`; `SUS 0`; `SUS 65535`; `BUS U 4294967295`; `BUS 9 0`; `DOGN 1 2 U`
rules_read :
    (read_line (S ∷ U ∷ S ∷ []) ≡ Ok (call_of 56 0 0 0 0 Universe))
    × (read_line (S ∷ U ∷ S ∷ blank ∷ digit 0 ∷ []) ≡ Ok (call_of 57 0 0 0 0 Universe))
    × (read_line (S ∷ U ∷ S ∷ blank ∷ digit 6 ∷ digit 5 ∷ digit 5 ∷ digit 3 ∷ digit 5 ∷ []) ≡ Ok (call_of 57 65535 0 0 0 Universe))
    × (read_line (B ∷ U ∷ S ∷ blank ∷ U ∷ blank ∷ digit 4 ∷ digit 2 ∷ digit 9 ∷ digit 4 ∷ digit 9 ∷ digit 6 ∷ digit 7 ∷ digit 2 ∷ digit 9 ∷ digit 5 ∷ []) ≡ Ok (call_of 52 0 0 0 4294967295 Universe))
    × (read_line (B ∷ U ∷ S ∷ blank ∷ digit 9 ∷ blank ∷ digit 0 ∷ []) ≡ Ok (call_of 52 0 0 0 0 (space 9)))
    × (read_line (D ∷ O ∷ G ∷ N ∷ blank ∷ digit 1 ∷ blank ∷ digit 2 ∷ blank ∷ U ∷ []) ≡ Ok (call_of 21 1 0 2 0 Universe))
unfolding read_line read_words words_of in_front arguments operator_number operator_words number_from same_text in_order
    space_then_value spaces take_number take_space with_number complete read_number plain_digits all_digits is_digit number_after reads_of
rules_read = (refl, refl, refl, refl, refl, refl)

-- lines that read as no call: ``; `CUN`; `CUN U`; `SUS U`; `CUN 01`; `CUN 65536`; `BUS U 4294967296`; `BUS 9`; `CUS`; `VAP 1 5 2`; `CUN 1 `; ` CUN 1`; `CUN  1`; `CUN 1 U 1`
lines_refused :
    (read_line ([]) ≡ refused)
    × (read_line (C ∷ U ∷ N ∷ []) ≡ refused)
    × (read_line (C ∷ U ∷ N ∷ blank ∷ U ∷ []) ≡ refused)
    × (read_line (S ∷ U ∷ S ∷ blank ∷ U ∷ []) ≡ refused)
    × (read_line (C ∷ U ∷ N ∷ blank ∷ digit 0 ∷ digit 1 ∷ []) ≡ refused)
    × (read_line (C ∷ U ∷ N ∷ blank ∷ digit 6 ∷ digit 5 ∷ digit 5 ∷ digit 3 ∷ digit 6 ∷ []) ≡ refused)
    × (read_line (B ∷ U ∷ S ∷ blank ∷ U ∷ blank ∷ digit 4 ∷ digit 2 ∷ digit 9 ∷ digit 4 ∷ digit 9 ∷ digit 6 ∷ digit 7 ∷ digit 2 ∷ digit 9 ∷ digit 6 ∷ []) ≡ refused)
    × (read_line (B ∷ U ∷ S ∷ blank ∷ digit 9 ∷ []) ≡ refused)
    × (read_line (C ∷ U ∷ S ∷ []) ≡ refused)
    × (read_line («V» ∷ A ∷ P ∷ blank ∷ digit 1 ∷ blank ∷ digit 5 ∷ blank ∷ digit 2 ∷ []) ≡ refused)
    × (read_line (C ∷ U ∷ N ∷ blank ∷ digit 1 ∷ blank ∷ []) ≡ refused)
    × (read_line (blank ∷ C ∷ U ∷ N ∷ blank ∷ digit 1 ∷ []) ≡ refused)
    × (read_line (C ∷ U ∷ N ∷ blank ∷ blank ∷ digit 1 ∷ []) ≡ refused)
    × (read_line (C ∷ U ∷ N ∷ blank ∷ digit 1 ∷ blank ∷ U ∷ blank ∷ digit 1 ∷ []) ≡ refused)
unfolding read_line read_words words_of in_front arguments operator_number operator_words number_from same_text in_order
    space_then_value spaces take_number take_space with_number complete read_number plain_digits all_digits is_digit number_after reads_of
lines_refused = (refl, refl, refl, refl, refl, refl, refl, refl, refl, refl, refl, refl, refl, refl)

-- nothing "written `-` in a script" where s stands: `SUN -`; `CUN 1 -`; `COP 1 5 2 -`; `BUN 1 60 -`; `CUS -`; `BUS - 7`; `VUS -`; `XUS -`; `DUS -`
nothing_read :
    (read_line (S ∷ U ∷ N ∷ blank ∷ hyphen ∷ []) ≡ Ok (call_of 50 0 0 0 0 Nothing))
    × (read_line (C ∷ U ∷ N ∷ blank ∷ digit 1 ∷ blank ∷ hyphen ∷ []) ≡ Ok (call_of 45 1 0 0 0 Nothing))
    × (read_line (C ∷ O ∷ P ∷ blank ∷ digit 1 ∷ blank ∷ digit 5 ∷ blank ∷ digit 2 ∷ blank ∷ hyphen ∷ []) ≡ Ok (call_of 1 1 5 2 0 Nothing))
    × (read_line (B ∷ U ∷ N ∷ blank ∷ digit 1 ∷ blank ∷ digit 6 ∷ digit 0 ∷ blank ∷ hyphen ∷ []) ≡ Ok (call_of 46 1 0 0 60 Nothing))
    × (read_line (C ∷ U ∷ S ∷ blank ∷ hyphen ∷ []) ≡ Ok (call_of 51 0 0 0 0 Nothing))
    × (read_line (B ∷ U ∷ S ∷ blank ∷ hyphen ∷ blank ∷ digit 7 ∷ []) ≡ Ok (call_of 52 0 0 0 7 Nothing))
    × (read_line («V» ∷ U ∷ S ∷ blank ∷ hyphen ∷ []) ≡ Ok (call_of 53 0 0 0 0 Nothing))
    × (read_line (X ∷ U ∷ S ∷ blank ∷ hyphen ∷ []) ≡ Ok (call_of 54 0 0 0 0 Nothing))
    × (read_line (D ∷ U ∷ S ∷ blank ∷ hyphen ∷ []) ≡ Ok (call_of 55 0 0 0 0 Nothing))
unfolding read_line read_words words_of in_front arguments operator_number operator_words number_from same_text in_order
    space_then_value spaces take_number take_space with_number complete read_number plain_digits all_digits is_digit number_after reads_of
nothing_read = (refl, refl, refl, refl, refl, refl, refl, refl, refl)

-- `-` in place of n, g, m or v, and `SUS -`, whatever follows: no call
not_a_number : (most : ℕ) (ws : List Text) (then : ℕ → List Text → Reading) → take_number true most ((hyphen ∷ []) ∷ ws) then ≡ refused
unfolding take_number with_number read_number plain_digits is_digit
not_a_number most ws then = refl

not_of_sus : (ws : List Text) → spaces ((hyphen ∷ []) ∷ ws) ≡ refused
unfolding spaces
not_of_sus ws = not_a_number most_name ws _

-- lines with `-` that read as no call: `SUS -`; `CUN -`; `CUN - 9`; `COP 1 - 2`; `COP 1 5 -`; `BUN 1 -`; `BUS -`; `BUS - -`; `SUN --`; `SUN -1`; `SUN 1-`; `SUN - 1`
nothing_refused :
    (read_line (S ∷ U ∷ S ∷ blank ∷ hyphen ∷ []) ≡ refused)
    × (read_line (C ∷ U ∷ N ∷ blank ∷ hyphen ∷ []) ≡ refused)
    × (read_line (C ∷ U ∷ N ∷ blank ∷ hyphen ∷ blank ∷ digit 9 ∷ []) ≡ refused)
    × (read_line (C ∷ O ∷ P ∷ blank ∷ digit 1 ∷ blank ∷ hyphen ∷ blank ∷ digit 2 ∷ []) ≡ refused)
    × (read_line (C ∷ O ∷ P ∷ blank ∷ digit 1 ∷ blank ∷ digit 5 ∷ blank ∷ hyphen ∷ []) ≡ refused)
    × (read_line (B ∷ U ∷ N ∷ blank ∷ digit 1 ∷ blank ∷ hyphen ∷ []) ≡ refused)
    × (read_line (B ∷ U ∷ S ∷ blank ∷ hyphen ∷ []) ≡ refused)
    × (read_line (B ∷ U ∷ S ∷ blank ∷ hyphen ∷ blank ∷ hyphen ∷ []) ≡ refused)
    × (read_line (S ∷ U ∷ N ∷ blank ∷ hyphen ∷ hyphen ∷ []) ≡ refused)
    × (read_line (S ∷ U ∷ N ∷ blank ∷ hyphen ∷ digit 1 ∷ []) ≡ refused)
    × (read_line (S ∷ U ∷ N ∷ blank ∷ digit 1 ∷ hyphen ∷ []) ≡ refused)
    × (read_line (S ∷ U ∷ N ∷ blank ∷ hyphen ∷ blank ∷ digit 1 ∷ []) ≡ refused)
unfolding read_line read_words words_of in_front arguments operator_number operator_words number_from same_text in_order
    space_then_value spaces take_number take_space with_number complete read_number plain_digits all_digits is_digit number_after reads_of
nothing_refused = (refl, refl, refl, refl, refl, refl, refl, refl, refl, refl, refl, refl)
