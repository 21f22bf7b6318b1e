-- Document 01: which lines read as which calls; document 02, request 1: the third form of a space.
use Rattle.std.specs.Prelude.{Bool, true, false, cond, Option, Some, None, Result, Ok, Err, List, [], ◌∷◌, ℕ, eqb}
use Rattle.model.specs.declared.Call.{Call}
use Rattle.model.specs.declared.Space.{Space}
use Rattle.model.specs.declared.Space.TheVariants.{Universe, Numbered, Nothing}
use Rattle.model.specs.declared.Refusal.{Refusal}
use Rattle.model.specs.declared.Refusal.TheVariants.{Unreadable}
use Rattle.model.specs.Keys.{most_name}
use Rattle.model.specs.Operators.{row_of}
use Rattle.text.specs.Bytes.{Text, same_text, U, hyphen}
use Rattle.text.specs.Numerals.{read_number}
use Rattle.lines.specs.Lines.{words_of}
use Rattle.letters.specs.OperatorWords.{operator_number}

-- "values to 4,294,967,295"
abbrev pub most_value : ℕ
most_value = 4294967295

-- what reading a line finds: a call, or the refusal of a line that does not read as one
abbrev pub Reading : Type 0
Reading = Result Call Refusal

-- "a line that doesn't read as a call is refused 11"
abbrev pub refused : Reading
refused = Err Unreadable

-- what a number leads to; a word that is none is refused
unfoldable pub with_number : Option ℕ → (ℕ → Reading) → Reading
with_number None then = refused
with_number (Some x) then = then x

-- a field that is read takes the next word, a number of at most `most`; one that is not read takes none, and is 0
unfoldable pub take_number : Bool → ℕ → List Text → (ℕ → List Text → Reading) → Reading
take_number false most ws then = then 0 ws
take_number true most [] then = refused
take_number true most (w ∷ ws) then = with_number (read_number most w) (λ (x : ℕ). then x ws)

-- "UNIVERSE is `U`"; nothing is "written `-` in a script"; "the last, s, may be missing and means UNIVERSE": where it is optional
unfoldable pub take_space : Bool → List Text → (Space → List Text → Reading) → Reading
take_space optional [] then = cond optional (then Universe []) refused
take_space optional (w ∷ ws) then =
    cond (same_text w (U ∷ [])) (then Universe ws)
    (cond (same_text w (hyphen ∷ [])) (then Nothing ws)
    (with_number (read_number most_name w) (λ (x : ℕ). then (Numbered (record { 0 = x })) ws)))

-- nothing follows the last argument
unfoldable pub complete : Call → List Text → Reading
complete c [] = Ok c
complete c (w ∷ ws) = refused

abbrev pub call_of : ℕ → ℕ → ℕ → ℕ → ℕ → Space → Call
call_of o n g m v s =
    record { operator = o; n = record { 0 = n }; g = record { 0 = g }; m = record { 0 = m }; v = v; s = s }

-- "Arguments follow in the order above": n g m v, those that are read, and s; "For 1–50 the last, s, may be missing"
unfoldable pub in_order : ℕ → List Text → Reading
in_order o ws =
    take_number (row_of o).reads.n most_name ws (λ (n : ℕ) (ws₁ : List Text).
    take_number (row_of o).reads.g most_name ws₁ (λ (g : ℕ) (ws₂ : List Text).
    take_number (row_of o).reads.m most_name ws₂ (λ (m : ℕ) (ws₃ : List Text).
    take_number (row_of o).reads.v most_value ws₃ (λ (v : ℕ) (ws₄ : List Text).
    take_space (row_of o).optional ws₄ (λ (s : Space) (ws₅ : List Text). complete (call_of o n g m v s) ws₅)))))

-- "52 s v"
unfoldable pub space_then_value : ℕ → List Text → Reading
space_then_value o ws =
    take_space false ws (λ (s : Space) (ws₁ : List Text).
    take_number true most_value ws₁ (λ (v : ℕ) (ws₂ : List Text). complete (call_of o 0 0 0 v s) ws₂))

-- "SUS with a number is 57"; alone it is 56
unfoldable pub spaces : List Text → Reading
spaces [] = Ok (call_of 56 0 0 0 0 Universe)
spaces (w ∷ ws) = take_number true most_name (w ∷ ws) (λ (n : ℕ) (ws₁ : List Text). complete (call_of 57 n 0 0 0 Universe) ws₁)

-- the arguments of an operator: the words behind its letters
unfoldable pub arguments : ℕ → List Text → Reading
arguments o ws =
    cond (eqb o 52) (space_then_value o ws)
    (cond (eqb o 56) (spaces ws)
    (in_order o ws))

-- the words of a line; where the first is no operator's, it is refused
unfoldable pub read_words : List Text → Reading
read_words [] = refused
read_words (w ∷ ws) = with_number (operator_number w) (λ (o : ℕ). arguments o ws)

-- the call that a line reads as, or refusal 11
unfoldable pub read_line : Text → Reading
read_line line = read_words (words_of line)
