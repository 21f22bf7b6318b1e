-- Document 01: the line that makes a call. Its letters are those of the table, its arguments those that are read, "one blank before each".
use Rattle.std.specs.Prelude.{Bool, true, false, cond, List, [], ◌∷◌, ◌++◌, ℕ, ◌-◌, ◌≤◌, eqb, get_or}
use Rattle.model.specs.declared.Call.{Call}
use Rattle.model.specs.declared.Space.{Space}
use Rattle.model.specs.declared.Space.TheVariants.{Universe, Numbered, Nothing}
use Rattle.model.specs.Operators.{row_of}
use Rattle.model.specs.Steps.{fields_of}
use Rattle.model.specs.Machine.{FieldsFit}
use Rattle.text.specs.Bytes.{Text, blank, S, U, hyphen}
use Rattle.text.specs.Numerals.{printed_number}
use Rattle.letters.specs.OperatorWords.{operator_words}
use Rattle.lines.specs.Calls.{most_value}

-- "one blank before each": a word, and the words behind it, as a line
unfoldable pub joined : Text → List Text → Text
joined w [] = w
joined w (x ∷ xs) = w ++ (blank ∷ joined x xs)

-- "numbers | operators": the letters of an operator; those of 57 are SUS
unfoldable pub letters_of : ℕ → Text
letters_of o = get_or operator_words (o - 1) (S ∷ U ∷ S ∷ [])

-- "UNIVERSE is `U`"; nothing is "written `-` in a script" (document 02, request 1)
unfoldable pub space_text : Space → Text
space_text Universe = U ∷ []
space_text (Numbered x) = printed_number x.0
space_text Nothing = hyphen ∷ []

-- a field that is read, in front of the words of the others
unfoldable pub if_read : Bool → Text → List Text → List Text
if_read false w ws = ws
if_read true w ws = w ∷ ws

-- "n g m v", those that are read, in front of what follows them
unfoldable pub fields_then : Call → List Text → List Text
fields_then c ws =
    if_read (row_of c.operator).reads.n (printed_number c.n.0)
    (if_read (row_of c.operator).reads.g (printed_number c.g.0)
    (if_read (row_of c.operator).reads.m (printed_number c.m.0)
    (if_read (row_of c.operator).reads.v (printed_number c.v) ws)))

-- "n g m v s", those that are read
unfoldable pub ordered_of : Call → List Text
ordered_of c = fields_then c (if_read (row_of c.operator).reads.s (space_text c.s) [])

-- "52 s v"
unfoldable pub arguments_of : Call → List Text
arguments_of c = cond (eqb c.operator 52) (space_text c.s ∷ printed_number c.v ∷ []) (ordered_of c)

-- the line that makes a call
unfoldable pub line_of : Call → Text
line_of c = joined (letters_of c.operator) (arguments_of c)

-- "For 1–50 the last, s, may be missing": the line that makes the call on UNIVERSE without it
unfoldable pub short_line_of : Call → Text
short_line_of c = joined (letters_of c.operator) (fields_then c [])

-- a call of one of the 57 operators whose fields fit: "names to 65,535, values to 4,294,967,295"
pub record CallFits (c : Call) : Type 0 where
  pub least : 1 ≤ c.operator
  pub last : c.operator ≤ 57
  pub names : FieldsFit (fields_of c)
  pub value : c.v ≤ most_value
