-- Arguments by the rest of a line: what the functions that read arguments answer.
use Rattle.std.specs.Prelude.{Bool, cond, ◌&&◌, Option, Some, None, List, [], ◌∷◌, ℕ, leb}
use Rattle.text.specs.Bytes.{Text, same_text, U, hyphen}
use Rattle.text.specs.Numerals.{all_digits, number_after, read_number}
use Rattle.model.specs.declared.Space.{Space}
use Rattle.model.specs.declared.Space.TheVariants.{Universe, Numbered, Nothing}
use Rattle.lines.specs.declared.Argument.{Argument}
use Rattle.lines.specs.declared.Argument.TheVariants.{Number, Universal, NoSelection, Missing, Unreadable}
use Rattle.lines.specs.Lines.{words_of}

-- the words of the rest of a line, which begins with the blank before the first of them, or is empty
unfoldable pub words_behind : Text → List Text
words_behind [] = []
words_behind (b ∷ bs) = words_of bs

-- the words behind the first
unfoldable pub others : List Text → List Text
others [] = []
others (w ∷ ws) = ws

-- a word's number as an argument
unfoldable pub as_number : Option ℕ → Argument
as_number None = Unreadable
as_number (Some x) = Number x

-- "UNIVERSE is `U`"; nothing is "written `-` in a script" (document 02, request 1)
unfoldable pub of_word : ℕ → Text → Argument
of_word most w =
    cond (same_text w (U ∷ [])) Universal
    (cond (same_text w (hyphen ∷ [])) NoSelection
    (as_number (read_number most w)))

-- the first of some words as an argument
unfoldable pub first_of : ℕ → List Text → Argument
first_of most [] = Missing
first_of most (w ∷ ws) = of_word most w

-- a field that is not read has no argument, and is 0
unfoldable pub field_of : Bool → ℕ → List Text → Argument
field_of read most ws = cond read (first_of most ws) (Number 0)

-- the words that a field leaves
unfoldable pub left_by : Bool → List Text → List Text
left_by read ws = cond read (others ws) ws

-- the space that an argument gives; one that is missing is UNIVERSE where it is optional
unfoldable pub space_of : Bool → Argument → Option Space
space_of optional (Number x) = Some (Numbered (record { 0 = x }))
space_of optional Universal = Some Universe
space_of optional NoSelection = Some Nothing
space_of optional Missing = cond optional (Some Universe) None
space_of optional Unreadable = None

-- a word of digits, after those that give a, as a number of at most `most`
unfoldable pub read_digits : ℕ → ℕ → Text → Option ℕ
read_digits most a w = cond (all_digits w && leb (number_after a w) most) (Some (number_after a w)) None
