-- Document 01: "Lines end with a line feed, the last perhaps not"; "one blank before each".
use Rattle.std.specs.Prelude.{cond, List, [], ◌∷◌, ℕ, eqb}
use Rattle.text.specs.Bytes.{Text, line_feed, blank}

-- a byte in front of the first of some texts
unfoldable pub in_front : ℕ → List Text → List Text
in_front b [] = (b ∷ []) ∷ []
in_front b (x ∷ xs) = (b ∷ x) ∷ xs

-- "Lines end with a line feed, the last perhaps not": the lines of a script; a line feed ends a line and starts none
unfoldable pub lines_of : Text → List Text
lines_of [] = []
lines_of (b ∷ bs) = cond (eqb b line_feed) ([] ∷ lines_of bs) (in_front b (lines_of bs))

-- "one blank before each": the words of a line, parted by single blanks; two blanks together, or one at either end, make an empty word
unfoldable pub words_of : Text → List Text
words_of [] = [] ∷ []
words_of (b ∷ bs) = cond (eqb b blank) ([] ∷ words_of bs) (in_front b (words_of bs))
