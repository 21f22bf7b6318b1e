-- The number of a word among some operators, and the letters that it begins with.
use Rattle.std.specs.Prelude.{Bool, false, cond, Option, Some, None, List, [], ◌∷◌, ℕ, eqb}
use Rattle.std.specs.Borrow.{Bor}
use Rattle.std.specs.Str.{bytes_eq}
use Rattle.text.specs.Bytes.{Text}

-- the number of the first of some operators, lent as their letters and numbers, whose letters are a word
unfoldable pub number_among : List (Bor Text × ℕ) → Text → Option ℕ
number_among [] w = None
number_among (x ∷ xs) w = cond (bytes_eq w x.0.now) (Some x.1) (number_among xs w)

-- does a word begin with this letter
unfoldable pub begins : ℕ → Text → Bool
begins a [] = false
begins a (x ∷ xs) = eqb x a
