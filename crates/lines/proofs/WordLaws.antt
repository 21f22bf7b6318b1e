-- The words of a line, by what is left of it.
use Rattle.std.specs.Prelude.{Bool, true, false, cond, [], ◌∷◌, ◌≡◌, eqb, length, drop}
use Rattle.std.proofs.Common.{refl, ap}
use Rattle.text.specs.Bytes.{Text, before, blank}
use Rattle.lines.specs.Lines.{in_front, words_of}
use Rattle.lines.specs.Places.{words_behind}

-- the first word of a text, and the words behind it
pub first_word : (t : Text) → words_of t ≡ before blank t ∷ words_behind (drop (length (before blank t)) t)
unfolding words_of before words_behind in_front
first_word [] = refl
first_word (b ∷ bs) = go (eqb b blank) (first_word bs)
  where
    go : (x : Bool)
        → words_of bs ≡ before blank bs ∷ words_behind (drop (length (before blank bs)) bs)
        → cond x ([] ∷ words_of bs) (in_front b (words_of bs)) ≡ cond x [] (b ∷ before blank bs) ∷ words_behind (drop (length (cond x [] (b ∷ before blank bs))) (b ∷ bs))
    go true e = refl
    go false e = ap (in_front b) e
