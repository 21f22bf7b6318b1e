-- Document 01, the table of operators: the letters of each.
use Rattle.std.specs.Prelude.{Option, Some, None, cond, List, [], ◌∷◌, ◌++◌, ℕ, ◌+◌}
use Rattle.text.specs.Bytes.{Text, same_text, A, B, C, D, G, I, N, O, P, S, U, «V», X}

-- three operators in the order of the table: O, I, A
abbrev pub each_letter : (ℕ → Text) → List Text
each_letter f = f O ∷ f I ∷ f A ∷ []

-- "numbers | operators": entry i has the letters of operator i + 1; the last, SUS, is 56 and 57
unfoldable pub operator_words : List Text
operator_words =
    each_letter (λ d. C ∷ d ∷ P ∷ [])
    ++ each_letter (λ d. B ∷ d ∷ P ∷ [])
    ++ ((«V» ∷ O ∷ P ∷ []) ∷ («V» ∷ I ∷ P ∷ []) ∷ [])
    ++ each_letter (λ d. X ∷ d ∷ P ∷ [])
    ++ each_letter (λ d. D ∷ d ∷ P ∷ [])
    ++ each_letter (λ d. D ∷ d ∷ G ∷ [])
    ++ each_letter (λ d. D ∷ d ∷ G ∷ G ∷ [])
    ++ each_letter (λ d. D ∷ d ∷ G ∷ N ∷ [])
    ++ each_letter (λ d. D ∷ d ∷ N ∷ [])
    ++ each_letter (λ d. D ∷ d ∷ N ∷ G ∷ [])
    ++ each_letter (λ d. S ∷ d ∷ P ∷ [])
    ++ each_letter (λ d. S ∷ d ∷ G ∷ [])
    ++ each_letter (λ d. S ∷ d ∷ G ∷ N ∷ [])
    ++ each_letter (λ d. S ∷ d ∷ N ∷ [])
    ++ each_letter (λ d. S ∷ d ∷ N ∷ G ∷ [])
    ++ ((C ∷ U ∷ N ∷ []) ∷ (B ∷ U ∷ N ∷ []) ∷ («V» ∷ U ∷ N ∷ []) ∷ (X ∷ U ∷ N ∷ []) ∷ (D ∷ U ∷ N ∷ []) ∷ (S ∷ U ∷ N ∷ []) ∷ [])
    ++ ((C ∷ U ∷ S ∷ []) ∷ (B ∷ U ∷ S ∷ []) ∷ («V» ∷ U ∷ S ∷ []) ∷ (X ∷ U ∷ S ∷ []) ∷ (D ∷ U ∷ S ∷ []) ∷ [])
    ++ ((S ∷ U ∷ S ∷ []) ∷ [])

-- the number of the first of some words that is the same, where the first of them has this number
unfoldable pub number_from : ℕ → List Text → Text → Option ℕ
number_from number [] w = None
number_from number (x ∷ xs) w = cond (same_text w x) (Some number) (number_from (number + 1) xs w)

-- "Operator letters are compared as they stand, in capitals": the operator of a word, where it is one's
unfoldable pub operator_number : Text → Option ℕ
operator_number w = number_from 1 operator_words w
