-- A word that is none of the operators' words has no number. Where it passes a test, it is enough that it is none of those that pass it.
use Rattle.std.specs.Prelude.{Bool, true, false, cond, Some, None, List, [], ◌∷◌, ◌≡◌, ℕ, ◌+◌}
use Rattle.std.proofs.Common.{refl, sym, ap, ◌∙◌}
use Rattle.model.proofs.Bools.{clash, failed}
use Rattle.text.specs.Bytes.{Text, same_text}
use Rattle.text.proofs.Reading.{same_text_lem}
use Rattle.letters.specs.OperatorWords.{operator_words, number_from, operator_number}

-- the words that pass a test
abbrev pub passing : (Text → Bool) → List Text → List Text
passing p [] = []
passing p (x ∷ xs) = cond (p x) (x ∷ passing p xs) (passing p xs)

-- a word is none of some: it was compared with each
pub data NoneOf (w : Text) : List Text → Type 0 where
  compared : NoneOf w []
  other : {x : Text} {xs : List Text} (r : Bool) → r ≡ same_text w x → r ≡ false → NoneOf w xs → NoneOf w (x ∷ xs)

none_first : (w x : Text) (xs : List Text) → NoneOf w (x ∷ xs) → same_text w x ≡ false
none_first w x xs (other r e f n) = sym e ∙ f

none_later : (w x : Text) (xs : List Text) → NoneOf w (x ∷ xs) → NoneOf w xs
none_later w x xs (other r e f n) = n

-- a word that passes a test, and is none of those that pass it, is none of them all
none_passing : (p : Text → Bool) (xs : List Text) (w : Text) → p w ≡ true → NoneOf w (passing p xs) → NoneOf w xs
none_passing p [] w h n = compared
none_passing p (x ∷ xs) w h n = go (p x) refl n (none_passing p xs w h)
  where
    go : (t : Bool) → p x ≡ t → NoneOf w (cond t (x ∷ passing p xs) (passing p xs)) → (NoneOf w (passing p xs) → NoneOf w xs) → NoneOf w (x ∷ xs)
    go true e m later = other (same_text w x) refl (none_first w x (passing p xs) m) (later (none_later w x (passing p xs) m))
    go false e m later = other (same_text w x) refl (failed (same_text w x) (λ s. clash h (ap p (same_text_lem w x s) ∙ e))) (later m)

none_numbered : (number : ℕ) (xs : List Text) (w : Text) → NoneOf w xs → number_from number xs w ≡ None
unfolding number_from
none_numbered number [] w n = refl
none_numbered number (x ∷ xs) w n = go (same_text w x) (none_first w x xs n) (none_numbered (number + 1) xs w (none_later w x xs n))
  where
    go : (s : Bool) → s ≡ false → number_from (number + 1) xs w ≡ None → cond s (Some number) (number_from (number + 1) xs w) ≡ None
    go true e later = absurd (clash refl e)
    go false e later = later

-- a word that is none of the operators' words is no operator
pub no_operator_word : (w : Text) → NoneOf w operator_words → None ≡ operator_number w
unfolding operator_number
no_operator_word w n = sym (none_numbered 1 operator_words w n)

-- a word that passes a test, and is none of the operators' words that pass it, is no operator
pub no_operator_lem : (p : Text → Bool) (w : Text) → p w ≡ true → NoneOf w (passing p operator_words) → None ≡ operator_number w
no_operator_lem p w h n = no_operator_word w (none_passing p operator_words w h n)
