-- The number of a word, found among the operators that begin with its first letter, or its first two.
use Rattle.std.specs.Prelude.{Bool, true, false, cond, not, ◌&&◌, Option, Some, None, List, [], ◌∷◌, map, ◌≡◌, ℕ, zero, suc, ◌+◌, ◌≤◌, ◌<◌, eqb, ltb, length, drop}
use Rattle.std.proofs.Common.{refl, sym, ap, ◌∙◌, arith, get_or}
use Rattle.std.proofs.Math.Numerals.{add-one}
use lib.ListN.{drop_of_length-le}
use lib.Seq.{drop-cons}
use borrow.Author.Tests.{lt-ltb, eq-eqb, ne_eqb, eqb-true}
use Rattle.std.specs.Borrow.{Bor}
use Rattle.std.specs.Str.{bytes_eq}
use Rattle.text.specs.Bytes.{Text, same_text, A, B, C, D, I, O, S, U, «V», X}
use Rattle.model.proofs.Bools.{and_left, and_right, and_both, no_not}
use Rattle.text.proofs.Reading.{same_bytes}
use Rattle.letters.specs.Letters.{number_among, begins}
use Rattle.letters.specs.OperatorWords.{operator_words, number_from, operator_number}
use Rattle.letters.proofs.NoOperator.{passing, NoneOf, compared, no_operator_lem}

-- ---- a walk of some operators

-- a walk that has come to place i
module _ (xs : List (Bor Text × ℕ)) (w : Text) (i : ℕ) (walked : number_among xs w ≡ number_among (drop i xs) w) where
  at_place : (d : Bor Text × ℕ) → i < length xs → number_among xs w ≡ cond (bytes_eq w (get_or xs i d).0.now) (Some (get_or xs i d).1) (number_among (drop (i + 1) xs) w)
  unfolding number_among
  at_place d h =
      let p : drop i xs ≡ get_or xs i d ∷ drop (i + 1) xs = rw (add-one, drop-cons xs i d h) in
      walked ∙ ap (λ (ys : List (Bor Text × ℕ)). number_among ys w) p

  pub among_found : (d : Bor Text × ℕ) (r : Bool) → i < length xs → r ≡ bytes_eq w (get_or xs i d).0.now → r ≡ true → Some (get_or xs i d).1 ≡ number_among xs w
  among_found d r h told e = sym (at_place d h ∙ ap (λ (t : Bool). cond t (Some (get_or xs i d).1) (number_among (drop (i + 1) xs) w)) (sym told ∙ e))

  pub among_passed : (d : Bor Text × ℕ) (r : Bool) → i < length xs → r ≡ bytes_eq w (get_or xs i d).0.now → r ≡ false → number_among xs w ≡ number_among (drop (i + 1) xs) w
  among_passed d r h told e = at_place d h ∙ ap (λ (t : Bool). cond t (Some (get_or xs i d).1) (number_among (drop (i + 1) xs) w)) (sym told ∙ e)

  pub among_ended : length xs ≤ i → None ≡ number_among xs w
  unfolding number_among
  among_ended h = sym (walked ∙ ap (λ (ys : List (Bor Text × ℕ)). number_among ys w) (drop_of_length-le xs h))

-- ---- what a walk of the operators with the letters of a word finds

-- operators as their letters and numbers
abbrev pub written : List (Bor Text × ℕ) → List (Text × ℕ)
written xs = map (λ (x : Bor Text × ℕ). (x.0.now, x.1)) xs

-- the number of the first of them whose letters are a word
unfoldable pub number_of_word : List (Text × ℕ) → Text → Option ℕ
number_of_word [] w = None
number_of_word (x ∷ xs) w = cond (same_text w x.0) (Some x.1) (number_of_word xs w)

as_written : (xs : List (Bor Text × ℕ)) (w : Text) → number_among xs w ≡ number_of_word (written xs) w
unfolding number_among number_of_word
as_written [] w = refl
as_written (x ∷ xs) w =
    ap (λ (t : Bool). cond t (Some x.1) (number_among xs w)) (same_bytes w x.0.now)
    ∙ ap (λ (r : Option ℕ). cond (same_text w x.0.now) (Some x.1) r) (as_written xs w)

-- operators in which each word with this first letter has its number
abbrev pub Told : ℕ → List (Text × ℕ) → Type 0
Told a entries = (w : Text) → number_of_word entries (a ∷ w) ≡ operator_number (a ∷ w)

-- operators in which each word with these first letters has its number
abbrev pub TwoTold : ℕ → ℕ → List (Text × ℕ) → Type 0
TwoTold a b entries = (w : Text) → number_of_word entries (a ∷ b ∷ w) ≡ operator_number (a ∷ b ∷ w)

pub first_told : (a : ℕ) (xs : List (Bor Text × ℕ)) → Told a (written xs) → (w : Text) (r : Option ℕ) → r ≡ number_among xs w → (length w ≡ 0 → ⊥) → get_or w 0 0 ≡ a → r ≡ operator_number w
first_told a xs T [] r found n e = absurd (n refl)
first_told a xs T (x ∷ w) r found n e = found ∙ as_written xs (x ∷ w) ∙ (λ i. number_of_word (written xs) (e i ∷ w)) ∙ T w ∙ (λ i. operator_number (sym e i ∷ w))

pub second_told : (a b : ℕ) (xs : List (Bor Text × ℕ)) → TwoTold a b (written xs) → (w : Text) (r : Option ℕ) → r ≡ number_among xs w → begins a w ≡ true → 2 ≤ length w → get_or w 1 0 ≡ b
    → r ≡ operator_number w
unfolding begins
second_told a b xs T [] r found f l e = absurd (omega arith)
second_told a b xs T (x ∷ []) r found f l e = absurd (omega arith)
second_told a b xs T (x ∷ y ∷ w) r found f l e =
    let g = eqb-true x a f in
    found ∙ as_written xs (x ∷ y ∷ w) ∙ (λ i. number_of_word (written xs) (g i ∷ e i ∷ w)) ∙ T w ∙ (λ i. operator_number (sym g i ∷ sym e i ∷ w))

-- ---- the first letters

pub begins_with : (a : ℕ) (w : Text) → (length w ≡ 0 → ⊥) → get_or w 0 0 ≡ a → begins a w ≡ true
unfolding begins
begins_with a [] n e = absurd (n refl)
begins_with a (x ∷ xs) n e = eq-eqb x a e

-- a word of fewer than two letters is no operator
abbrev short : Text → Bool
short w = ltb (length w) 2

pub no_short : (w : Text) → length w < 2 → None ≡ operator_number w
unfolding operator_words
no_short w h = no_operator_lem short w (lt-ltb (length w) 2 h) compared

pub no_empty : (w : Text) → length w ≡ 0 → None ≡ operator_number w
no_empty w e = no_short w (omega arith)

-- is a letter none of some
abbrev differs : ℕ → List ℕ → Bool
differs x [] = true
differs x (a ∷ ls) = not (eqb x a) && differs x ls

differs_more : (x a : ℕ) (ls : List ℕ) → (x ≡ a → ⊥) → differs x ls ≡ true → differs x (a ∷ ls) ≡ true
differs_more x a ls n e = and_both _ _ (no_not _ (ne_eqb x a n)) e

-- a word with another first letter is no operator
pub no_first : (w : Text) → (get_or w 0 0 ≡ C → ⊥) → (get_or w 0 0 ≡ B → ⊥) → (get_or w 0 0 ≡ «V» → ⊥) → (get_or w 0 0 ≡ X → ⊥) → (get_or w 0 0 ≡ D → ⊥) → (get_or w 0 0 ≡ S → ⊥)
    → None ≡ operator_number w
unfolding operator_words
no_first w c b v x d s =
    no_operator_lem (λ (t : Text). differs (get_or t 0 0) (C ∷ B ∷ «V» ∷ X ∷ D ∷ S ∷ [])) w
    (differs_more (get_or w 0 0) C (B ∷ «V» ∷ X ∷ D ∷ S ∷ []) c
    (differs_more (get_or w 0 0) B («V» ∷ X ∷ D ∷ S ∷ []) b
    (differs_more (get_or w 0 0) «V» (X ∷ D ∷ S ∷ []) v
    (differs_more (get_or w 0 0) X (D ∷ S ∷ []) x
    (differs_more (get_or w 0 0) D (S ∷ []) d
    (differs_more (get_or w 0 0) S [] s refl))))))
    compared

-- a word with this first letter and a second that is none of O, I, A, U
abbrev pub other_second : ℕ → Text → Bool
other_second a w = begins a w && differs (get_or w 1 0) (O ∷ I ∷ A ∷ U ∷ [])

pub no_second : (a : ℕ) (w : Text) → begins a w ≡ true → (get_or w 1 0 ≡ O → ⊥) → (get_or w 1 0 ≡ I → ⊥) → (get_or w 1 0 ≡ A → ⊥) → (get_or w 1 0 ≡ U → ⊥)
    → NoneOf w (passing (other_second a) operator_words) → None ≡ operator_number w
no_second a w h o i l u n =
    no_operator_lem (other_second a) w
    (and_both (begins a w) _ h
    (differs_more (get_or w 1 0) O (I ∷ A ∷ U ∷ []) o
    (differs_more (get_or w 1 0) I (A ∷ U ∷ []) i
    (differs_more (get_or w 1 0) A (U ∷ []) l
    (differs_more (get_or w 1 0) U [] u refl)))))
    n

-- the operators' words are told apart: each has its own number

-- is it this number
abbrev pub is_number : Option ℕ → ℕ → Bool
is_number None number = false
is_number (Some x) number = eqb x number

pub is_number_lem : (r : Option ℕ) (number : ℕ) → is_number r number ≡ true → r ≡ Some number
is_number_lem None number e = absurd (cc)
is_number_lem (Some x) number e = ap (λ (y : ℕ). Some y) (eqb-true x number e)

-- have some words the numbers from this one on
abbrev told_apart : ℕ → List Text → Bool
told_apart number [] = true
told_apart number (x ∷ xs) = is_number (operator_number x) number && told_apart (number + 1) xs

all_told : told_apart 1 operator_words ≡ true
unfolding operator_words operator_number number_from same_text
all_told = refl

told_at : (number : ℕ) (xs : List Text) → told_apart number xs ≡ true → (i : ℕ) → i < length xs → operator_number (get_or xs i []) ≡ Some (number + i)
told_at number [] e i h = absurd (omega arith)
told_at number (x ∷ xs) e zero h =
    let n : number ≡ number + 0 = omega arith in
    is_number_lem (operator_number x) number (and_left _ (told_apart (number + 1) xs) e) ∙ ap (λ (y : ℕ). Some y) n
told_at number (x ∷ xs) e (suc i) h =
    let n : number + 1 + i ≡ number + suc i = omega arith in
    told_at (number + 1) xs (and_right (is_number (operator_number x) number) _ e) i (omega arith) ∙ ap (λ (y : ℕ). Some y) n

-- "entry i has the letters of operator i + 1"
pub each_number : (i : ℕ) → i < length operator_words → operator_number (get_or operator_words i []) ≡ Some (1 + i)
each_number i h = told_at 1 operator_words all_told i h
