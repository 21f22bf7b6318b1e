-- A word read digit by digit.
use Rattle.std.specs.Prelude.{Bool, true, false, cond, ◌&&◌, Some, None, [], ◌∷◌, ◌≡◌, ℕ, ◌+◌, ◌-◌, ◌*◌, ◌≤◌, ◌<◌, leb, length, drop}
use Rattle.std.proofs.Common.{refl, sym, ap, ◌∙◌, arith, get_or}
use mathlib.Core.Bool.{and-true}
use lib.ListN.{drop_of_length-le}
use borrow.Author.Tests.{le-leb, lt-leb, eq-eqb, ne_eqb}
use Rattle.text.specs.Bytes.{Text}
use Rattle.text.specs.Numerals.{digit_zero, is_digit, all_digits, plain_digits, number_after, read_number}
use Rattle.text.proofs.Reading.{rest, grows}
use Rattle.lines.specs.Places.{read_digits}

-- a word read as far as place i: the number so far is `value`
module _ (most : ℕ) (w : Text) (value i : ℕ) (S : read_digits most 0 w ≡ read_digits most value (drop i w)) where
  at_digit : i < length w → read_digits most 0 w ≡ read_digits most value (get_or w i 0 ∷ drop (i + 1) w)
  at_digit h = S ∙ ap (read_digits most value) (rest w i h)

  pub no_digit : i < length w → is_digit (get_or w i 0) ≡ false → None ≡ read_digits most 0 w
  unfolding read_digits all_digits number_after
  no_digit h e = sym (at_digit h ∙ rw e)

  pub digit_taken : (d : ℕ) → i < length w → is_digit (get_or w i 0) ≡ true → d ≡ get_or w i 0 - digit_zero → read_digits most 0 w ≡ read_digits most (value * 10 + d) (drop (i + 1) w)
  unfolding read_digits all_digits number_after
  digit_taken d h e f =
      let on : read_digits most value (get_or w i 0 ∷ drop (i + 1) w) ≡ read_digits most (value * 10 + (get_or w i 0 - digit_zero)) (drop (i + 1) w) = rw e in
      at_digit h ∙ on ∙ ap (λ (x : ℕ). read_digits most (value * 10 + x) (drop (i + 1) w)) (sym f)

  pub digits_ended : length w ≤ i → value ≤ most → Some value ≡ read_digits most 0 w
  unfolding read_digits all_digits number_after
  digits_ended h l =
      let p = drop_of_length-le w h in
      let q = le-leb value most l in
      sym (S ∙ rw (p, q))

-- a number past the most stays past it
past : (most a : ℕ) (w : Text) → most < a → read_digits most a w ≡ None
unfolding read_digits
past most a w h = go (all_digits w) (leb (number_after a w) most) (lt-leb (number_after a w) most (omega (arith, grows w a)))
  where
    go : (p q : Bool) → q ≡ false → cond (p && q) (Some (number_after a w)) None ≡ None
    go true q e = ap (λ (t : Bool). cond t (Some (number_after a w)) None) e
    go false q e = refl

pub past_most : (most : ℕ) (w : Text) (value : ℕ) (bs : Text) → read_digits most 0 w ≡ read_digits most value bs → most < value → None ≡ read_digits most 0 w
past_most most w value bs S h = sym (S ∙ past most value bs h)

-- the whole word

pub no_digits : (most : ℕ) (w : Text) → length w < 1 → None ≡ read_number most w
unfolding read_number plain_digits
no_digits most [] h = refl
no_digits most (b ∷ bs) h = absurd (omega arith)

pub zero_refused : (most : ℕ) (w : Text) → get_or w 0 0 ≡ digit_zero → 2 ≤ length w → None ≡ read_number most w
unfolding read_number plain_digits
zero_refused most [] e h = absurd (omega arith)
zero_refused most (b ∷ []) e h = absurd (omega arith)
zero_refused most (b ∷ c ∷ bs) e h =
    let z = eq-eqb b digit_zero e in
    rw z

pub one_digit : (most : ℕ) (w : Text) → 1 ≤ length w → length w < 2 → read_digits most 0 w ≡ read_number most w
unfolding read_number read_digits plain_digits all_digits
one_digit most [] h l = absurd (omega arith)
one_digit most (b ∷ []) h l = ap (λ (t : Bool). cond (t && leb (number_after 0 (b ∷ [])) most) (Some (number_after 0 (b ∷ []))) None) (and-true (is_digit b))
one_digit most (b ∷ c ∷ bs) h l = absurd (omega arith)

pub digits_read : (most : ℕ) (w : Text) → 1 ≤ length w → (get_or w 0 0 ≡ digit_zero → ⊥) → read_digits most 0 w ≡ read_number most w
unfolding read_number read_digits plain_digits all_digits
digits_read most [] h n = absurd (omega arith)
digits_read most (b ∷ []) h n = one_digit most (b ∷ []) h (omega arith)
digits_read most (b ∷ c ∷ bs) h n =
    let z = ne_eqb b digit_zero n in
    rw z
