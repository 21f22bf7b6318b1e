-- Texts read byte by byte: the part before a byte, texts that are the same, and the numbers of digits.
use mathlib.Core.Bool.{Bool, true, false, cond, ◌&&◌, false≢true}
use mathlib.Core.List.{[], ◌∷◌}
use mathlib.Core.Path.{◌≡◌, refl, sym, ap}
use Rattle.std.specs.Prelude.{Some, None}
use Prim.Native.Nat.{ℕ, ◌+◌, ◌-◌, ◌*◌, ◌≤◌, ◌<◌}
use native.Mathlib.Omega.{arith}
use native.Mathlib.Numerals.{add-one, one-add}
use lib.Dec.{eqb, leb}
use lib.ListN.{length, get_or, take, drop, length-drop}
use lib.Seq.{drop-cons}
use borrow.Author.Tests.{eqb-true, le-leb, leb-true}
use Rattle.std.specs.List.{position_or_len}
use Rattle.std.specs.Str.{bytes_eq}
use Rattle.std.proofs.lemmas.List.Recursion.{is_position_or_len}
use Rattle.text.specs.Bytes.{Text, before, same_text}
use Rattle.text.specs.Numerals.{digit_zero, is_digit, plain_digits, number_after, read_number}

-- the rest of a text from a place in it on
pub rest : (t : Text) (at : ℕ) → at < length t → drop at t ≡ get_or t at 0 ∷ drop (at + 1) t
rest t at h = rw (add-one, drop-cons t at 0)

-- the part before a byte

-- it is as long as the place of the byte says, or the whole text where there is none
pub length_before : (end : ℕ) (t : Text) → length (before end t) ≡ position_or_len (λ (b : ℕ). eqb b end) t
unfolding before
length_before end t = is_position_or_len (λ (x : Text). length (before end x)) (λ (b : ℕ). eqb b end) refl step t
  where
    either : (x : Bool) (b : ℕ) (bs : Text) → length (cond x [] (b ∷ bs)) ≡ cond x 0 (1 + length bs)
    either true b bs = refl
    either false b bs = sym (one-add (length bs))

    step : (b : ℕ) (bs : Text) → length (before end (b ∷ bs)) ≡ cond (eqb b end) 0 (1 + length (before end bs))
    step b bs = either (eqb b end) b (before end bs)

-- the part before a byte is as many of the first bytes
pub before_take : (end : ℕ) (t : Text) → take (length (before end t)) t ≡ before end t
unfolding before
before_take end [] = refl
before_take end (b ∷ bs) = go (eqb b end) (before_take end bs)
  where
    go : (x : Bool) → take (length (before end bs)) bs ≡ before end bs → take (length (cond x [] (b ∷ before end bs))) (b ∷ bs) ≡ cond x [] (b ∷ before end bs)
    go true e = refl
    go false e = ap (λ (y : Text). b ∷ y) e

pub before_length : (end : ℕ) (t : Text) → length (before end t) ≤ length t
unfolding before
before_length end [] = omega arith
before_length end (b ∷ bs) = go (eqb b end) (before_length end bs)
  where
    go : (x : Bool) → length (before end bs) ≤ length bs → length (cond x [] (b ∷ before end bs)) ≤ length (b ∷ bs)
    go true h = omega arith
    go false h = omega arith

pub before_within : (end : ℕ) (t : Text) (from : ℕ) → from ≤ length t → from + length (before end (drop from t)) ≤ length t
before_within end t from h = omega (arith, before_length end (drop from t), length-drop from t)

-- texts that are the same

pub same_text_lem : (x y : Text) → same_text x y ≡ true → x ≡ y
unfolding same_text
same_text_lem [] [] e = refl
same_text_lem [] (b ∷ y) e = absurd (false≢true e)
same_text_lem (a ∷ x) [] e = absurd (false≢true e)
same_text_lem (a ∷ x) (b ∷ y) e = go (eqb a b) refl e (same_text_lem x y)
  where
    go : (t : Bool) → eqb a b ≡ t → (t && same_text x y) ≡ true → (same_text x y ≡ true → x ≡ y) → ◌≡◌ {A = Text} (a ∷ x) (b ∷ y)
    go true f g later =
        let p = eqb-true a b f in
        let q = later g in
        cc
    go false f g later = absurd (false≢true g)

-- and where `==` says so
pub same_bytes : (x y : Text) → bytes_eq x y ≡ same_text x y
unfolding same_text
same_bytes [] [] = refl
same_bytes [] (b ∷ y) = refl
same_bytes (a ∷ x) [] = refl
same_bytes (a ∷ x) (b ∷ y) = ap (λ (t : Bool). eqb a b && t) (same_bytes x y)

-- the numbers of digits

-- the digits are the digit 0 and the next nine bytes
pub digit_yes : (b : ℕ) → digit_zero ≤ b → b ≤ digit_zero + 9 → is_digit b ≡ true
unfolding is_digit
digit_yes b h l = rw (le-leb digit_zero b h, le-leb b (digit_zero + 9) l)

-- further digits never make a number less
pub grows : (t : Text) (a : ℕ) → a ≤ number_after a t
unfolding number_after
grows [] a = omega arith
grows (b ∷ bs) a = omega (arith, grows bs (a * 10 + (b - digit_zero)))

-- a number that is read is at most what it may be
pub number_most : (most : ℕ) (w : Text) (x : ℕ) → read_number most w ≡ Some x → x ≤ most
unfolding read_number
number_most most w x e = go (plain_digits w) (leb (number_after 0 w) most) refl e
  where
    go : (p q : Bool) → leb (number_after 0 w) most ≡ q → cond (p && q) (Some (number_after 0 w)) None ≡ Some x → x ≤ most
    go true true l f =
        let h = leb-true (number_after 0 w) most l in
        let k : number_after 0 w ≡ x = cc in
        omega arith
    go true false l f =
        let z : ◌≡◌ {A = ℕ} 0 1 = cc in
        omega arith
    go false q l f =
        let z : ◌≡◌ {A = ℕ} 0 1 = cc in
        omega arith
