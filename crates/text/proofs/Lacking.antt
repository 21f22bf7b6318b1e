-- Texts in which a byte does not occur.
use mathlib.Core.Bool.{Bool, true, false, cond, not, ◌&&◌, true≢false}
use mathlib.Core.List.{[], ◌∷◌, ◌++◌}
use mathlib.Core.Path.{◌≡◌, refl, sym, ap}
use Prim.Native.Nat.{ℕ, zero, suc, ◌/◌, ◌%◌, ◌<◌}
use native.Mathlib.Omega.{arith}
use lib.Dec.{eqb, ltb}
use borrow.Author.Tests.{ne_eqb}
use Rattle.text.specs.Bytes.{Text}
use Rattle.text.specs.Numerals.{digit_zero, digit, printed_in, printed_number}

-- no byte of a text is this one
abbrev pub lacks : ℕ → Text → Bool
lacks byte [] = true
lacks byte (b ∷ bs) = not (eqb b byte) && lacks byte bs

pub lacks_first : (byte b : ℕ) (bs : Text) → lacks byte (b ∷ bs) ≡ true → eqb b byte ≡ false
lacks_first byte b bs = go (eqb b byte)
  where
    go : (t : Bool) → (not t && lacks byte bs) ≡ true → t ≡ false
    go true e = absurd (true≢false (sym e))
    go false e = refl

pub lacks_rest : (byte b : ℕ) (bs : Text) → lacks byte (b ∷ bs) ≡ true → lacks byte bs ≡ true
lacks_rest byte b bs = go (eqb b byte)
  where
    go : (t : Bool) → (not t && lacks byte bs) ≡ true → lacks byte bs ≡ true
    go true e = absurd (true≢false (sym e))
    go false e = e

pub lacks_append : (byte : ℕ) (xs ys : Text) → lacks byte xs ≡ true → lacks byte ys ≡ true → lacks byte (xs ++ ys) ≡ true
lacks_append byte [] ys h k = k
lacks_append byte (b ∷ xs) ys h k = rw (lacks_first byte b xs h) (lacks_append byte xs ys (lacks_rest byte b xs h) k)

-- bytes of printed numbers begin with the digit 0

lacks_digit : (byte x : ℕ) → byte < digit_zero → lacks byte (digit x ∷ []) ≡ true
lacks_digit byte x h = ap (λ (t : Bool). not t && true) (ne_eqb (digit x) byte (λ e. omega (arith, e)))

lacks_in : (byte k x : ℕ) → byte < digit_zero → lacks byte (printed_in k x) ≡ true
unfolding printed_in
lacks_in byte zero x h = refl
lacks_in byte (suc k) x h = go (ltb x 10) (lacks_append byte (printed_in k (x / 10)) (digit (x % 10) ∷ []) (lacks_in byte k (x / 10) h) (lacks_digit byte (x % 10) h))
  where
    go : (t : Bool) → lacks byte (printed_in k (x / 10) ++ (digit (x % 10) ∷ [])) ≡ true
        → lacks byte (cond t (digit x ∷ []) (printed_in k (x / 10) ++ (digit (x % 10) ∷ []))) ≡ true
    go true more = lacks_digit byte x h
    go false more = more

pub lacks_printed : (byte x : ℕ) → byte < digit_zero → lacks byte (printed_number x) ≡ true
unfolding printed_number
lacks_printed byte x h = lacks_in byte _ x h
