-- Numbers printed in base ten: they read back, and how long they are.
use mathlib.Core.Bool.{Bool, true, false, ◌&&◌, and-true, true≢false}
use mathlib.Core.List.{[], ◌∷◌, ◌++◌}
use mathlib.Core.Path.{◌≡◌, refl, sym, ap, ◌∙◌, subst}
use Rattle.std.specs.Prelude.{Some}
use Prim.Native.Nat.{ℕ, zero, suc, ◌+◌, ◌-◌, ◌*◌, ◌/◌, ◌%◌, ◌^◌, ◌≤◌, ◌<◌}
use native.Mathlib.Nat.{div-lt_iff_lt-mul, pow-suc}
use native.Mathlib.Omega.{arith}
use lib.Dec.{eqb, ltb}
use lib.ListN.{length, drop, get_or, length-append}
use borrow.Author.Tests.{ltb-true, ltb-false, lt-ltb, le-ltb, le-leb, ne_eqb}
use Rattle.text.specs.Bytes.{Text}
use Rattle.text.specs.Numerals.{is_digit, all_digits, plain_digits, number_after, read_number, digit, printed_in, printed_number}

-- ---- the last digit

-- a number below ten, in any number of digits
pub printed_digit : (k x : ℕ) → x < 10 → printed_in (suc k) x ≡ digit x ∷ []
unfolding printed_in
printed_digit k x h = simp (lt-ltb x 10 h)

-- any other number: its last digit behind the others
pub printed_digits : (k x : ℕ) → 10 ≤ x → printed_in (suc k) x ≡ printed_in k (x / 10) ++ (digit (x % 10) ∷ [])
unfolding printed_in
printed_digits k x h = simp (le-ltb x 10 h)

-- one digit less
tenth : (k x : ℕ) → x < 10 ^ suc k → x / 10 < 10 ^ k
tenth k x h = (div-lt_iff_lt-mul {k = 10} {x = x} {y = 10 ^ k} (omega arith)).1 (subst (λ (n : ℕ). x < n) (pow-suc 10 k) h)

pow_some : (k : ℕ) → 1 ≤ 10 ^ k
pow_some zero = omega arith
pow_some (suc k) = omega (arith, pow-suc 10 k, pow_some k)

-- what holds of numbers below ten, and of a number where it holds of its tenth, holds of all numbers and their digits
pub by_digits : (P : ℕ → Text → Type 0) → ((x : ℕ) → x < 10 → P x (digit x ∷ [])) → ((x : ℕ) (ds : Text) → 10 ≤ x → P (x / 10) ds → P x (ds ++ (digit (x % 10) ∷ []))) → (k x : ℕ)
    → x < 10 ^ suc k → P x (printed_in (suc k) x)
by_digits P one more zero x h = subst (P x) (sym (printed_digit zero x h)) (one x h)
by_digits P one more (suc k) x h = go (ltb x 10) refl (by_digits P one more k (x / 10) (tenth (suc k) x h))
  where
    go : (b : Bool) → ltb x 10 ≡ b → P (x / 10) (printed_in (suc k) (x / 10)) → P x (printed_in (suc (suc k)) x)
    go true e ih = subst (P x) (sym (printed_digit (suc k) x (ltb-true x 10 e))) (one x (ltb-true x 10 e))
    go false e ih = subst (P x) (sym (printed_digits (suc k) x (ltb-false x 10 e))) (more x (printed_in (suc k) (x / 10)) (ltb-false x 10 e) ih)

-- a number of 32 bits, printed
pub of_printed : (P : ℕ → Text → Type 0) → ((x : ℕ) → x < 10 → P x (digit x ∷ [])) → ((x : ℕ) (ds : Text) → 10 ≤ x → P (x / 10) ds → P x (ds ++ (digit (x % 10) ∷ []))) → (x : ℕ)
    → x ≤ 4294967295 → P x (printed_number x)
unfolding printed_number
of_printed P one more x h = by_digits P one more 9 x (omega arith)

-- ---- a printed number reads back

number_append : (a : ℕ) (ds : Text) (d : ℕ) → number_after a (ds ++ (digit d ∷ [])) ≡ number_after a ds * 10 + d
unfolding number_after
number_append a [] d = omega arith
number_append a (b ∷ bs) d = number_append (a * 10 + (b - 48)) bs d

pub number_printed : (x : ℕ) → x ≤ 4294967295 → number_after 0 (printed_number x) ≡ x
unfolding number_after
number_printed = of_printed (λ (x : ℕ) (ds : Text). number_after 0 ds ≡ x) (λ x h. omega arith) (λ x ds h ih. number_append 0 ds (x % 10) ∙ ap (λ (n : ℕ). n * 10 + x % 10) ih ∙ omega arith)

digit_yes : (d : ℕ) → d < 10 → is_digit (digit d) ≡ true
unfolding is_digit
digit_yes d h = simp (le-leb 48 (48 + d) (omega arith), le-leb (48 + d) 57 (omega arith))

digits_append : (ds es : Text) → all_digits ds ≡ true → all_digits es ≡ true → all_digits (ds ++ es) ≡ true
unfolding all_digits
digits_append [] es h k = k
digits_append (b ∷ bs) es h k = go (is_digit b) h (λ e. digits_append bs es e k)
  where
    go : (t : Bool) → (t && all_digits bs) ≡ true → (all_digits bs ≡ true → all_digits (bs ++ es) ≡ true) → (t && all_digits (bs ++ es)) ≡ true
    go true e ih = ih e
    go false e ih = e

one_digit : (d : ℕ) → d < 10 → all_digits (digit d ∷ []) ≡ true
unfolding all_digits
one_digit d h = simp (digit_yes d h)

-- all its bytes are digits
pub digits_printed : (x : ℕ) → x ≤ 4294967295 → all_digits (printed_number x) ≡ true
digits_printed = of_printed (λ (x : ℕ) (ds : Text). all_digits ds ≡ true) one_digit (λ x ds h ih. digits_append ds (digit (x % 10) ∷ []) ih (one_digit (x % 10) (omega arith)))

-- a text whose first byte is not the digit 0
data Leading : Text → Type 0 where
  leading : (b : ℕ) (bs : Text) → eqb b 48 ≡ false → Leading (b ∷ bs)

leading_append : (ds es : Text) → Leading ds → Leading (ds ++ es)
leading_append _ es (leading b bs h) = leading b (bs ++ es) h

leading_printed : (x : ℕ) → x ≤ 4294967295 → 0 < x → Leading (printed_number x)
leading_printed = of_printed (λ (x : ℕ) (ds : Text). 0 < x → Leading ds) (λ x h p. leading (48 + x) [] (ne_eqb (48 + x) 48 (λ e. omega arith))) (λ x ds h ih p. leading_append ds (digit (x % 10) ∷ []) (ih (omega arith)))

leading_plain : (ds : Text) → Leading ds → all_digits ds ≡ true → plain_digits ds ≡ true
unfolding plain_digits all_digits
leading_plain _ (leading b [] h) k = sym (and-true (is_digit b)) ∙ k
leading_plain _ (leading b (c ∷ bs) h) k = simp h k

-- "plain digits without a leading zero (zero itself is `0`)"
pub plain_printed : (x : ℕ) → x ≤ 4294967295 → plain_digits (printed_number x) ≡ true
unfolding plain_digits printed_number printed_in is_digit
plain_printed zero h = refl
plain_printed (suc x) h = leading_plain (printed_number (suc x)) (leading_printed (suc x) h (omega arith)) (digits_printed (suc x) h)

pub reads_back : (most x : ℕ) → x ≤ most → most ≤ 4294967295 → read_number most (printed_number x) ≡ Some x
unfolding read_number
reads_back most x h k =
    let small : x ≤ 4294967295 = omega arith in
    simp (plain_printed x small, number_printed x small, le-leb x most h)

-- distinct numbers print as distinct texts
pub printed_apart : (x y : ℕ) → x ≤ 4294967295 → y ≤ 4294967295 → printed_number x ≡ printed_number y → x ≡ y
printed_apart x y h k e = sym (number_printed x h) ∙ ap (number_after 0) e ∙ number_printed y k

-- ---- its length

-- as many digits as there are powers of ten up to the number
pub printed_length : (j x : ℕ) → x ≤ 4294967295 → 10 ^ j ≤ x → x < 10 ^ suc j → length (printed_number x) ≡ suc j
printed_length j x h = of_printed (λ (x : ℕ) (ds : Text). (j : ℕ) → 10 ^ j ≤ x → x < 10 ^ suc j → length ds ≡ suc j) one more x h j
  where
    one : (x : ℕ) → x < 10 → (j : ℕ) → 10 ^ j ≤ x → x < 10 ^ suc j → length (digit x ∷ []) ≡ suc j
    one x h zero a b = refl
    one x h (suc j) a b = absurd (omega (arith, pow-suc 10 j, pow_some j))

    more : (x : ℕ) (ds : Text) → 10 ≤ x → ((j : ℕ) → 10 ^ j ≤ x / 10 → x / 10 < 10 ^ suc j → length ds ≡ suc j) → (j : ℕ) → 10 ^ j ≤ x → x < 10 ^ suc j → length (ds ++ (digit (x % 10) ∷ [])) ≡ suc j
    more x ds h ih zero a b = absurd (omega arith)
    more x ds h ih (suc j) a b = length-append ds (digit (x % 10) ∷ []) ∙ ap (λ (n : ℕ). n + 1) (ih j (omega (arith, pow-suc 10 j)) (tenth (suc j) x b)) ∙ omega arith

pub printed_one : (x : ℕ) → x < 10 → length (printed_number x) ≡ 1
unfolding printed_number
printed_one x h = ap length (printed_digit 9 x h)

-- at most so many digits as the number's limit has
pub printed_within : (j x : ℕ) → x ≤ 4294967295 → x < 10 ^ suc j → length (printed_number x) ≤ suc j
printed_within j x h = of_printed (λ (x : ℕ) (ds : Text). (j : ℕ) → x < 10 ^ suc j → length ds ≤ suc j) one more x h j
  where
    one : (x : ℕ) → x < 10 → (j : ℕ) → x < 10 ^ suc j → length (digit x ∷ []) ≤ suc j
    one x h j b = omega arith

    more : (x : ℕ) (ds : Text) → 10 ≤ x → ((j : ℕ) → x / 10 < 10 ^ suc j → length ds ≤ suc j) → (j : ℕ) → x < 10 ^ suc j → length (ds ++ (digit (x % 10) ∷ [])) ≤ suc j
    more x ds h ih zero b = absurd (omega arith)
    more x ds h ih (suc j) b = omega (arith, length-append ds (digit (x % 10) ∷ []), ih j (tenth (suc j) x b))

-- no number has more digits than there is room for
most_digits_lem : (k x : ℕ) → length (printed_in k x) ≤ k
unfolding printed_in
most_digits_lem zero x = omega arith
most_digits_lem (suc k) x = go (ltb x 10) refl (most_digits_lem k (x / 10))
  where
    go : (b : Bool) → ltb x 10 ≡ b → length (printed_in k (x / 10)) ≤ k → length (printed_in (suc k) x) ≤ suc k
    go true e ih = omega (arith, ap length (printed_digit k x (ltb-true x 10 e)))
    go false e ih = omega (arith, ap length (printed_digits k x (ltb-false x 10 e)), length-append (printed_in k (x / 10)) (digit (x % 10) ∷ []))

pub printed_ten : (x : ℕ) → length (printed_number x) ≤ 10
unfolding printed_number
printed_ten x = most_digits_lem 10 x

pub printed_five : (x : ℕ) → x ≤ 65535 → length (printed_number x) ≤ 5
printed_five x h = printed_within 4 x (omega arith) (omega arith)

-- ---- where it ends

-- a text whose first byte is no digit
pub data Stop : Text → Type 0 where
  stop : (b : ℕ) (bs : Text) → is_digit b ≡ false → Stop (b ∷ bs)

digit_or_not : (b : ℕ) (t : Bool) → is_digit b ≡ false → (is_digit b && t) ≡ true → ⊥
digit_or_not b t e h = true≢false (sym h ∙ ap (λ (x : Bool). x && t) e)

-- digits up to a byte that is none are told apart from what is behind them
digits_split : (ds es xs ys : Text) → all_digits ds ≡ true → all_digits es ≡ true → Stop xs → Stop ys → ds ++ xs ≡ es ++ ys → (ds ≡ es) × (xs ≡ ys)
unfolding all_digits
digits_split [] [] xs ys h k s t e = (refl, e)
digits_split [] (c ∷ es) _ ys h k (stop b xs n) t e = absurd (digit_or_not b (all_digits es) n (subst (λ (x : ℕ). (is_digit x && all_digits es) ≡ true) (ap (λ (l : Text). get_or l 0 0) (sym e)) k))
digits_split (c ∷ ds) [] xs _ h k s (stop b ys n) e = absurd (digit_or_not b (all_digits ds) n (subst (λ (x : ℕ). (is_digit x && all_digits ds) ≡ true) (ap (λ (l : Text). get_or l 0 0) e) h))
digits_split (c ∷ ds) (d ∷ es) xs ys h k s t e =
    go (digits_split ds es xs ys (rest c ds h) (rest d es k) s t (ap (drop 1) e))
  where
    rest : (b : ℕ) (bs : Text) → (is_digit b && all_digits bs) ≡ true → all_digits bs ≡ true
    rest b bs = go' (is_digit b)
      where
        go' : (x : Bool) → (x && all_digits bs) ≡ true → all_digits bs ≡ true
        go' true f = f
        go' false f = absurd (true≢false (sym f))

    go : (ds ≡ es) × (xs ≡ ys) → (c ∷ ds ≡ d ∷ es) × (xs ≡ ys)
    go p = (ap (λ (x : ℕ). x ∷ ds) (ap (λ (l : Text). get_or l 0 0) e) ∙ ap (λ (l : Text). d ∷ l) p.0, p.1)

-- a printed number is told apart from what is behind it
pub printed_split : (x y : ℕ) (xs ys : Text) → x ≤ 4294967295 → y ≤ 4294967295 → Stop xs → Stop ys → printed_number x ++ xs ≡ printed_number y ++ ys → (x ≡ y) × (xs ≡ ys)
printed_split x y xs ys h k s t e = go (digits_split (printed_number x) (printed_number y) xs ys (digits_printed x h) (digits_printed y k) s t e)
  where
    go : (printed_number x ≡ printed_number y) × (xs ≡ ys) → (x ≡ y) × (xs ≡ ys)
    go p = (printed_apart x y h k p.0, p.1)
