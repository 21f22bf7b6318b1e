-- Tests taken apart and put together.
use mathlib.Core.Bool.{Bool, true, false, cond, not, ◌&&◌, ◌||◌, true≢false, false≢true}
use mathlib.Core.Logic.{◌⊎◌, inl, inr}
use mathlib.Core.Path.{◌≡◌, refl, sym, ap, ◌∙◌}

pub or_cases : (a b : Bool) → (a || b) ≡ true → (a ≡ true) ⊎ (b ≡ true)
or_cases true b e = inl refl
or_cases false b e = inr e

pub or_left : (a b : Bool) → a ≡ true → (a || b) ≡ true
or_left true b e = refl
or_left false b e = absurd (false≢true e)

pub or_right : (a b : Bool) → b ≡ true → (a || b) ≡ true
or_right true b e = refl
or_right false b e = e

pub or_no_left : (a b : Bool) → (a || b) ≡ false → a ≡ false
or_no_left true b e = e
or_no_left false b e = refl

pub or_no_right : (a b : Bool) → (a || b) ≡ false → b ≡ false
or_no_right true b e = absurd (true≢false e)
or_no_right false b e = e

pub neither : (a b : Bool) → a ≡ false → b ≡ false → (a || b) ≡ false
neither true b e f = e
neither false b e f = f

pub and_left : (a b : Bool) → (a && b) ≡ true → a ≡ true
and_left true b e = refl
and_left false b e = e

pub and_right : (a b : Bool) → (a && b) ≡ true → b ≡ true
and_right true b e = e
and_right false b e = absurd (false≢true e)

pub and_both : (a b : Bool) → a ≡ true → b ≡ true → (a && b) ≡ true
and_both true b e f = f
and_both false b e f = e

pub and_never : (a b : Bool) → b ≡ false → (a && b) ≡ false
and_never true b e = e
and_never false b e = refl

pub and_no : (a b : Bool) → (a && b) ≡ false → a ≡ true → b ≡ false
and_no true b e f = e
and_no false b e f = absurd (false≢true f)

pub not_no : (a : Bool) → not a ≡ false → a ≡ true
not_no true e = refl
not_no false e = absurd (true≢false e)

pub not_yes : (a : Bool) → not a ≡ true → a ≡ false
not_yes true e = absurd (false≢true e)
not_yes false e = refl

pub no_not : (a : Bool) → a ≡ false → not a ≡ true
no_not true e = absurd (true≢false e)
no_not false e = refl

-- the first of two tests decides, or leaves it to the second
pub or_first_lem : (a b : Bool) → a ≡ true → true ≡ (a || b)
or_first_lem a b e = ap (λ (x : Bool). x || b) (sym e)

-- what is chosen by a test
pub cond_yes : {A : Type 0} (t : Bool) (x y : A) → t ≡ true → x ≡ cond t x y
cond_yes t x y e = ap (λ (u : Bool). cond u x y) (sym e)

pub cond_no : {A : Type 0} (t : Bool) (x y : A) → t ≡ false → y ≡ cond t x y
cond_no t x y e = ap (λ (u : Bool). cond u x y) (sym e)

-- a test that cannot pass has failed
pub failed : (a : Bool) → (a ≡ true → ⊥) → a ≡ false
failed true h = absurd (h refl)
failed false h = refl

-- yes and no at once
pub clash : {a : Bool} → a ≡ true → a ≡ false → ⊥
clash e f = true≢false (sym e ∙ f)

-- tests that pass together are equal
pub equal : (a b : Bool) → (a ≡ true → b ≡ true) → (b ≡ true → a ≡ true) → a ≡ b
equal true b f g = sym (f refl)
equal false true f g = absurd (false≢true (g refl))
equal false false f g = refl
