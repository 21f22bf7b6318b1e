-- Keys compared part by part.
use mathlib.Core.Bool.{Bool, true, false}
use mathlib.Core.Path.{◌≡◌, refl, sym, ap, ◌∙◌}
use Prim.Native.Nat.{ℕ, compare, Ordering}
use native.Mathlib.Nat.{le_of_lt, le_of_eq}
use lib.Dec.{ltb, eqb, compare_is_eq}
use borrow.Author.Tests.{lt-ltb, le-ltb}
use Rattle.model.specs.declared.Key.{Key}
use Rattle.model.specs.Ordered.{then_by, is_less}
use Rattle.model.specs.Keys.{compare_keys, same_key}
use Rattle.model.proofs.Tuples.{same_key_lem}
use Rattle.model.proofs.Order.{compare_eq, compare_lt, compare_gt, compare_refl}

-- first parts that differ decide
less_differs : (x y : ℕ) (o : Ordering) → (x ≡ y → ⊥) → ltb x y ≡ is_less (then_by (compare x y) o)
less_differs x y o h = go (compare x y) refl
  where
    go : (p : Ordering) → compare x y ≡ p → ltb x y ≡ is_less (then_by p o)
    go Ordering.lt e = lt-ltb x y (compare_lt x y e)
    go Ordering.eq e = absurd (h (compare_eq x y e))
    go Ordering.gt e = le-ltb x y (le_of_lt (compare_gt x y e))

-- equal ones leave it to the rest
then_equal : (x y : ℕ) (o : Ordering) → x ≡ y → then_by (compare x y) o ≡ o
then_equal x y o e = ap (λ (z : ℕ). then_by (compare x z) o) (sym e) ∙ ap (λ (p : Ordering). then_by p o) (compare_refl x)

less_last : (x y : ℕ) → ltb x y ≡ is_less (compare x y)
less_last x y = go (compare x y) refl
  where
    go : (p : Ordering) → compare x y ≡ p → ltb x y ≡ is_less p
    go Ordering.lt e = lt-ltb x y (compare_lt x y e)
    go Ordering.eq e = le-ltb x y (le_of_eq (sym (compare_eq x y e)))
    go Ordering.gt e = le-ltb x y (le_of_lt (compare_gt x y e))

module _ (a b : Key) where
  pub below_s : (a.s ≡ b.s → ⊥) → ltb a.s b.s ≡ is_less (compare_keys a b)
  unfolding compare_keys
  below_s h = less_differs a.s b.s _ h

  pub below_n : a.s ≡ b.s → (a.n ≡ b.n → ⊥) → ltb a.n b.n ≡ is_less (compare_keys a b)
  unfolding compare_keys
  below_n s h = less_differs a.n b.n _ h ∙ ap is_less (sym (then_equal a.s b.s _ s))

  pub below_g : a.s ≡ b.s → a.n ≡ b.n → (a.g ≡ b.g → ⊥) → ltb a.g b.g ≡ is_less (compare_keys a b)
  unfolding compare_keys
  below_g s n h = less_differs a.g b.g _ h ∙ ap is_less (sym (then_equal a.s b.s _ s ∙ then_equal a.n b.n _ n))

  pub below_m : a.s ≡ b.s → a.n ≡ b.n → a.g ≡ b.g → ltb a.m b.m ≡ is_less (compare_keys a b)
  unfolding compare_keys
  below_m s n g =
      less_last a.m b.m
      ∙ ap is_less (sym (then_equal a.s b.s _ s ∙ (then_equal a.n b.n _ n ∙ then_equal a.g b.g _ g)))

  pub same_s : a.n ≡ b.n → a.g ≡ b.g → a.m ≡ b.m → eqb a.s b.s ≡ same_key a b
  unfolding compare_keys
  same_s n g m =
      ap compare_is_eq (sym (then_same (compare a.s b.s)))
      ∙ ap (λ (o : Ordering). compare_is_eq (then_by (compare a.s b.s) o))
      (sym (then_equal a.n b.n _ n ∙ (then_equal a.g b.g _ g ∙ (ap (compare a.m) (sym m) ∙ compare_refl a.m))))
    where
      then_same : (o : Ordering) → then_by o Ordering.eq ≡ o
      then_same Ordering.lt = refl
      then_same Ordering.eq = refl
      then_same Ordering.gt = refl

-- keys that differ in a part are not the same
pub differ : (a b : Key) (part : Key → ℕ) → (part a ≡ part b → ⊥) → false ≡ same_key a b
differ a b part h = go (same_key a b) refl
  where
    go : (t : Bool) → same_key a b ≡ t → false ≡ t
    go true e = absurd (h (ap part (same_key_lem a b e)))
    go false e = refl
