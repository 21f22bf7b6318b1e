-- A function of numbers known at each number of a range.
use mathlib.Core.Bool.{Bool, true, false}
use mathlib.Core.Path.{◌≡◌, refl, subst}
use Prim.Native.Nat.{ℕ, zero, suc, ◌+◌, ◌≤◌, ◌<◌}
use native.Mathlib.Omega.{arith}
use lib.Dec.{eqb}
use borrow.Author.Tests.{eqb-true, eqb-false}

-- f and g are the same at the k numbers from low on
abbrev pub Same : {A : Type 0} → (ℕ → A) → (ℕ → A) → ℕ → ℕ → Type 0
Same f g low zero = Unit {0}
Same f g low (suc k) = (f low ≡ g low) × Same f g (suc low) k

pub every : {A : Type 0} (f g : ℕ → A) (low k : ℕ) → Same f g low k → (o : ℕ) → low ≤ o → o < low + k → f o ≡ g o
every f g low zero s o h l = absurd (omega (arith, h, l))
every {A} f g low (suc k) s o h l = go (eqb low o) refl (λ (m : suc low ≤ o). every f g (suc low) k s.1 o m (omega (arith, l)))
  where
    go : (b : Bool) → eqb low o ≡ b → (suc low ≤ o → f o ≡ g o) → f o ≡ g o
    go true e later = subst (λ (x : ℕ). f x ≡ g x) (eqb-true low o e) s.0
    go false e later =
        let n = eqb-false low o e in
        later (omega (arith, h, n))
