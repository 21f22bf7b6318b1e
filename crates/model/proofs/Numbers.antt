-- Laws of tests over the numbers 1 to k (specs/Numbers.antt).
use mathlib.Core.Bool.{Bool, true, false}
use mathlib.Core.Path.{◌≡◌, refl, ap, ◌∙◌}
use Prim.Native.Nat.{ℕ, zero, suc, ◌≤◌}
use native.Mathlib.Omega.{arith}
use lib.Dec.{eqb}
use borrow.Author.Tests.{eqb-true, eqb-false}
use Rattle.model.specs.Numbers.{every_up_to}
use Rattle.model.proofs.Bools.{and_left, and_right, and_both}

pub every_up_to_lem : (p : ℕ → Bool) (C : ℕ) → every_up_to p C ≡ true → (i : ℕ) → 1 ≤ i → i ≤ C → p i ≡ true
unfolding every_up_to
every_up_to_lem p zero e i h k = absurd (omega arith)
every_up_to_lem p (suc C) e i h k = go (eqb i (suc C)) refl (every_up_to_lem p C (and_right (p (suc C)) (every_up_to p C) e) i h)
  where
    go : (b : Bool) → eqb i (suc C) ≡ b → (i ≤ C → p i ≡ true) → p i ≡ true
    go true f rest = ap p (eqb-true i (suc C) f) ∙ and_left (p (suc C)) (every_up_to p C) e
    go false f rest = let d : i ≡ suc C → ⊥ = eqb-false i (suc C) f in rest (omega arith)

pub up_to_every : (p : ℕ → Bool) (C : ℕ) → ((i : ℕ) → 1 ≤ i → i ≤ C → p i ≡ true) → every_up_to p C ≡ true
unfolding every_up_to
up_to_every p zero h = refl
up_to_every p (suc C) h =
    and_both (p (suc C)) (every_up_to p C) (h (suc C) (omega arith) (omega arith)) (up_to_every p C (λ i a b. h i a (omega arith)))
