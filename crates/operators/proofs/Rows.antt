-- The rows of the table of operators.
use mathlib.Core.Path.{◌≡◌, refl, sym, ap, ◌∙◌}
use Prim.Native.Nat.{ℕ, ◌-◌, ◌≤◌, ◌<◌}
use native.Mathlib.Omega.{arith}
use lib.ListN.{get_or-eq_default}
use Rattle.model.specs.declared.Direction.{Direction}
use Rattle.model.specs.declared.Listing.{Listing}
use Rattle.model.specs.declared.Object.{Object}
use Rattle.model.specs.declared.Operator.TheVariants.{Create, Bind, Value as Values, Exists, Destroy, List as Lists}
use Rattle.model.specs.declared.Removal.{Removal}
use Rattle.model.specs.Operators.{table, operator_of}
use Rattle.operators.specs.Directions.{turn}
use Rattle.operators.proofs.Ranges.{every}

-- each row, by its directions
pub row_1 : (o : ℕ) (d : Direction) → 1 ≤ o → o < 4 → d ≡ turn (o - 1) → Create (Object.P d) ≡ operator_of o
unfolding operator_of table turn
row_1 o d h l e =
    ap (λ (d : Direction). Create (Object.P d)) e ∙ sym (every operator_of (λ (o : ℕ). Create (Object.P (turn (o - 1)))) 1 3 (refl, (refl, (refl, tt))) o h l)

pub row_4 : (o : ℕ) (d : Direction) → 4 ≤ o → o < 7 → d ≡ turn (o - 4) → Bind (Object.P d) ≡ operator_of o
unfolding operator_of table turn
row_4 o d h l e =
    ap (λ (d : Direction). Bind (Object.P d)) e ∙ sym (every operator_of (λ (o : ℕ). Bind (Object.P (turn (o - 4)))) 4 3 (refl, (refl, (refl, tt))) o h l)

pub row_7 : (o : ℕ) (d : Direction) → 7 ≤ o → o < 9 → d ≡ turn (o - 7) → Values (Object.P d) ≡ operator_of o
unfolding operator_of table turn
row_7 o d h l e =
    ap (λ (d : Direction). Values (Object.P d)) e ∙ sym (every operator_of (λ (o : ℕ). Values (Object.P (turn (o - 7)))) 7 2 (refl, (refl, tt)) o h l)

pub row_9 : (o : ℕ) (d : Direction) → 9 ≤ o → o < 12 → d ≡ turn (o - 9) → Exists (Object.P d) ≡ operator_of o
unfolding operator_of table turn
row_9 o d h l e =
    ap (λ (d : Direction). Exists (Object.P d)) e ∙ sym (every operator_of (λ (o : ℕ). Exists (Object.P (turn (o - 9)))) 9 3 (refl, (refl, (refl, tt))) o h l)

pub row_12 : (o : ℕ) (d : Direction) → 12 ≤ o → o < 15 → d ≡ turn (o - 12) → Destroy (Removal.P d) ≡ operator_of o
unfolding operator_of table turn
row_12 o d h l e =
    ap (λ (d : Direction). Destroy (Removal.P d)) e ∙ sym (every operator_of (λ (o : ℕ). Destroy (Removal.P (turn (o - 12)))) 12 3 (refl, (refl, (refl, tt))) o h l)

pub row_15 : (o : ℕ) (d : Direction) → 15 ≤ o → o < 18 → d ≡ turn (o - 15) → Destroy (Removal.G d) ≡ operator_of o
unfolding operator_of table turn
row_15 o d h l e =
    ap (λ (d : Direction). Destroy (Removal.G d)) e ∙ sym (every operator_of (λ (o : ℕ). Destroy (Removal.G (turn (o - 15)))) 15 3 (refl, (refl, (refl, tt))) o h l)

pub row_18 : (o : ℕ) (d : Direction) → 18 ≤ o → o < 21 → d ≡ turn (o - 18) → Destroy (Removal.GG d) ≡ operator_of o
unfolding operator_of table turn
row_18 o d h l e =
    ap (λ (d : Direction). Destroy (Removal.GG d)) e ∙ sym (every operator_of (λ (o : ℕ). Destroy (Removal.GG (turn (o - 18)))) 18 3 (refl, (refl, (refl, tt))) o h l)

pub row_21 : (o : ℕ) (d : Direction) → 21 ≤ o → o < 24 → d ≡ turn (o - 21) → Destroy (Removal.GN d) ≡ operator_of o
unfolding operator_of table turn
row_21 o d h l e =
    ap (λ (d : Direction). Destroy (Removal.GN d)) e ∙ sym (every operator_of (λ (o : ℕ). Destroy (Removal.GN (turn (o - 21)))) 21 3 (refl, (refl, (refl, tt))) o h l)

pub row_24 : (o : ℕ) (d : Direction) → 24 ≤ o → o < 27 → d ≡ turn (o - 24) → Destroy (Removal.N d) ≡ operator_of o
unfolding operator_of table turn
row_24 o d h l e =
    ap (λ (d : Direction). Destroy (Removal.N d)) e ∙ sym (every operator_of (λ (o : ℕ). Destroy (Removal.N (turn (o - 24)))) 24 3 (refl, (refl, (refl, tt))) o h l)

pub row_27 : (o : ℕ) (d : Direction) → 27 ≤ o → o < 30 → d ≡ turn (o - 27) → Destroy (Removal.NG d) ≡ operator_of o
unfolding operator_of table turn
row_27 o d h l e =
    ap (λ (d : Direction). Destroy (Removal.NG d)) e ∙ sym (every operator_of (λ (o : ℕ). Destroy (Removal.NG (turn (o - 27)))) 27 3 (refl, (refl, (refl, tt))) o h l)

pub row_30 : (o : ℕ) (d : Direction) → 30 ≤ o → o < 33 → d ≡ turn (o - 30) → Lists (Listing.P d) ≡ operator_of o
unfolding operator_of table turn
row_30 o d h l e =
    ap (λ (d : Direction). Lists (Listing.P d)) e ∙ sym (every operator_of (λ (o : ℕ). Lists (Listing.P (turn (o - 30)))) 30 3 (refl, (refl, (refl, tt))) o h l)

pub row_33 : (o : ℕ) (d : Direction) → 33 ≤ o → o < 36 → d ≡ turn (o - 33) → Lists (Listing.G d) ≡ operator_of o
unfolding operator_of table turn
row_33 o d h l e =
    ap (λ (d : Direction). Lists (Listing.G d)) e ∙ sym (every operator_of (λ (o : ℕ). Lists (Listing.G (turn (o - 33)))) 33 3 (refl, (refl, (refl, tt))) o h l)

pub row_36 : (o : ℕ) (d : Direction) → 36 ≤ o → o < 39 → d ≡ turn (o - 36) → Lists (Listing.GN d) ≡ operator_of o
unfolding operator_of table turn
row_36 o d h l e =
    ap (λ (d : Direction). Lists (Listing.GN d)) e ∙ sym (every operator_of (λ (o : ℕ). Lists (Listing.GN (turn (o - 36)))) 36 3 (refl, (refl, (refl, tt))) o h l)

pub row_39 : (o : ℕ) (d : Direction) → 39 ≤ o → o < 42 → d ≡ turn (o - 39) → Lists (Listing.N d) ≡ operator_of o
unfolding operator_of table turn
row_39 o d h l e =
    ap (λ (d : Direction). Lists (Listing.N d)) e ∙ sym (every operator_of (λ (o : ℕ). Lists (Listing.N (turn (o - 39)))) 39 3 (refl, (refl, (refl, tt))) o h l)

pub row_42 : (o : ℕ) (d : Direction) → 42 ≤ o → o < 45 → d ≡ turn (o - 42) → Lists (Listing.NG d) ≡ operator_of o
unfolding operator_of table turn
row_42 o d h l e =
    ap (λ (d : Direction). Lists (Listing.NG d)) e ∙ sym (every operator_of (λ (o : ℕ). Lists (Listing.NG (turn (o - 42)))) 42 3 (refl, (refl, (refl, tt))) o h l)

-- and what stands for a number above the last
pub above_rows : (o : ℕ) → 58 ≤ o → Lists Listing.US ≡ operator_of o
unfolding operator_of table
above_rows o h = sym (get_or-eq_default table (Lists Listing.US) {n = o - 1} (omega (arith, h)))
