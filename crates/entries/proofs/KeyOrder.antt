-- What the order of two keys says of their parts.
use mathlib.Core.Bool.{true, ◌||◌}
use mathlib.Core.Logic.{◌⊎◌, inl, inr, ⊎_elim, ◌≢◌}
use mathlib.Core.Path.{◌≡◌, refl, sym}
use Prim.Native.Nat.{ℕ, ◌≤◌, ◌<◌, compare, Ordering}
use native.Mathlib.Omega.{arith}
use lib.Dec.{eqb}
use borrow.Author.Tests.{eqb-true}
use Rattle.model.specs.declared.Key.{Key}
use Rattle.model.specs.declared.Pair.{Pair}
use Rattle.model.specs.Ordered.{then_by}
use Rattle.model.specs.Keys.{compare_keys}
use Rattle.model.specs.Pairs.{edge_of, node_of}
use Rattle.model.proofs.Bools.{or_cases, and_left, and_right}
use Rattle.model.proofs.Order.{lt≢gt, compare_eq, compare_lt}
use Rattle.taken.specs.Selections.{passes}

-- ---- parts of keys in order

pub then_lt : (x y : ℕ) (o : Ordering) → then_by (compare x y) o ≡ Ordering.lt → (x < y) ⊎ ((x ≡ y) × (o ≡ Ordering.lt))
then_lt x y o e = go (compare x y) refl e
  where
    go : (p : Ordering) → compare x y ≡ p → then_by p o ≡ Ordering.lt → (x < y) ⊎ ((x ≡ y) × (o ≡ Ordering.lt))
    go Ordering.lt f h = inl (compare_lt x y f)
    go Ordering.eq f h = inr (compare_eq x y f, h)
    go Ordering.gt f h = absurd (lt≢gt (sym h))

module _ (k j : Key) (e : compare_keys k j ≡ Ordering.lt) where
  pub spaces_order : k.s ≤ j.s
  unfolding compare_keys
  spaces_order = ⊎_elim (λ l. omega arith) (λ r. omega (arith, r.0)) (then_lt k.s j.s _ e)

  module _ (s : k.s ≡ j.s) where
    after_s : then_by (compare k.n j.n) (then_by (compare k.g j.g) (compare k.m j.m)) ≡ Ordering.lt
    unfolding compare_keys
    after_s = ⊎_elim (λ l. absurd (omega arith)) (λ r. r.1) (then_lt k.s j.s _ e)

    pub nodes_order : k.n ≤ j.n
    nodes_order = ⊎_elim (λ l. omega arith) (λ r. omega (arith, r.0)) (then_lt k.n j.n _ after_s)

    pub edges_order : k.n ≡ j.n → (k.g < j.g) ⊎ ((k.g ≡ j.g) × (k.m < j.m))
    edges_order n =
        ⊎_elim (λ l. absurd (omega arith))
        (λ r. ⊎_elim inl (λ t. inr (t.0, compare_lt k.m j.m t.1)) (then_lt k.g j.g _ r.1))
        (then_lt k.n j.n _ after_s)

-- ---- what a code that is not 0 tells of its key

pub passes_edge : (g m : ℕ) (p : Pair) → passes g m p ≡ true → g ≢ 0 → edge_of p ≡ g
unfolding passes
passes_edge g m p e d =
    ⊎_elim (λ z. absurd (d (eqb-true g 0 z))) (λ f. eqb-true (edge_of p) g f)
    (or_cases (eqb g 0) (eqb (edge_of p) g) (and_left (eqb g 0 || eqb (edge_of p) g) _ e))

pub passes_node : (g m : ℕ) (p : Pair) → passes g m p ≡ true → m ≢ 0 → node_of p ≡ m
unfolding passes
passes_node g m p e d =
    ⊎_elim (λ z. absurd (d (eqb-true m 0 z))) (λ f. eqb-true (node_of p) m f)
    (or_cases (eqb m 0) (eqb (node_of p) m) (and_right (eqb g 0 || eqb (edge_of p) g) _ e))
