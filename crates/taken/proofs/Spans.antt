-- The span of a selection: no key below its start and none from a key beyond it on is taken.
use mathlib.Core.Bool.{Bool, true, false, cond, ◌&&◌, ◌||◌, false≢true}
use mathlib.Core.Logic.{◌⊎◌, inl, inr, ⊎_elim}
use mathlib.Core.Path.{◌≡◌, refl, sym, ◌∙◌}
use Prim.Native.Nat.{ℕ, ◌<◌, ◌≤◌, compare, Ordering}
use native.Mathlib.Omega.{arith}
use lib.Dec.{eqb, ltb}
use borrow.Author.Tests.{eq-eqb, eqb-true, eqb-false, ltb-true}
use Rattle.model.specs.declared.Direction.{Direction}
use Rattle.model.specs.declared.Direction.TheVariants.{Outpointing, Inpointing, Adjacent}
use Rattle.model.specs.declared.Key.{Key}
use Rattle.model.specs.declared.Pair.{Pair}
use Rattle.model.specs.Ordered.{then_by}
use Rattle.model.specs.Keys.{is_edge, node_key, compare_keys}
use Rattle.model.specs.Pairs.{pair, out_pair, pairs_at, any_pair}
use Rattle.model.specs.Steps.{reaches, edges_taken, node_taken, space_taken}
use Rattle.model.proofs.Bools.{or_cases, or_right, and_left, and_right, and_both, failed}
use Rattle.model.proofs.Order.{lt≢gt, compare_lt, compare_eq}
use Rattle.taken.specs.declared.Selection.{Selection}
use Rattle.taken.specs.declared.Selection.TheVariants.{Edges, Node, Space}
use Rattle.taken.specs.declared.Span.{Span}
use Rattle.taken.specs.Selections.{passes, taken_by, from_node, span_of, in_span, span_start, beyond}
use Rattle.taken.proofs.Tests.{any_out}

-- ---- the names of keys that ascend

first_or_later : (x y : Ordering) → then_by x y ≡ Ordering.lt → (x ≡ Ordering.lt) ⊎ ((x ≡ Ordering.eq) × (y ≡ Ordering.lt))
first_or_later Ordering.lt y e = inl refl
first_or_later Ordering.eq y e = inr (refl, e)
first_or_later Ordering.gt y e = absurd (lt≢gt (sym e))

rising_names : (j k : Key) → compare_keys j k ≡ Ordering.lt → (j.s < k.s) ⊎ ((j.s ≡ k.s) × (j.n ≤ k.n))
unfolding compare_keys
rising_names j k e =
    ⊎_elim (λ h. inl (compare_lt j.s k.s h)) (λ h. inr (compare_eq j.s k.s h.0, nodes h.1))
    (first_or_later (compare j.s k.s) _ e)
  where
    nodes : then_by (compare j.n k.n) (then_by (compare j.g k.g) (compare j.m k.m)) ≡ Ordering.lt → j.n ≤ k.n
    nodes f =
        ⊎_elim (λ h. omega (arith, compare_lt j.n k.n h)) (λ h. omega (arith, compare_eq j.n k.n h.0))
        (first_or_later (compare j.n k.n) _ f)

-- below (s,n,0,0) the node is below n, or the space below s
below_node : (k : Key) (s n : ℕ) → compare_keys k (node_key s n) ≡ Ordering.lt → (k.s < s) ⊎ ((k.s ≡ s) × (k.n < n))
unfolding compare_keys
below_node k s n e =
    ⊎_elim (λ h. inl (compare_lt k.s s h)) (λ h. inr (compare_eq k.s s h.0, nodes h.1))
    (first_or_later (compare k.s s) _ e)
  where
    last : then_by (compare k.g 0) (compare k.m 0) ≡ Ordering.lt → ⊥
    last f =
        ⊎_elim (λ h. omega (arith, compare_lt k.g 0 h)) (λ h. omega (arith, compare_lt k.m 0 h.1))
        (first_or_later (compare k.g 0) _ f)

    nodes : then_by (compare k.n n) (then_by (compare k.g 0) (compare k.m 0)) ≡ Ordering.lt → k.n < n
    nodes f = ⊎_elim (λ h. compare_lt k.n n h) (λ h. absurd (last h.1)) (first_or_later (compare k.n n) _ f)

-- ---- what lies in a span

module _ (a : Span) where
  in_space : (k : Key) → in_span a k ≡ true → (a.s ≡ 0) ⊎ (k.s ≡ a.s)
  unfolding in_span
  in_space k e =
      ⊎_elim (λ z. inl (eqb-true a.s 0 z)) (λ z. inr (eqb-true k.s a.s z))
      (or_cases (eqb a.s 0) (eqb k.s a.s) (and_left _ (eqb a.n 0 || eqb k.n a.n) e))

  of_node : (k : Key) → in_span a k ≡ true → (a.n ≡ 0) ⊎ (k.n ≡ a.n)
  unfolding in_span
  of_node k e =
      ⊎_elim (λ z. inl (eqb-true a.n 0 z)) (λ z. inr (eqb-true k.n a.n z))
      (or_cases (eqb a.n 0) (eqb k.n a.n) (and_right (eqb a.s 0 || eqb k.s a.s) _ e))

  below_start : (k : Key) → compare_keys k (span_start a) ≡ Ordering.lt → in_span a k ≡ true → ⊥
  below_start k e h =
      ⊎_elim (λ lt. ⊎_elim (λ z. omega (arith, z, lt)) (λ z. omega (arith, z, lt)) (in_space k h))
      (λ w. ⊎_elim (λ z. omega (arith, z, w.1)) (λ z. omega (arith, z, w.1)) (of_node k h))
      (below_node k a.s a.n e)

  -- beyond a span: in a later space, or at a later node
  Later : Key → Type 0
  Later k = (a.s < k.s) ⊎ ((k.s ≡ a.s) × (a.n ≡ 0 → ⊥) × (a.n < k.n))

  beyond_later : (k : Key) → beyond a k ≡ true → (a.s ≡ 0 → ⊥) × Later k
  unfolding beyond Later
  beyond_later k = go (eqb a.s 0) refl
    where
      node : (t : Bool) → eqb a.n 0 ≡ t → k.s ≡ a.s → cond t false (ltb a.n k.n) ≡ true → Later k
      node true z same e = absurd (false≢true e)
      node false z same e = inr (same, eqb-false a.n 0 z, ltb-true a.n k.n e)

      space : (t : Bool) → eqb k.s a.s ≡ t → cond t (cond (eqb a.n 0) false (ltb a.n k.n)) (ltb a.s k.s) ≡ true → Later k
      space true z e = node (eqb a.n 0) refl (eqb-true k.s a.s z) e
      space false z e = inl (ltb-true a.s k.s e)

      go : (t : Bool) → eqb a.s 0 ≡ t
          → cond t false (cond (eqb k.s a.s) (cond (eqb a.n 0) false (ltb a.n k.n)) (ltb a.s k.s)) ≡ true
          → (a.s ≡ 0 → ⊥) × Later k
      go true z e = absurd (false≢true e)
      go false z e = (eqb-false a.s 0 z, space (eqb k.s a.s) refl e)

  later_out : (k : Key) → (a.s ≡ 0 → ⊥) → Later k → in_span a k ≡ true → ⊥
  unfolding Later
  later_out k d l h =
      ⊎_elim (λ lt. ⊎_elim (λ z. d z) (λ z. omega (arith, z, lt)) (in_space k h))
      (λ w. ⊎_elim (λ z. w.1 z) (λ z. omega (arith, z, w.2)) (of_node k h))
      l

  -- later stays later
  later_on : (j k : Key) → compare_keys j k ≡ Ordering.lt → Later j → Later k
  unfolding Later
  later_on j k e l =
      ⊎_elim (λ lt. ⊎_elim (λ r. inl (omega (arith, lt, r))) (λ r. inl (omega (arith, lt, r.0))) (rising_names j k e))
      (λ w.
      ⊎_elim (λ r. inl (omega (arith, w.0, r))) (λ r. inr (sym r.0 ∙ w.0, w.1, omega (arith, w.2, r.1))) (rising_names j k e))
      l

-- ---- what a selection takes lies in its span

out_node : (p : Pair → Bool) (n : ℕ) (k : Key) → any_pair p (out_pair n k) ≡ true → k.n ≡ n
out_node p n k e =
    eqb-true k.n n (and_right (is_edge k) (eqb k.n n) (and_left (is_edge k && eqb k.n n) (p (pair k.g k.m)) (sym (any_out p n k) ∙ e)))

from_node_lem : (p : Pair → Bool) (d : Direction) (n : ℕ) (k : Key) → any_pair p (pairs_at d n k) ≡ true
    → (eqb (from_node d n) 0 || eqb k.n (from_node d n)) ≡ true
unfolding pairs_at from_node
from_node_lem p Outpointing n k e = or_right (eqb n 0) (eqb k.n n) (eq-eqb k.n n (out_node p n k e))
from_node_lem p Inpointing n k e = refl
from_node_lem p Adjacent n k e = refl

taken_inside : (sel : Selection) (k : Key) → taken_by sel k ≡ true → in_span (span_of sel) k ≡ true
unfolding taken_by span_of in_span edges_taken node_taken space_taken reaches
taken_inside (Edges e) k h =
    let reached = eqb e.s 0 || eqb k.s e.s in
    and_both reached _ (and_left reached (any_pair (passes e.g e.m) (pairs_at e.d e.n k)) h)
    (from_node_lem (passes e.g e.m) e.d e.n k (and_right reached (any_pair (passes e.g e.m) (pairs_at e.d e.n k)) h))
taken_inside (Node x) k h =
    let reached = eqb x.s 0 || eqb k.s x.s in
    and_both reached true (and_left reached (eqb k.n x.n || eqb k.m x.n) h) refl
taken_inside (Space s) k h = and_both (eqb s 0 || eqb k.s s) true (or_right (eqb s 0) (eqb k.s s) h) refl

-- ---- so nothing is taken outside

module _ (sel : Selection) where
  pub below_not_taken : (k : Key) → compare_keys k (span_start (span_of sel)) ≡ Ordering.lt → taken_by sel k ≡ false
  below_not_taken k e = failed (taken_by sel k) (λ h. below_start (span_of sel) k e (taken_inside sel k h))

  pub beyond_not_taken : (k : Key) → beyond (span_of sel) k ≡ true → taken_by sel k ≡ false
  beyond_not_taken k e =
      let l = beyond_later (span_of sel) k e in failed (taken_by sel k) (λ h. later_out (span_of sel) k l.0 l.1 (taken_inside sel k h))

  pub after_not_taken : (j k : Key) → beyond (span_of sel) j ≡ true → compare_keys j k ≡ Ordering.lt → taken_by sel k ≡ false
  after_not_taken j k e less =
      let l = beyond_later (span_of sel) j e in
      failed (taken_by sel k)
      (λ h. later_out (span_of sel) k l.0 (later_on (span_of sel) j k less l.1) (taken_inside sel k h))

-- ---- the answers of `span_of` and `is_beyond`
