-- Laws of the orders of keys and of pairs: each is a comparison of numbers, refined by the next.
use mathlib.Core.Path.{◌≡◌, refl, sym, ap, ap₂, ◌∙◌, subst}
use Prim.Native.Nat.{ℕ, ◌<◌, ◌≤◌, compare, Ordering}
use native.Mathlib.Omega.{arith}
use lib.Dec.{is_le, compare_is_eq}
use borrow.Author.Tests.{leb-true, leb-false, eqb-true, eqb-false}
use Rattle.model.specs.Ordered.{then_by}
use Rattle.model.specs.declared.Key.{Key}
use Rattle.model.specs.Keys.{compare_keys}
use Rattle.model.specs.Pairs.{compare_pairs, edge_of, node_of}

-- ---- orderings

abbrev pub opposite : Ordering → Ordering
opposite Ordering.lt = Ordering.gt
opposite Ordering.eq = Ordering.eq
opposite Ordering.gt = Ordering.lt

abbrev is_lt : Ordering → Type 0
is_lt Ordering.lt = Unit {0}
is_lt Ordering.eq = ⊥
is_lt Ordering.gt = ⊥

abbrev is_gt : Ordering → Type 0
is_gt Ordering.lt = ⊥
is_gt Ordering.eq = ⊥
is_gt Ordering.gt = Unit {0}

pub lt≢eq : Ordering.lt ≡ Ordering.eq → ⊥
lt≢eq e = subst is_lt e tt

pub lt≢gt : Ordering.lt ≡ Ordering.gt → ⊥
lt≢gt e = subst is_lt e tt

pub gt≢eq : Ordering.gt ≡ Ordering.eq → ⊥
gt≢eq e = subst is_gt e tt

then_by_opposite : (x y : Ordering) → then_by (opposite x) (opposite y) ≡ opposite (then_by x y)
then_by_opposite Ordering.lt y = refl
then_by_opposite Ordering.eq y = refl
then_by_opposite Ordering.gt y = refl

then_by_first : (x y : Ordering) → then_by x y ≡ Ordering.eq → x ≡ Ordering.eq
then_by_first Ordering.lt y e = absurd (lt≢eq e)
then_by_first Ordering.eq y e = refl
then_by_first Ordering.gt y e = absurd (gt≢eq e)

then_by_second : (x y : Ordering) → then_by x y ≡ Ordering.eq → y ≡ Ordering.eq
then_by_second Ordering.lt y e = absurd (lt≢eq e)
then_by_second Ordering.eq y e = e
then_by_second Ordering.gt y e = absurd (gt≢eq e)

-- ---- what an order is

-- a comparison whose equal elements compare alike; `same`, below, says when they are the same
pub record Compares {A : Type 0} (order : A → A → Ordering) : Type 0 where
  pub reflexive : (a : A) → order a a ≡ Ordering.eq
  pub flip : (a b : A) → order b a ≡ opposite (order a b)
  pub alike : (a b c : A) → order a b ≡ Ordering.eq → order a c ≡ order b c
  pub transitive : (a b c : A) → order a b ≡ Ordering.lt → order b c ≡ Ordering.lt → order a c ≡ Ordering.lt

pub record IsOrder {A : Type 0} (order : A → A → Ordering) : Type 0 where
  pub compares : Compares order
  pub same : (a b : A) → order a b ≡ Ordering.eq → a ≡ b

-- ---- numbers

pub compare_eq : (a b : ℕ) → compare a b ≡ Ordering.eq → a ≡ b
compare_eq a b e = eqb-true a b (ap compare_is_eq e)

pub compare_lt : (a b : ℕ) → compare a b ≡ Ordering.lt → a < b
compare_lt a b e =
    let h : a ≤ b = leb-true a b (ap is_le e) in
    let k : a ≡ b → ⊥ = eqb-false a b (ap compare_is_eq e) in
    omega arith

pub compare_gt : (a b : ℕ) → compare a b ≡ Ordering.gt → b < a
compare_gt a b e = leb-false a b (ap is_le e)

pub lt_compare : (a b : ℕ) → a < b → compare a b ≡ Ordering.lt
lt_compare a b h = go (compare a b) refl
  where
    go : (o : Ordering) → compare a b ≡ o → o ≡ Ordering.lt
    go Ordering.lt e = refl
    go Ordering.eq e = let k : a ≡ b = compare_eq a b e in absurd (omega arith)
    go Ordering.gt e = let k : b < a = compare_gt a b e in absurd (omega arith)

pub gt_compare : (a b : ℕ) → b < a → compare a b ≡ Ordering.gt
gt_compare a b h = go (compare a b) refl
  where
    go : (o : Ordering) → compare a b ≡ o → o ≡ Ordering.gt
    go Ordering.lt e = let k : a < b = compare_lt a b e in absurd (omega arith)
    go Ordering.eq e = let k : a ≡ b = compare_eq a b e in absurd (omega arith)
    go Ordering.gt e = refl

pub compare_refl : (a : ℕ) → compare a a ≡ Ordering.eq
compare_refl a = go (compare a a) refl
  where
    go : (o : Ordering) → compare a a ≡ o → o ≡ Ordering.eq
    go Ordering.lt e = let k : a < a = compare_lt a a e in absurd (omega arith)
    go Ordering.eq e = refl
    go Ordering.gt e = let k : a < a = compare_gt a a e in absurd (omega arith)

compare_flip : (a b : ℕ) → compare b a ≡ opposite (compare a b)
compare_flip a b = go (compare a b) refl
  where
    go : (o : Ordering) → compare a b ≡ o → compare b a ≡ opposite o
    go Ordering.lt e = gt_compare b a (compare_lt a b e)
    go Ordering.eq e = subst (λ (x : ℕ). compare x a ≡ Ordering.eq) (compare_eq a b e) (compare_refl a)
    go Ordering.gt e = lt_compare b a (compare_gt a b e)

-- elements compared by a number of theirs
by_number : {A : Type 0} (f : A → ℕ) → Compares (λ (a b : A). compare (f a) (f b))
by_number f =
    record {
      reflexive = λ a. compare_refl (f a);
      flip = λ a b. compare_flip (f a) (f b);
      alike = λ a b c e. ap (λ (x : ℕ). compare x (f c)) (compare_eq (f a) (f b) e);
      transitive =
          λ a b c e₁ e₂.
          let h₁ : f a < f b = compare_lt (f a) (f b) e₁ in
          let h₂ : f b < f c = compare_lt (f b) (f c) e₂ in
          lt_compare (f a) (f c) (omega arith);
    }

-- ---- one comparison refined by another

module _ {A : Type 0} {order₁ order₂ : A → A → Ordering} (O₁ : Compares order₁) (O₂ : Compares order₂) where
  abbrev refined : A → A → Ordering
  refined a b = then_by (order₁ a b) (order₂ a b)

  alike_right : {order : A → A → Ordering} → Compares order → (a b c : A) → order b c ≡ Ordering.eq → order a c ≡ order a b
  alike_right O a b c e = O.flip c a ∙ ap opposite (sym (O.alike b c a e)) ∙ sym (O.flip b a)

  refined_transitive : (a b c : A) → refined a b ≡ Ordering.lt → refined b c ≡ Ordering.lt → refined a c ≡ Ordering.lt
  refined_transitive a b c = go (order₁ a b) (order₁ b c) refl refl
    where
      go : (x y : Ordering) → order₁ a b ≡ x → order₁ b c ≡ y → then_by x (order₂ a b) ≡ Ordering.lt → then_by y (order₂ b c) ≡ Ordering.lt
          → refined a c ≡ Ordering.lt
      go Ordering.lt Ordering.lt p q e f = ap (λ (o : Ordering). then_by o (order₂ a c)) (O₁.transitive a b c p q)
      go Ordering.lt Ordering.eq p q e f = ap (λ (o : Ordering). then_by o (order₂ a c)) (alike_right O₁ a b c q ∙ p)
      go Ordering.lt Ordering.gt p q e f = absurd (lt≢gt (sym f))
      go Ordering.eq Ordering.lt p q e f = ap (λ (o : Ordering). then_by o (order₂ a c)) (O₁.alike a b c p ∙ q)
      go Ordering.eq Ordering.eq p q e f =
          ap (λ (o : Ordering). then_by o (order₂ a c)) (O₁.alike a b c p ∙ q) ∙ O₂.transitive a b c e f
      go Ordering.eq Ordering.gt p q e f = absurd (lt≢gt (sym f))
      go Ordering.gt y p q e f = absurd (lt≢gt (sym e))

  refine : Compares refined
  refine =
      record {
        reflexive = λ a. ap₂ then_by (O₁.reflexive a) (O₂.reflexive a);
        flip = λ a b. ap₂ then_by (O₁.flip a b) (O₂.flip a b) ∙ then_by_opposite (order₁ a b) (order₂ a b);
        alike =
            λ a b c e.
            ap₂ then_by
            (O₁.alike a b c (then_by_first (order₁ a b) (order₂ a b) e))
            (O₂.alike a b c (then_by_second (order₁ a b) (order₂ a b) e));
        transitive = refined_transitive;
      }

-- ---- numbers, keys and pairs

pub numbers : IsOrder compare
numbers = record { compares = by_number (λ (n : ℕ). n); same = compare_eq }

-- "used keys strictly ascend, s first": the order of keys is one
pub keys : IsOrder compare_keys
unfolding compare_keys
keys =
    record {
      compares =
          refine (by_number (λ (k : Key). k.s))
          (refine (by_number (λ (k : Key). k.n)) (refine (by_number (λ (k : Key). k.g)) (by_number (λ (k : Key). k.m))));
      same =
          λ a b e.
          let n = then_by_second (compare a.s b.s) _ e in
          let g = then_by_second (compare a.n b.n) _ n in
          let m = then_by_second (compare a.g b.g) _ g in
          λ i.
          record {
            s = compare_eq a.s b.s (then_by_first (compare a.s b.s) _ e) i;
            n = compare_eq a.n b.n (then_by_first (compare a.n b.n) _ n) i;
            g = compare_eq a.g b.g (then_by_first (compare a.g b.g) _ g) i;
            m = compare_eq a.m b.m m i;
          };
    }

-- "ascending by edge, then node": so is that of pairs
pub pairs : IsOrder compare_pairs
unfolding compare_pairs
pairs =
    record {
      compares = refine (by_number edge_of) (by_number node_of);
      same =
          λ p q e i.
          record {
            edge = record { 0 = compare_eq (edge_of p) (edge_of q) (then_by_first (compare (edge_of p) (edge_of q)) _ e) i };
            node = record { 0 = compare_eq (node_of p) (node_of q) (then_by_second (compare (edge_of p) (edge_of q)) _ e) i };
          };
    }
