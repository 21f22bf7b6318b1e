-- Two chains that end meet each record of 1 to C exactly once exactly when they meet C records together and do not end at the same one.
-- A chain that ends meets no record twice, since it is determined by where it is; two chains that share a record go on alike and share their last one.
use mathlib.Core.Bool.{Bool, true, false, not, ◌&&◌}
use mathlib.Core.List.{List, [], ◌∷◌, ◌++◌}
use mathlib.Core.Path.{◌≡◌, refl, sym, ap, ◌∙◌, subst}
use Prim.Native.Nat.{ℕ, zero, suc, ◌+◌, ◌≤◌}
use native.Mathlib.Omega.{arith}
use lib.Dec.{eqb}
use lib.ListN.{length, length-append}
use borrow.Author.Tests.{eqb-true, eqb-false, eq-eqb, ne_eqb}
use Rattle.layouts.specs.Buffer.{one_if, count}
use Rattle.model.specs.Numbers.{every_up_to}
use Rattle.layouts.specs.Chains.{Chain, Within}
use Rattle.model.proofs.Bools.{and_left, and_right, and_both, not_yes, no_not, equal}
use Rattle.model.proofs.Numbers.{every_up_to_lem, up_to_every}
use Rattle.layouts.proofs.Chains.{within_append, chain_unique, count_append, hit, miss, total, total_length, once_length}

-- ---- the last record

-- the last of a list; d where it is empty
abbrev pub last_or : ℕ → List ℕ → ℕ
last_or d [] = d
last_or d (i ∷ is) = last_or i is

last_low : (C d : ℕ) (is : List ℕ) → Within C is → 1 ≤ d → 1 ≤ last_or d is
last_low C d [] w h = h
last_low C d (i ∷ is) w h = last_low C i is w.2 w.0

last_high : (C d : ℕ) (is : List ℕ) → Within C is → d ≤ C → last_or d is ≤ C
last_high C d [] w h = h
last_high C d (i ∷ is) w h = last_high C i is w.2 w.1

-- the last record is met
last_met_lem : (i : ℕ) (is : List ℕ) → 1 ≤ count (last_or i is) (i ∷ is)
unfolding count
last_met_lem i [] = omega (arith, hit i i refl)
last_met_lem i (j ∷ js) = omega (arith, last_met_lem j js)

-- ---- a chain from a record that it meets

module _ (link : ℕ → ℕ) where
  -- from there on it is a chain, no longer and with the same last record
  record Onward (j : ℕ) (is : List ℕ) : Type 0 where
    rest : List ℕ
    chain : Chain link j rest
    short : length rest ≤ length is
    same : (d e : ℕ) → last_or d rest ≡ last_or e is

  onward : (i : ℕ) (is : List ℕ) → Chain link i is → (j : ℕ) → 1 ≤ count j is → Onward j is
  unfolding count
  onward i [] c j h = absurd (omega arith)
  onward i (k ∷ ks) c j h = go (eqb j k) refl (onward (link i) ks c.2 j)
    where
      go : (t : Bool) → eqb j k ≡ t → (1 ≤ count j ks → Onward j ks) → Onward j (k ∷ ks)
      go true e later =
          record {
            rest = k ∷ ks;
            chain = subst (λ (x : ℕ). Chain link x (k ∷ ks)) (sym c.1 ∙ sym (eqb-true j k e)) c;
            short = omega arith;
            same = λ d e. refl;
          }
      go false e later =
          let other : j ≡ k → ⊥ = eqb-false j k e in
          let o = later (omega (arith, miss j k other)) in
          record { rest = o.rest; chain = o.chain; short = omega (arith, o.short); same = λ d e. o.same d k }

  -- a chain that ends does not come back to its start
  no_return : (i k : ℕ) (ks : List ℕ) → Chain link i (k ∷ ks) → count i ks ≡ 0
  no_return i k ks c = go (count i ks) refl
    where
      go : (n : ℕ) → count i ks ≡ n → n ≡ 0
      go zero e = refl
      go (suc n) e =
          let o = onward (link i) ks c.2 i (omega arith) in
          absurd (omega (arith, o.short, ap length (chain_unique link i o.rest (k ∷ ks) o.chain c)))

  -- and so meets no record twice
  chain_once : (i : ℕ) (is : List ℕ) → Chain link i is → (j : ℕ) → count j is ≤ 1
  unfolding count
  chain_once i [] c j = omega arith
  chain_once i (k ∷ ks) c j = go (eqb j k) refl (chain_once (link i) ks c.2 j)
    where
      go : (t : Bool) → eqb j k ≡ t → count j ks ≤ 1 → one_if (eqb j k) + count j ks ≤ 1
      go true e rest =
          let same : j ≡ k = eqb-true j k e in
          let none : count j ks ≡ 0 = ap (λ (x : ℕ). count x ks) (same ∙ c.1) ∙ no_return i k ks c in
          omega (arith, hit j k same)
      go false e rest = omega (arith, miss j k (eqb-false j k e))

  -- chains that share a record share their last one
  share_last : (h₁ h₂ : ℕ) (xs ys : List ℕ) → Chain link h₁ xs → Chain link h₂ ys → (j : ℕ) → 1 ≤ count j xs → 1 ≤ count j ys
      → last_or 0 xs ≡ last_or 0 ys
  share_last h₁ h₂ xs ys c d j h k =
      let o = onward h₁ xs c j h in
      let p = onward h₂ ys d j k in
      sym (o.same 0 0) ∙ ap (last_or 0) (chain_unique link j o.rest p.rest o.chain p.chain) ∙ p.same 0 0

-- ---- the counts of the records 1 to C, added up

total_most : (C : ℕ) (is : List ℕ) → ((i : ℕ) → count i is ≤ 1) → total C is ≤ C
total_most zero is h = omega arith
total_most (suc C) is h = omega (arith, h (suc C), total_most C is h)

-- none is met twice and C are met: each is met
total_full : (C : ℕ) (is : List ℕ) → ((i : ℕ) → count i is ≤ 1) → total C is ≡ C → (i : ℕ) → 1 ≤ i → i ≤ C → count i is ≡ 1
total_full zero is h e i low high = absurd (omega arith)
total_full (suc C) is h e i low high =
    let top : count (suc C) is ≤ 1 = h (suc C) in
    let rest : total C is ≤ C = total_most C is h in
    let sum : count (suc C) is + total C is ≡ suc C = e in
    go (eqb i (suc C)) refl (total_full C is h (omega arith) i low)
  where
    go : (t : Bool) → eqb i (suc C) ≡ t → (i ≤ C → count i is ≡ 1) → count i is ≡ 1
    go true f later =
        let top : count (suc C) is ≤ 1 = h (suc C) in
        let rest : total C is ≤ C = total_most C is h in
        let sum : count (suc C) is + total C is ≡ suc C = e in
        let here : count (suc C) is ≡ 1 = omega arith in
        ap (λ (x : ℕ). count x is) (eqb-true i (suc C) f) ∙ here
    go false f later = let other : i ≡ suc C → ⊥ = eqb-false i (suc C) f in later (omega arith)

-- ---- each record exactly once

module _
    (link : ℕ → ℕ) (C h₁ h₂ : ℕ) (used free : List ℕ) (some' : 1 ≤ C) (c₁ : Chain link h₁ used) (c₂ : Chain link h₂ free)
    (w₁ : Within C used) (w₂ : Within C free) where
  apart : (last_or 0 used ≡ last_or 0 free → ⊥) → (i : ℕ) → count i (used ++ free) ≤ 1
  apart differ i = go (count i used) (count i free) refl refl
    where
      go : (m n : ℕ) → count i used ≡ m → count i free ≡ n → count i (used ++ free) ≤ 1
      go zero n e f = omega (arith, count_append i used free, chain_once link h₂ free c₂ i)
      go (suc m) zero e f = omega (arith, count_append i used free, chain_once link h₁ used c₁ i)
      go (suc m) (suc n) e f = absurd (differ (share_last link h₁ h₂ used free c₁ c₂ i (omega arith) (omega arith)))

  met : length used + length free ≡ C → (last_or 0 used ≡ last_or 0 free → ⊥) → (i : ℕ) → 1 ≤ i → i ≤ C → count i (used ++ free) ≡ 1
  met sum differ =
      total_full C (used ++ free) (apart differ)
      (total_length C (used ++ free) (within_append C used free w₁ w₂) ∙ length-append used free ∙ sum)

  differ : ((i : ℕ) → 1 ≤ i → i ≤ C → count i (used ++ free) ≡ 1) → length used + length free ≡ C → last_or 0 used ≡ last_or 0 free → ⊥
  differ once sum = go used free w₁ w₂ once sum
    where
      go : (xs ys : List ℕ) → Within C xs → Within C ys → ((i : ℕ) → 1 ≤ i → i ≤ C → count i (xs ++ ys) ≡ 1) → length xs + length ys ≡ C
          → last_or 0 xs ≡ last_or 0 ys → ⊥
      go [] [] u v o s e = omega arith
      go [] (y ∷ ys) u v o s e = omega (arith, last_low C y ys v.2 v.0)
      go (x ∷ xs) [] u v o s e = omega (arith, last_low C x xs u.2 u.0)
      go (x ∷ xs) (y ∷ ys) u v o s e =
          let l : ℕ = last_or x xs in
          let two : 1 ≤ count l (y ∷ ys) = subst (λ (z : ℕ). 1 ≤ count z (y ∷ ys)) (sym e) (last_met_lem y ys) in
          omega (arith, o l (last_low C x xs u.2 u.0) (last_high C x xs u.2 u.1), count_append l (x ∷ xs) (y ∷ ys), last_met_lem x xs, two)

  -- the test by counts and last records is the test of each record
  pub once_test : every_up_to (λ (i : ℕ). eqb (count i (used ++ free)) 1) C
      ≡ (eqb (length used + length free) C && not (eqb (last_or 0 used) (last_or 0 free)))
  once_test = equal _ _ there back
    where
      there : every_up_to (λ (i : ℕ). eqb (count i (used ++ free)) 1) C ≡ true
          → (eqb (length used + length free) C && not (eqb (last_or 0 used) (last_or 0 free))) ≡ true
      there e =
          let once : (i : ℕ) → 1 ≤ i → i ≤ C → count i (used ++ free) ≡ 1
          = λ i a b. eqb-true _ 1 (every_up_to_lem (λ (i : ℕ). eqb (count i (used ++ free)) 1) C e i a b) in
          let sum : length used + length free ≡ C = once_length C used free w₁ w₂ once in
          and_both (eqb (length used + length free) C) _ (eq-eqb _ C sum) (no_not _ (ne_eqb (last_or 0 used) (last_or 0 free) (differ once sum)))

      back : (eqb (length used + length free) C && not (eqb (last_or 0 used) (last_or 0 free))) ≡ true
          → every_up_to (λ (i : ℕ). eqb (count i (used ++ free)) 1) C ≡ true
      back e =
          up_to_every (λ (i : ℕ). eqb (count i (used ++ free)) 1) C
          (λ i a b.
          eq-eqb (count i (used ++ free)) 1
          (met (eqb-true _ C (and_left (eqb (length used + length free) C) _ e))
          (eqb-false (last_or 0 used) (last_or 0 free) (not_yes _ (and_right (eqb (length used + length free) C) _ e))) i a b))
