-- Laws of chains over a link function, and of lists that meet each record exactly once.
use mathlib.Core.Bool.{Bool, true, false}
use mathlib.Core.List.{List, [], ◌∷◌, ◌++◌}
use mathlib.Core.Logic.{◌≢◌}
use mathlib.Core.Option.{Option, none, some, map}
use mathlib.Core.Path.{◌≡◌, refl, sym, ap, ap₂, ◌∙◌, subst}
use Prim.Native.Nat.{ℕ, zero, suc, ◌+◌, ◌≤◌, ◌<◌}
use native.Mathlib.Nat.{add_assoc}
use native.Mathlib.Omega.{arith}
use lib.Dec.{eqb}
use lib.ListN.{length, length-append}
use borrow.Author.Tests.{eqb-true, eqb-false, eq-eqb, ne_eqb}
use Rattle.layouts.specs.Buffer.{walk, one_if, count}
use Rattle.layouts.specs.Chains.{Chain, Within}

-- ---- the walk and the chain

pub some_list : {xs ys : List ℕ} → some xs ≡ some ys → xs ≡ ys
some_list e = cc

pub none≢some_list : {xs : List ℕ} → none ≡ some xs → ⊥
none≢some_list {xs} e = let z : ◌≡◌ {A = ℕ} 0 1 = cc in omega arith

-- a walk that ends has met a chain
pub walk_chain : (link : ℕ → ℕ) (most i : ℕ) (is : List ℕ) → walk link most i ≡ some is → Chain link i is
unfolding walk
walk_chain link zero zero is e = subst (Chain link 0) (some_list e) refl
walk_chain link zero (suc i) is e = absurd (none≢some_list e)
walk_chain link (suc most) zero is e = subst (Chain link 0) (some_list e) refl
walk_chain link (suc most) (suc i) is e = go (walk link most (link (suc i))) refl (walk_chain link most (link (suc i))) e
  where
    go : (r : Option (List ℕ)) → walk link most (link (suc i)) ≡ r
        → ((js : List ℕ) → walk link most (link (suc i)) ≡ some js → Chain link (link (suc i)) js)
        → map (λ (is : List ℕ). suc i ∷ is) r ≡ some is → Chain link (suc i) is
    go none f ih h = absurd (none≢some_list h)
    go (some js) f ih h = subst (Chain link (suc i)) (some_list h) (λ z. omega arith, refl, ih js f)

pub walk_zero : (link : ℕ → ℕ) (most : ℕ) → walk link most 0 ≡ some []
unfolding walk
walk_zero link zero = refl
walk_zero link (suc most) = refl

-- a chain is met by a walk that may be that long
pub chain_walk : (link : ℕ → ℕ) (most i : ℕ) (is : List ℕ) → Chain link i is → length is ≤ most → walk link most i ≡ some is
unfolding walk
chain_walk link most i [] c h = ap (walk link most) c ∙ walk_zero link most
chain_walk link zero i (j ∷ js) c h = absurd (omega arith)
chain_walk link (suc most) zero (j ∷ js) c h = absurd (c.0 refl)
chain_walk link (suc most) (suc i) (j ∷ js) c h =
    ap (map (λ (is : List ℕ). suc i ∷ is)) (chain_walk link most (link (suc i)) js c.2 (omega arith)) ∙ ap (λ (x : ℕ). some (x ∷ js)) (sym c.1)

-- a chain is determined by its start
pub chain_unique : (link : ℕ → ℕ) (i : ℕ) (xs ys : List ℕ) → Chain link i xs → Chain link i ys → xs ≡ ys
chain_unique link i [] [] c d = refl
chain_unique link i [] (y ∷ ys) c d = absurd (d.0 c)
chain_unique link i (x ∷ xs) [] c d = absurd (c.0 d)
chain_unique link i (x ∷ xs) (y ∷ ys) c d = ap₂ ◌∷◌ (c.1 ∙ sym d.1) (chain_unique link (link i) xs ys c.2 d.2)

-- links that agree on the records met give the same chain
pub chain_agree : (link link' : ℕ → ℕ) (i : ℕ) (is : List ℕ) → ((j : ℕ) → 1 ≤ count j is → link j ≡ link' j) → Chain link i is → Chain link' i is
unfolding count
chain_agree link link' i [] same c = c
chain_agree link link' i (j ∷ js) same c =
    let here : 1 ≤ one_if (eqb i j) + count i js
    = subst (λ (b : Bool). 1 ≤ one_if b + count i js) (sym (eq-eqb i j (sym c.1))) (omega arith) in (
      c.0,
      c.1,
      subst (λ (x : ℕ). Chain link' x js) (same i here)
          (chain_agree link link' (link i) js (λ k h. same k (more k h)) c.2),
    )
  where
    more : (k : ℕ) → 1 ≤ count k js → 1 ≤ one_if (eqb k j) + count k js
    more k h = omega arith

-- ---- records within 1 to C

-- a chain starts within them, or is at its end
pub start_within : (link : ℕ → ℕ) (C i : ℕ) (is : List ℕ) → Chain link i is → Within C is → i ≤ C
start_within link C i [] c w = omega (arith, c)
start_within link C i (j ∷ js) c w = omega (arith, c.1, w.1)

pub within_append : (C : ℕ) (xs ys : List ℕ) → Within C xs → Within C ys → Within C (xs ++ ys)
within_append C [] ys h k = k
within_append C (x ∷ xs) ys h k = (h.0, h.1, within_append C xs ys h.2 k)

-- "both heads and every next are at most C": so is every record met
pub chain_within : (link : ℕ → ℕ) (C i : ℕ) (is : List ℕ) → Chain link i is → i ≤ C → ((j : ℕ) → 1 ≤ j → j ≤ C → link j ≤ C) → Within C is
chain_within link C i [] c h nexts = tt
chain_within link C i (j ∷ js) c h nexts =
    let named : i ≢ 0 = c.0 in
    let at : j ≡ i = c.1 in
    let low : 1 ≤ i = omega arith in
    (omega arith, omega arith, chain_within link C (link i) js c.2 (nexts i low h) nexts)

-- ---- each record exactly once

pub count_append : (i : ℕ) (xs ys : List ℕ) → count i (xs ++ ys) ≡ count i xs + count i ys
unfolding count
count_append i [] ys = omega arith
count_append i (x ∷ xs) ys = ap (λ (n : ℕ). one_if (eqb i x) + n) (count_append i xs ys) ∙ sym (add_assoc (one_if (eqb i x)) (count i xs) (count i ys))

-- the counts of the records 1 to C, added up
abbrev pub total : ℕ → List ℕ → ℕ
total zero is = 0
total (suc C) is = count (suc C) is + total C is

abbrev hits : ℕ → ℕ → ℕ
hits zero x = 0
hits (suc C) x = one_if (eqb (suc C) x) + hits C x

pub hit : (a x : ℕ) → a ≡ x → one_if (eqb a x) ≡ 1
hit a x e = ap one_if (eq-eqb a x e)

pub miss : (a x : ℕ) → (a ≡ x → ⊥) → one_if (eqb a x) ≡ 0
miss a x e = ap one_if (ne_eqb a x e)

hits_above : (C x : ℕ) → C < x → hits C x ≡ 0
hits_above zero x h = refl
hits_above (suc C) x h = omega (arith, miss (suc C) x (λ e. omega arith), hits_above C x (omega arith))

hits_within : (C x : ℕ) → 1 ≤ x → x ≤ C → hits C x ≡ 1
hits_within zero x h k = absurd (omega arith)
hits_within (suc C) x h k = go (eqb (suc C) x) refl (hits_within C x h)
  where
    go : (b : Bool) → eqb (suc C) x ≡ b → (x ≤ C → hits C x ≡ 1) → one_if (eqb (suc C) x) + hits C x ≡ 1
    go true e rest =
        let same : suc C ≡ x = eqb-true (suc C) x e in
        omega (arith, hit (suc C) x same, hits_above C x (omega arith))
    go false e rest =
        let other : suc C ≡ x → ⊥ = eqb-false (suc C) x e in
        omega (arith, miss (suc C) x other, rest (omega arith))

total_nil : (C : ℕ) → total C [] ≡ 0
unfolding count
total_nil zero = refl
total_nil (suc C) = omega (arith, total_nil C)

total_cons : (C x : ℕ) (xs : List ℕ) → total C (x ∷ xs) ≡ hits C x + total C xs
unfolding count
total_cons zero x xs = omega arith
total_cons (suc C) x xs = omega (arith, total_cons C x xs)

pub total_length : (C : ℕ) (is : List ℕ) → Within C is → total C is ≡ length is
total_length C [] h = total_nil C
total_length C (i ∷ is) h = omega (arith, total_cons C i is, hits_within C i h.0 h.1, total_length C is h.2)

total_once : (C : ℕ) (is : List ℕ) → ((i : ℕ) → 1 ≤ i → i ≤ C → count i is ≡ 1) → total C is ≡ C
total_once zero is h = refl
total_once (suc C) is h =
    let here : count (suc C) is ≡ 1 = h (suc C) (omega arith) (omega arith) in
    omega (arith, here, total_once C is (λ i a b. h i a (omega arith)))

-- used + free = C
pub once_length : (C : ℕ) (used free : List ℕ) → Within C used → Within C free
    → ((i : ℕ) → 1 ≤ i → i ≤ C → count i (used ++ free) ≡ 1) → length used + length free ≡ C
once_length C used free h k once =
    sym (length-append used free) ∙ sym (total_length C (used ++ free) (within_append C used free h k)) ∙ total_once C (used ++ free) once
