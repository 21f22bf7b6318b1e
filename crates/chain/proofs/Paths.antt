-- Parts of chains, over a link function: cut, joined, and kept where the links that they follow are kept.
use mathlib.Core.Bool.{Bool, true, false}
use mathlib.Core.List.{List, [], ◌∷◌, ◌++◌, map}
use mathlib.Core.Logic.{◌≢◌}
use mathlib.Core.Path.{◌≡◌, refl, sym, ap₂, subst}
use Prim.Native.Nat.{ℕ, ◌≤◌}
use native.Mathlib.Omega.{arith}
use lib.Dec.{eqb}
use borrow.Author.Tests.{eqb-true, eqb-false}
use Rattle.layouts.specs.Buffer.{count}
use Rattle.layouts.specs.Chains.{Chain, Within}
use Rattle.layouts.proofs.Chains.{hit, miss}

-- from record i through the records of a list to record j
abbrev pub Path : (ℕ → ℕ) → ℕ → List ℕ → ℕ → Type 0
Path link i [] j = i ≡ j
Path link i (x ∷ xs) j = (i ≢ 0) × (x ≡ i) × Path link (link i) xs j

pub chain_split : (link : ℕ → ℕ) (i : ℕ) (xs ys : List ℕ) → Chain link i (xs ++ ys) → (j : ℕ) × Path link i xs j × Chain link j ys
chain_split link i [] ys c = (i, refl, c)
chain_split link i (x ∷ xs) ys c = let r = chain_split link (link i) xs ys c.2 in (r.0, (c.0, c.1, r.1), r.2)

pub path_chain : (link : ℕ → ℕ) (i j : ℕ) (xs ys : List ℕ) → Path link i xs j → Chain link j ys → Chain link i (xs ++ ys)
path_chain link i j [] ys p c = subst (λ (k : ℕ). Chain link k ys) (sym p) c
path_chain link i j (x ∷ xs) ys p c = (p.0, p.1, path_chain link (link i) j xs ys p.2 c)

-- the first of a list stands in it, and so does what stands in the rest
pub here : (i : ℕ) (is : List ℕ) → 1 ≤ count i (i ∷ is)
unfolding count
here i is = omega (arith, hit i i refl)

pub later : (i j : ℕ) (is : List ℕ) → 1 ≤ count i is → 1 ≤ count i (j ∷ is)
unfolding count
later i j is h = omega arith

-- links that agree on the records met
pub path_agree : (link link' : ℕ → ℕ) (i j : ℕ) (is : List ℕ) → ((k : ℕ) → 1 ≤ count k is → link k ≡ link' k) → Path link i is j → Path link' i is j
path_agree link link' i j [] same p = p
path_agree link link' i j (x ∷ xs) same p =
    let at : link i ≡ link' i = same i (subst (λ (y : ℕ). 1 ≤ count y (x ∷ xs)) p.1 (here x xs)) in
    (p.0, p.1, subst (λ (y : ℕ). Path link' y xs j) at (path_agree link link' (link i) j xs (λ k h. same k (later k x xs h)) p.2))

-- a function that agrees on the records of a list
pub map_agree {ℓ} : {A : Type ℓ} (f g : ℕ → A) (is : List ℕ) → ((k : ℕ) → 1 ≤ count k is → f k ≡ g k) → map f is ≡ map g is
map_agree f g [] same = refl
map_agree f g (x ∷ xs) same = ap₂ ◌∷◌ (same x (here x xs)) (map_agree f g xs (λ k h. same k (later k x xs h)))

-- what stands in a list of records 1 to C is one of them
pub counted_within : (C : ℕ) (is : List ℕ) → Within C is → (k : ℕ) → 1 ≤ count k is → (1 ≤ k) × (k ≤ C)
unfolding count
counted_within C [] w k h = absurd (omega arith)
counted_within C (i ∷ is) w k h = go (eqb k i) refl (counted_within C is w.2 k)
  where
    go : (b : Bool) → eqb k i ≡ b → (1 ≤ count k is → (1 ≤ k) × (k ≤ C)) → (1 ≤ k) × (k ≤ C)
    go true e rest = let same : k ≡ i = eqb-true k i e in (omega (arith, w.0), omega (arith, w.1))
    go false e rest = let d : k ≡ i → ⊥ = eqb-false k i e in rest (omega (arith, miss k i d))

-- a list cut in two
pub within_left : (C : ℕ) (xs ys : List ℕ) → Within C (xs ++ ys) → Within C xs
within_left C [] ys w = tt
within_left C (x ∷ xs) ys w = (w.0, w.1, within_left C xs ys w.2)

pub within_right : (C : ℕ) (xs ys : List ℕ) → Within C (xs ++ ys) → Within C ys
within_right C [] ys w = w
within_right C (x ∷ xs) ys w = within_right C xs ys w.2
