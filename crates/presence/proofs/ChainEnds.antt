-- The records of a chain that ends.
use mathlib.Core.Bool.{true, false≢true}
use mathlib.Core.List.{List, [], ◌∷◌}
use mathlib.Core.Logic.{◌≢◌}
use mathlib.Core.Option.{Option, none, some, map}
use mathlib.Core.Path.{◌≡◌, refl, ap}
use Prim.Native.Nat.{ℕ, zero, suc, ◌≤◌}
use native.Mathlib.Omega.{arith}
use lib.Dec.{leb}
use lib.ListN.{length}
use borrow.Author.Tests.{leb-true}
use Rattle.layouts.specs.Buffer.{capacity_of, next, walk, or_nothing}
use Rattle.layouts.specs.Chains.{Chain, Within}
use Rattle.model.proofs.Bools.{and_left, and_right}
use Rattle.layouts.proofs.Chains.{some_list, none≢some_list, walk_chain}
use Rattle.presence.specs.Presence.{all_within, ends_within}

walk_short : (link : ℕ → ℕ) (most i : ℕ) (is : List ℕ) → walk link most i ≡ some is → length is ≤ most
unfolding walk
walk_short link zero zero is e = omega (arith, ap length (some_list e))
walk_short link zero (suc i) is e = absurd (none≢some_list e)
walk_short link (suc most) zero is e = omega (arith, ap length (some_list e))
walk_short link (suc most) (suc i) is e = go (walk link most (link (suc i))) refl (walk_short link most (link (suc i))) e
  where
    go : (r : Option (List ℕ)) → walk link most (link (suc i)) ≡ r
        → ((js : List ℕ) → walk link most (link (suc i)) ≡ some js → length js ≤ most)
        → map (λ (is : List ℕ). suc i ∷ is) r ≡ some is → length is ≤ suc most
    go none f ih h = absurd (none≢some_list h)
    go (some js) f ih h = omega (arith, ih js f, ap length (some_list h))

-- the records of a chain that ends
pub record Met (b : List ℕ) (head : ℕ) (is : List ℕ) : Type 0 where
  pub chain : Chain (next b) head is
  pub all : all_within (capacity_of b) is ≡ true
  pub within : Within (capacity_of b) is
  pub short : length is ≤ capacity_of b

-- the records of a chain are not 0
chain_all : (link : ℕ → ℕ) (C i : ℕ) (is : List ℕ) → Chain link i is → all_within C is ≡ true → Within C is
unfolding all_within
chain_all link C i [] c t = tt
chain_all link C i (j ∷ js) c t =
    let named : i ≢ 0 = c.0 in
    let at : j ≡ i = c.1 in
    (omega arith, leb-true j C (and_left (leb j C) _ t), chain_all link C (link i) js c.2 (and_right (leb j C) _ t))

pub met_by_walk : (b : List ℕ) (head : ℕ) → ends_within (capacity_of b) (walk (next b) (capacity_of b) head) ≡ true
    → Met b head (or_nothing (walk (next b) (capacity_of b) head))
unfolding ends_within or_nothing
met_by_walk b head e = go (walk (next b) (capacity_of b) head) refl e
  where
    go : (r : Option (List ℕ)) → walk (next b) (capacity_of b) head ≡ r → ends_within (capacity_of b) r ≡ true → Met b head (or_nothing r)
    go none f t = absurd (false≢true t)
    go (some is) f t =
        let c = walk_chain (next b) (capacity_of b) head is f in
        record {
          chain = c;
          all = t;
          within = chain_all (next b) (capacity_of b) head is c t;
          short = walk_short (next b) (capacity_of b) head is f;
        }
