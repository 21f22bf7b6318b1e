-- A walk of a chain: what is known of the records from the one that it stands at, and the number that falls with each step.
use mathlib.Core.List.{List, [], ◌∷◌}
use mathlib.Core.Logic.{◌≢◌}
use mathlib.Core.Option.{Option, some}
use mathlib.Core.Path.{◌≡◌, refl, ap}
use Prim.Native.Nat.{ℕ, ◌≤◌, ◌<◌}
use native.Mathlib.Omega.{arith}
use lib.ListN.{length}
use Rattle.layouts.specs.Buffer.{word, capacity_of, next, walk, or_nothing, used_of, free_of}
use Rattle.layouts.specs.Chains.{Chain, Within, Rest, ChainRules}
use Rattle.layouts.proofs.Chains.{start_within, chain_walk, chain_within}
use Rattle.layouts.proofs.Store.{chains_count}
use Rattle.words.specs.Words.{Inside}
use Rattle.words.proofs.Words.{inside}

-- the walk that document 01 defines meets them
pub walk_meets : (b : List ℕ) (at : ℕ) (R : Rest b at) → walk (next b) (capacity_of b) at ≡ some R.rest
walk_meets b at R = chain_walk (next b) (capacity_of b) at R.rest R.chain R.short

-- how many they are
unfoldable pub remaining : List ℕ → ℕ → ℕ
remaining b at = length (or_nothing (walk (next b) (capacity_of b) at))

pub remaining_is : (b : List ℕ) (at : ℕ) (R : Rest b at) → remaining b at ≡ length R.rest
unfolding remaining or_nothing
remaining_is b at R = ap (λ (r : Option (List ℕ)). length (or_nothing r)) (walk_meets b at R)

-- at the end nothing is left
pub at_end : (b : List ℕ) (at : ℕ) (R : Rest b at) → at ≡ 0 → R.rest ≡ []
at_end b at R e = go R.rest R.chain
  where
    go : (is : List ℕ) → Chain (next b) at is → is ≡ []
    go [] c = refl
    go (i ∷ is) c = absurd (c.0 e)

-- before the end the walk stands at the first of the records left; the others are those from its next
pub record Step (b : List ℕ) (at : ℕ) (rest : List ℕ) : Type 0 where
  pub inside : Inside b at
  pub after : Rest b (next b at)
  pub split : rest ≡ at ∷ after.rest

pub step : (b : List ℕ) (at : ℕ) (R : Rest b at) → at ≢ 0 → Step b at R.rest
step b at R h = go R.rest R.chain R.within R.short
  where
    go : (is : List ℕ) → Chain (next b) at is → Within (capacity_of b) is → length is ≤ capacity_of b → Step b at is
    go [] c w s = absurd (h c)
    go (i ∷ is) c w s =
        let same : i ≡ at = c.1 in
        record {
          inside = inside b at (omega (arith, w.0)) (omega (arith, w.1));
          after = record { high = start_within (next b) (capacity_of b) (next b at) is c.2 w.2; rest = is; chain = c.2; within = w.2; short = omega arith };
          split = ap (λ (x : ℕ). x ∷ is) same;
        }

-- each step leaves fewer
pub falls : (b : List ℕ) (at : ℕ) (R : Rest b at) → at ≢ 0 → (after : ℕ) → after ≡ next b at → remaining b after < remaining b at
falls b at R h after e =
    let S = step b at R h in
    omega (arith, remaining_is b at R, remaining_is b (next b at) S.after, ap length S.split, ap (remaining b) e)

-- the used chain from its head
unfoldable pub used_rest : (b : List ℕ) → ChainRules b (used_of b) (free_of b) → Rest b (word b 1)
used_rest b R =
    record {
      high = R.used_head;
      rest = used_of b;
      chain = R.used_chain;
      within = chain_within (next b) (capacity_of b) (word b 1) (used_of b) R.used_chain R.used_head R.nexts;
      short = omega (arith, chains_count b (used_of b) (free_of b) R);
    }
