-- The test says yes exactly when the rules of a store hold (specs/Buffer.antt, specs/Chains.antt).
use mathlib.Core.Bool.{true, false≢true}
use mathlib.Core.List.{List, ◌++◌, map}
use mathlib.Core.Logic.{◌↔◌}
use mathlib.Core.Option.{Option, none, some}
use mathlib.Core.Path.{◌≡◌, refl, sym, ap, ap₂, ◌∙◌, subst}
use Prim.Native.Nat.{ℕ, ◌+◌, ◌≤◌}
use native.Mathlib.Omega.{arith}
use lib.Dec.{eqb, leb}
use lib.ListN.{length-map, length}
use borrow.Author.Tests.{eqb-true, eq-eqb, leb-true, le-leb}
use Rattle.layouts.specs.Buffer.{word, fits_length, capacity_of, next, tuple_at, ends, or_nothing, used_chain, free_chain, used_of, free_of, tuples_of, count, is_store}
use Rattle.model.specs.Numbers.{every_up_to}
use Rattle.model.specs.Rules.{TupleRules}
use Rattle.layouts.specs.Chains.{ChainRules, StoreRules, IsStore}
use Rattle.model.proofs.Bools.{and_left, and_right, and_both}
use Rattle.model.proofs.Sound.{sound_exactly}
use Rattle.model.proofs.Numbers.{every_up_to_lem, up_to_every}
use Rattle.layouts.proofs.Sizes.{fits_least, fits_most, fits_length_lem}
use Rattle.layouts.proofs.Chains.{walk_chain, chain_walk, chain_within, once_length}

-- ---- a store

pub ends_some : (r : Option (List ℕ)) → ends r ≡ true → r ≡ some (or_nothing r)
unfolding ends or_nothing
ends_some none e = absurd (false≢true e)
ends_some (some is) e = refl

-- what the test says yes to meets the rules, with the chains that a walk meets
pub store_rules : (b : List ℕ) → is_store b ≡ true → StoreRules b (used_of b) (free_of b)
unfolding is_store used_of free_of used_chain free_chain tuples_of
store_rules b e =
    let C : ℕ = capacity_of b in
    let fits = and_left (fits_length b) _ e in
    let e₂ = and_right (fits_length b) _ e in
    let e₃ = and_right (eqb (word b 0) C) _ e₂ in
    let e₄ = and_right (leb (word b 1) C) _ e₃ in
    let e₅ = and_right (leb (word b 2) C) _ e₄ in
    let e₆ = and_right (every_up_to (λ (i : ℕ). leb (next b i) C) C) _ e₅ in
    let e₇ = and_right (ends (used_chain b)) _ e₆ in
    let e₈ = and_right (ends (free_chain b)) _ e₇ in
    let e₉ = and_right (every_up_to (λ (i : ℕ). eqb (count i (used_of b ++ free_of b)) 1) C) _ e₈ in
    record {
      chains =
          record {
            least = fits_least b fits;
            most = fits_most b fits;
            capacity = eqb-true (word b 0) C (and_left (eqb (word b 0) C) _ e₂);
            used_head = leb-true (word b 1) C (and_left (leb (word b 1) C) _ e₃);
            free_head = leb-true (word b 2) C (and_left (leb (word b 2) C) _ e₄);
            nexts = λ i h k. leb-true (next b i) C (every_up_to_lem (λ (i : ℕ). leb (next b i) C) C (and_left (every_up_to (λ (i : ℕ). leb (next b i) C) C) _ e₅) i h k);
            used_chain = walk_chain (next b) C (word b 1) (used_of b) (ends_some (used_chain b) (and_left (ends (used_chain b)) _ e₆));
            free_chain = walk_chain (next b) C (word b 2) (free_of b) (ends_some (free_chain b) (and_left (ends (free_chain b)) _ e₇));
            once =
                λ i h k.
                eqb-true (count i (used_of b ++ free_of b)) 1
                (every_up_to_lem (λ (i : ℕ). eqb (count i (used_of b ++ free_of b)) 1) C
                (and_left (every_up_to (λ (i : ℕ). eqb (count i (used_of b ++ free_of b)) 1) C) _ e₈) i h k);
            counted = eqb-true (word b 3) (length (used_of b)) (and_left (eqb (word b 3) (length (used_of b))) _ e₉);
          };
      tuples = (sound_exactly (tuples_of b)).0 (and_right (eqb (word b 3) (length (used_of b))) _ e₉);
    }

-- ---- from the rules to the test

-- used + free = C
pub chains_count : (b used free : List ℕ) → ChainRules b used free → length used + length free ≡ capacity_of b
chains_count b used free R =
    once_length (capacity_of b) used free (chain_within (next b) (capacity_of b) (word b 1) used R.used_chain R.used_head R.nexts)
    (chain_within (next b) (capacity_of b) (word b 2) free R.free_chain R.free_head R.nexts) R.once

-- so there are at most C tuples
pub tuples_fit : (b : List ℕ) → ChainRules b (used_of b) (free_of b) → length (tuples_of b) ≤ capacity_of b
unfolding tuples_of
tuples_fit b R = omega (arith, length-map (used_of b) (tuple_at b), chains_count b (used_of b) (free_of b) R)

-- a buffer of at most 12,297 words has at most 2,048 records
pub capacity_most : (b used free : List ℕ) → ChainRules b used free → capacity_of b ≤ 2048
unfolding capacity_of
capacity_most b used free R = omega (arith, R.most)

pub used_chain_lem : (b used free : List ℕ) → ChainRules b used free → used_chain b ≡ some used
unfolding used_chain
used_chain_lem b used free R = chain_walk (next b) (capacity_of b) (word b 1) used R.used_chain (omega (arith, chains_count b used free R))

pub free_chain_lem : (b used free : List ℕ) → ChainRules b used free → free_chain b ≡ some free
unfolding free_chain
free_chain_lem b used free R = chain_walk (next b) (capacity_of b) (word b 2) free R.free_chain (omega (arith, chains_count b used free R))

-- the chains that a walk meets are those of the rules
pub used_of_lem : (b used free : List ℕ) → ChainRules b used free → used_of b ≡ used
unfolding used_of or_nothing
used_of_lem b used free R = ap or_nothing (used_chain_lem b used free R)

pub free_of_lem : (b used free : List ℕ) → ChainRules b used free → free_of b ≡ free
unfolding free_of or_nothing
free_of_lem b used free R = ap or_nothing (free_chain_lem b used free R)

pub tuples_of_lem : (b used free : List ℕ) → ChainRules b used free → tuples_of b ≡ map (tuple_at b) used
unfolding tuples_of
tuples_of_lem b used free R = ap (map (tuple_at b)) (used_of_lem b used free R)

pub rules_store : (b used free : List ℕ) → StoreRules b used free → is_store b ≡ true
unfolding is_store ends
rules_store b used free S =
    let C : ℕ = capacity_of b in
    let R : ChainRules b used free = S.chains in
    and_both (fits_length b) _ (fits_length_lem b R.least R.most)
    (and_both (eqb (word b 0) C) _ (eq-eqb (word b 0) C R.capacity)
    (and_both (leb (word b 1) C) _ (le-leb (word b 1) C R.used_head)
    (and_both (leb (word b 2) C) _ (le-leb (word b 2) C R.free_head)
    (and_both (every_up_to (λ (i : ℕ). leb (next b i) C) C) _ (up_to_every (λ (i : ℕ). leb (next b i) C) C (λ i h k. le-leb (next b i) C (R.nexts i h k)))
    (and_both (ends (used_chain b)) _ (ap ends (used_chain_lem b used free R))
    (and_both (ends (free_chain b)) _ (ap ends (free_chain_lem b used free R))
    (and_both (every_up_to (λ (i : ℕ). eqb (count i (used_of b ++ free_of b)) 1) C) _
    (up_to_every (λ (i : ℕ). eqb (count i (used_of b ++ free_of b)) 1) C
    (λ i h k.
    eq-eqb (count i (used_of b ++ free_of b)) 1
    (ap₂ (λ (x y : List ℕ). count i (x ++ y)) (used_of_lem b used free R) (free_of_lem b used free R) ∙ R.once i h k)))
    (and_both (eqb (word b 3) (length (used_of b))) _
    (eq-eqb (word b 3) (length (used_of b)) (R.counted ∙ ap length (sym (used_of_lem b used free R))))
    ((sound_exactly (tuples_of b)).1 (subst TupleRules (sym (tuples_of_lem b used free R)) S.tuples))))))))))

-- "A buffer is accepted as a store exactly when it meets the rules"
pub store_exactly : (b : List ℕ) → (is_store b ≡ true) ↔ IsStore b
store_exactly b = (λ e. (used_of b, free_of b, store_rules b e), λ s. rules_store b s.0 s.1 s.2)
