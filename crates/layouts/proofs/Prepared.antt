-- What preparing leaves is a store whose only tuple is UNIVERSE with NIL.
use mathlib.Core.Bool.{Bool, true, false, cond}
use mathlib.Core.List.{List, [], ◌∷◌, map}
use mathlib.Core.Path.{◌≡◌, refl, sym, ap, ◌∙◌, subst}
use Prim.Native.Nat.{ℕ, zero, suc, ◌+◌, ◌-◌, ◌≤◌, ◌<◌}
use native.Mathlib.Omega.{arith}
use lib.Dec.{eqb, ltb}
use borrow.Author.Tests.{eqb-true, eqb-false, ltb-true, lt-ltb, le-ltb}
use Rattle.model.specs.Ordered.{holds, ascends_from}
use Rattle.model.specs.Keys.{compare_keys}
use Rattle.model.specs.Tuples.{fresh}
use Rattle.layouts.specs.Buffer.{capacity_of, next, tuple_at, one_if, count, tuples_of, is_store, follower, Prepared}
use Rattle.model.specs.Rules.{ascends_from_universe, small_key, no_edge_without_node, edge_has_end, node_supported, edge_supported, every_key, sound, TupleRules}
use Rattle.layouts.specs.Chains.{Chain, StoreRules}
use Rattle.layouts.proofs.Chains.{hit, miss}
use Rattle.layouts.proofs.Store.{rules_store, tuples_of_lem}
use Rattle.layouts.proofs.Sizes.{capacity_length, fits_least, fits_most, some_record}
use Rattle.model.proofs.Sound.{sound_exactly}

-- n records from record i on
abbrev pub up_from : ℕ → ℕ → List ℕ
up_from i zero = []
up_from i (suc n) = i ∷ up_from (suc i) n

count_below : (i j n : ℕ) → i < j → count i (up_from j n) ≡ 0
unfolding count
count_below i j zero h = refl
count_below i j (suc n) h = omega (arith, miss i j (λ e. omega arith), count_below i (suc j) n (omega arith))

-- each record is met once
pub count_up : (i j n : ℕ) → j ≤ i → i < j + n → count i (up_from j n) ≡ 1
unfolding count
count_up i j zero h k = absurd (omega arith)
count_up i j (suc n) h k = go (eqb i j) refl (count_up i (suc j) n)
  where
    go : (b : Bool) → eqb i j ≡ b → (suc j ≤ i → i < suc j + n → count i (up_from (suc j) n) ≡ 1) → one_if (eqb i j) + count i (up_from (suc j) n) ≡ 1
    go true e rest =
        let same : i ≡ j = eqb-true i j e in
        omega (arith, hit i j same, count_below i (suc j) n (omega arith))
    go false e rest =
        let other : i ≡ j → ⊥ = eqb-false i j e in
        omega (arith, miss i j other, rest (omega arith) (omega arith))

pub follower_on : (C i : ℕ) → i < C → follower C i ≡ suc i
unfolding follower
follower_on C i h = ap (λ (b : Bool). cond b (suc i) 0) (lt-ltb i C h)

pub follower_last : (C i : ℕ) → C ≤ i → follower C i ≡ 0
unfolding follower
follower_last C i h = ap (λ (b : Bool). cond b (suc i) 0) (le-ltb i C h)

pub follower_most : (C i : ℕ) → follower C i ≤ C
unfolding follower
follower_most C i = go (ltb i C) refl
  where
    go : (b : Bool) → ltb i C ≡ b → cond b (suc i) 0 ≤ C
    go true e = ltb-true i C e
    go false e = omega arith

-- free records that follow one another up to C are a chain
chain_up : (link : ℕ → ℕ) (C j n : ℕ) → ((i : ℕ) → 2 ≤ i → i ≤ C → link i ≡ follower C i) → 1 ≤ j → j + n ≡ C → Chain link (follower C j) (up_from (suc j) n)
chain_up link C j zero links h e = follower_last C j (omega arith)
chain_up link C j (suc n) links h e =
    subst (λ (i : ℕ). Chain link i (suc j ∷ up_from (suc (suc j)) n)) (sym (follower_on C j (omega arith))) (
      λ z. omega arith,
      refl,
      subst (λ (i : ℕ). Chain link i (up_from (suc (suc j)) n)) (sym (links (suc j) (omega arith) (omega arith)))
          (chain_up link C (suc j) n links (omega arith) (omega arith)),
    )

fresh_rules : TupleRules fresh
fresh_rules = (sound_exactly fresh).0 yes'
  where
    yes' : sound fresh ≡ true
    yes' = unfold sound ascends_from_universe ascends_from every_key small_key no_edge_without_node edge_has_end node_supported edge_supported holds compare_keys in refl

module _ (b₀ b : List ℕ) (P : Prepared b₀ b) where
  pub prepared_capacity : capacity_of b ≡ capacity_of b₀
  prepared_capacity = capacity_length b₀ b P.size

  capacity_least : 1 ≤ capacity_of b₀
  capacity_least = some_record b₀ (fits_least b₀ P.fits) (fits_most b₀ P.fits)

  one_tuple : map (tuple_at b) (1 ∷ []) ≡ fresh
  one_tuple = ap (λ t. t ∷ []) P.universe

  next_most : (i : ℕ) → 1 ≤ i → i ≤ capacity_of b → next b i ≤ capacity_of b
  next_most i h k = go (eqb i 1) refl
    where
      go : (t : Bool) → eqb i 1 ≡ t → next b i ≤ capacity_of b
      go true e =
          let first : i ≡ 1 = eqb-true i 1 e in
          omega (arith, ap (next b) first ∙ P.universe_last)
      go false e =
          let later : i ≡ 1 → ⊥ = eqb-false i 1 e in
          omega (arith, P.free i (omega arith) (omega (arith, prepared_capacity)), follower_most (capacity_of b₀) i, prepared_capacity)

  pub prepared_rules : StoreRules b (1 ∷ []) (up_from 2 (capacity_of b - 1))
  prepared_rules =
      let C : ℕ = capacity_of b in
      record {
        chains =
            record {
              least = omega (arith, fits_least b₀ P.fits, P.size);
              most = omega (arith, fits_most b₀ P.fits, P.size);
              capacity = P.capacity ∙ sym prepared_capacity;
              used_head = omega (arith, P.used_head, prepared_capacity, capacity_least);
              free_head = omega (arith, P.free_head, follower_most (capacity_of b₀) 1, prepared_capacity);
              nexts = next_most;
              used_chain = subst (λ (i : ℕ). Chain (next b) i (1 ∷ [])) (sym P.used_head) (λ z. omega arith, refl, P.universe_last);
              free_chain =
                  subst (λ (i : ℕ). Chain (next b) i (up_from 2 (C - 1))) (ap (λ (D : ℕ). follower D 1) prepared_capacity ∙ sym P.free_head)
                  (chain_up (next b) C 1 (C - 1)
                  (λ i h k. P.free i h (omega (arith, prepared_capacity)) ∙ ap (λ (D : ℕ). follower D i) (sym prepared_capacity))
                  (omega arith) (omega (arith, prepared_capacity, capacity_least)));
              once = λ i h k. count_up i 1 (suc (C - 1)) h (omega arith);
              counted = P.used;
            };
        tuples = subst TupleRules (sym one_tuple) fresh_rules;
      }

  pub prepared_store_lem : is_store b ≡ true
  prepared_store_lem = rules_store b (1 ∷ []) (up_from 2 (capacity_of b - 1)) prepared_rules

  -- "at first only (0,0,0,0) with NIL"
  pub prepared_tuples : tuples_of b ≡ fresh
  prepared_tuples = tuples_of_lem b (1 ∷ []) (up_from 2 (capacity_of b - 1)) prepared_rules.chains ∙ one_tuple
