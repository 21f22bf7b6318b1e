-- A search that starts behind a used record whose key is below finds the same place as one from the first record.
use mathlib.Core.Bool.{Bool, true, false, cond}
use mathlib.Core.List.{List, [], ◌∷◌, ◌++◌, map, append_assoc}
use mathlib.Core.Logic.{◌≢◌}
use mathlib.Core.Path.{◌≡◌, refl, sym, ap, ◌∙◌, subst}
use Prim.Native.Nat.{ℕ, Ordering}
use native.Mathlib.Omega.{arith}
use lib.Dec.{eqb}
use lib.ListN.{length, length-append}
use borrow.Author.Tests.{eq-eqb, ne_eqb, eqb-false}
use Rattle.model.specs.declared.Key.{Key}
use Rattle.model.specs.Ordered.{is_less, Above, Ascending}
use Rattle.model.specs.Keys.{key_of, compare_keys}
use Rattle.layouts.specs.Buffer.{word, capacity_of, next, key_at, tuple_at, used_of, tuples_of}
use Rattle.layouts.specs.Chains.{Chain, Within, Rest}
use Rattle.model.proofs.Order.{keys}
use Rattle.model.proofs.Ordered.{is_less_true}
use Rattle.layouts.proofs.Chains.{start_within}
use Rattle.words.specs.Words.{Inside}
use Rattle.words.proofs.Words.{inside}
use Rattle.chain.specs.declared.Place.{Place}
use Rattle.chain.specs.Links.{Linked, Reached, Hint, start_of, after_in, place, place_in}
use Rattle.chain.proofs.Walks.{used_rest}
use Rattle.chain.proofs.Paths.{chain_split, within_right}
use Rattle.chain.proofs.Places.{Seeking, seek_start}
use Rattle.chain.proofs.Found.{last_of, snoc, at_place}

pub no_hint : (b : List ℕ) → Hint b 0
no_hint b h = absurd (h refl)

module _ (b : List ℕ) where
  -- records of a chain that is cut at one of them
  pub reached_inside : Linked b → (i : ℕ) → Hint b i → i ≢ 0 → Inside b i
  unfolding used_rest
  reached_inside L i H h =
      let R = H h in
      let w = within_right (capacity_of b) R.before (i ∷ R.after) (subst (Within (capacity_of b)) R.split (used_rest b L.chains).within) in
      inside b i (omega (arith, w.0)) (omega (arith, w.1))

  reached_rest : Linked b → (i : ℕ) → (R : Reached b i) → (S : Rest b (next b i)) × (S.rest ≡ R.after)
  unfolding used_rest
  reached_rest L i R =
      let U = used_rest b L.chains in
      let c = chain_split (next b) (word b 1) R.before (i ∷ R.after) (subst (Chain (next b) (word b 1)) R.split U.chain) in
      let same : i ≡ c.0 = c.2.1 in
      let links : Chain (next b) (next b i) R.after = subst (λ (j : ℕ). Chain (next b) (next b j) R.after) (sym same) c.2.2 in
      let w = within_right (capacity_of b) R.before (i ∷ R.after) (subst (Within (capacity_of b)) R.split U.within) in (
        record {
          high = start_within (next b) (capacity_of b) (next b i) R.after links w.2;
          rest = R.after;
          chain = links;
          within = w.2;
          short = omega (arith, U.short, ap length R.split, length-append R.before (i ∷ R.after));
        },
        refl,
      )

  -- ---- keys before a record are below its key

  above_in : (k : Key) (is js : List ℕ) (i : ℕ) → Above key_of compare_keys k (map (tuple_at b) (is ++ (i ∷ js))) → compare_keys k (key_at b i) ≡ Ordering.lt
  unfolding tuple_at
  above_in k [] js i h = h.0
  above_in k (x ∷ is) js i h = keys.compares.transitive k (key_at b x) (key_at b i) h.0 (above_in (key_at b x) is js i h.1)

  skip : (k : Key) (last i : ℕ) (is js : List ℕ) → Ascending key_of compare_keys (map (tuple_at b) (is ++ (i ∷ js))) → compare_keys (key_at b i) k ≡ Ordering.lt
      → place_in (key_at b) k last (is ++ (i ∷ js)) ≡ place_in (key_at b) k i js
  unfolding place_in tuple_at
  skip k last i [] js h e = ap (λ (o : Ordering). cond (is_less o) (place_in (key_at b) k i js) (place last i)) e
  skip k last i (x ∷ is) js h e =
      let below = keys.compares.transitive (key_at b x) (key_at b i) k (above_in (key_at b x) is js i h) e in
      ap (λ (o : Ordering). cond (is_less o) (place_in (key_at b) k x (is ++ (i ∷ js))) (place last x)) below
      ∙ skip k x i is js (ascending_rest (key_at b x) is js i h) e
    where
      ascending_rest : (j : Key) (is js : List ℕ) (i : ℕ) → Above key_of compare_keys j (map (tuple_at b) (is ++ (i ∷ js))) → Ascending key_of compare_keys (map (tuple_at b) (is ++ (i ∷ js)))
      ascending_rest j [] js i a = a.1
      ascending_rest j (y ∷ is) js i a = a.1

  -- ---- the loop's start

  module _ (k : Key) (L : Linked b) (hint : ℕ) (H : Hint b hint) where
    behind : hint ≢ 0 → is_less (compare_keys (key_at b hint) k) ≡ true → Seeking b k hint (next b hint)
    unfolding tuples_of
    behind h e =
        let R = H h in
        let S = reached_rest L hint R in
        record {
          walked = S.0;
          whole =
              ap (place_in (key_at b) k 0) R.split
              ∙ skip k 0 hint R.before R.after (subst (λ (is : List ℕ). Ascending key_of compare_keys (map (tuple_at b) is)) R.split L.ascends)
              (is_less_true (compare_keys (key_at b hint) k) e)
              ∙ ap (place_in (key_at b) k hint) (sym S.1);
        }

    pub seek_behind : (before at : ℕ) → before ≡ start_of (key_at b) hint k → at ≡ after_in b before → Seeking b k before at
    unfolding start_of after_in
    seek_behind before at B A = go (eqb hint 0) refl
      where
        from_head : before ≡ 0 → Seeking b k before at
        from_head e =
            subst (λ (i : ℕ). Seeking b k i at) (sym e)
            (seek_start b k at L (A ∙ ap (λ (t : Bool). cond t (word b 1) (next b before)) (eq-eqb before 0 e)))

        from_hint : hint ≢ 0 → is_less (compare_keys (key_at b hint) k) ≡ true → before ≡ hint → Seeking b k before at
        from_hint h less e =
            let at_hint : at ≡ next b hint = A ∙ ap (λ (t : Bool). cond t (word b 1) (next b before)) (ne_eqb before 0 (λ z. h (sym e ∙ z))) ∙ ap (next b) e in
            subst (λ (i : ℕ). Seeking b k before i) (sym at_hint) (subst (λ (i : ℕ). Seeking b k i (next b hint)) (sym e) (behind h less))

        go : (z : Bool) → eqb hint 0 ≡ z → Seeking b k before at
        go true z = from_head (B ∙ ap (λ (t : Bool). cond t 0 (cond (is_less (compare_keys (key_at b hint) k)) hint 0)) z)
        go false z = turn (is_less (compare_keys (key_at b hint) k)) refl
          where
            chosen : before ≡ cond (is_less (compare_keys (key_at b hint) k)) hint 0
            chosen = B ∙ ap (λ (t : Bool). cond t 0 (cond (is_less (compare_keys (key_at b hint) k)) hint 0)) z

            turn : (t : Bool) → is_less (compare_keys (key_at b hint) k) ≡ t → Seeking b k before at
            turn true e = from_hint (eqb-false hint 0 z) e (chosen ∙ ap (λ (u : Bool). cond u hint 0) e)
            turn false e = from_head (chosen ∙ ap (λ (u : Bool). cond u hint 0) e)

    -- a hint that is of use is a hint
    pub start_hint : (before : ℕ) → before ≡ start_of (key_at b) hint k → Hint b before
    unfolding start_of
    start_hint before B = subst (Hint b) (sym B) (go (eqb hint 0) (is_less (compare_keys (key_at b hint) k)))
      where
        go : (z t : Bool) → Hint b (cond z 0 (cond t hint 0))
        go true t = no_hint b
        go false true = H
        go false false = no_hint b

    -- ---- the two functions

    pub start_none : hint ≡ 0 → 0 ≡ start_of (key_at b) hint k
    unfolding start_of
    start_none e = sym (ap (λ (t : Bool). cond t 0 (cond (is_less (compare_keys (key_at b hint) k)) hint 0)) (eq-eqb hint 0 e))

    start_turn : hint ≢ 0 → (key : Key) (t : Bool) → key ≡ key_at b hint → t ≡ is_less (compare_keys key k) → cond t hint 0 ≡ start_of (key_at b) hint k
    unfolding start_of
    start_turn h key t K T =
        ap (λ (u : Bool). cond u hint 0) (T ∙ ap (λ (j : Key). is_less (compare_keys j k)) K)
        ∙ sym (ap (λ (z : Bool). cond z 0 (cond (is_less (compare_keys (key_at b hint) k)) hint 0)) (ne_eqb hint 0 h))

    pub start_behind : hint ≢ 0 → (key : Key) (t : Bool) → key ≡ key_at b hint → t ≡ is_less (compare_keys key k) → t ≡ true
        → hint ≡ start_of (key_at b) hint k
    start_behind h key t K T yes' = sym (ap (λ (u : Bool). cond u hint 0) yes') ∙ start_turn h key t K T

    pub start_first : hint ≢ 0 → (key : Key) (t : Bool) → key ≡ key_at b hint → t ≡ is_less (compare_keys key k) → t ≡ false
        → 0 ≡ start_of (key_at b) hint k
    start_first h key t K T no' = sym (ap (λ (u : Bool). cond u hint 0) no') ∙ start_turn h key t K T

  pub after_first : (before at : ℕ) → before ≡ 0 → at ≡ word b 1 → at ≡ after_in b before
  unfolding after_in
  after_first before at e A = A ∙ sym (ap (λ (t : Bool). cond t (word b 1) (next b before)) (eq-eqb before 0 e))

  pub after_used : (before at : ℕ) → before ≢ 0 → at ≡ next b before → at ≡ after_in b before
  unfolding after_in
  after_used before at h A = A ∙ sym (ap (λ (t : Bool). cond t (word b 1) (next b before)) (ne_eqb before 0 h))

  -- ---- the record before a key's place is a hint

  pub place_hint : (k : Key) (p : Place) → Linked b → p ≡ place_in (key_at b) k 0 (used_of b) → Hint b p.before
  place_hint k p L e h =
      let A = at_place b k p L e in
      let s = snoc A.pre (λ z. h (A.last ∙ ap (last_of 0) z)) 0 in
      record {
        before = s.0;
        after = A.post;
        split =
            A.split
            ∙ ap (λ (is : List ℕ). is ++ A.post) s.1
            ∙ append_assoc s.0 (last_of 0 A.pre ∷ []) A.post
            ∙ ap (λ (i : ℕ). s.0 ++ (i ∷ A.post)) (sym A.last);
      }
