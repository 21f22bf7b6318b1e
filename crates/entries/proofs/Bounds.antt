-- Which records of the used chain can give entries: a stretch from a query's start to the first key outside.
use mathlib.Core.Bool.{Bool, true, false, not, ◌||◌, false≢true}
use mathlib.Core.List.{List, [], ◌∷◌, ◌++◌, map, map-append}
use mathlib.Core.Logic.{◌⊎◌, inl, inr, ⊎_elim, ◌≢◌}
use mathlib.Core.Path.{◌≡◌, refl, sym, ap, ◌∙◌, subst}
use Prim.Native.Nat.{ℕ, ◌≤◌, ◌<◌, compare, Ordering}
use native.Mathlib.Omega.{arith}
use lib.Dec.{eqb}
use lib.ListN.{length, length-append}
use borrow.Author.Tests.{eqb-true, eqb-false, ne_eqb}
use Rattle.model.specs.declared.Direction.{Direction}
use Rattle.model.specs.declared.Direction.TheVariants.{Outpointing, Inpointing, Adjacent}
use Rattle.model.specs.declared.Key.{Key}
use Rattle.model.specs.Ordered.{is_less, then_by, Ascending}
use Rattle.model.specs.Keys.{key_of, space_key, node_key, compare_keys}
use Rattle.model.specs.Tuples.{Tuples}
use Rattle.layouts.specs.Buffer.{capacity_of, word, next, key_at, tuple_at, used_of, tuples_of}
use Rattle.layouts.specs.Chains.{Chain, Rest}
use Rattle.model.proofs.Bools.{not_yes, or_cases, or_left, or_right}
use Rattle.model.proofs.Order.{keys, compare_eq, compare_lt, compare_gt}
use Rattle.model.proofs.Ordered.{Below}
use Rattle.chain.specs.Links.{Linked, place_in}
use Rattle.layouts.proofs.Chains.{start_within}
use Rattle.chain.proofs.Walks.{used_rest}
use Rattle.chain.proofs.Paths.{chain_split}
use Rattle.chain.proofs.Found.{head_of, NotBelow, at_place}
use Rattle.entries.specs.declared.Query.{Query}
use Rattle.entries.specs.declared.Query.TheVariants.{Pairs, Names}
use Rattle.entries.specs.declared.NamesQuery.{NamesQuery}
use Rattle.entries.specs.declared.NamesQuery.TheVariants.{Nodes, Spaces, SpacesOf}
use Rattle.entries.specs.Queries.{pairs_start, names_start, start_key, start_in, pairs_outside, names_outside, outside}
use Rattle.entries.proofs.KeyOrder.{then_lt, spaces_order, nodes_order}

-- ---- keys below the start are outside

is_no : (a b : ℕ) → a ≢ b → not (eqb a b) ≡ true
is_no a b d = ap not (ne_eqb a b d)

module _ (s n : ℕ) (k : Key) (e : compare_keys k (node_key s n) ≡ Ordering.lt) where
  node_below : (k.s < s) ⊎ ((k.s ≡ s) × (k.n < n))
  unfolding compare_keys
  node_below = ⊎_elim inl (λ r. inr (r.0, later r.1)) (then_lt k.s s _ e)
    where
      nothing : then_by (compare k.g 0) (compare k.m 0) ≡ Ordering.lt → ⊥
      nothing h = ⊎_elim (λ l. omega arith) (λ r. let l : k.m < 0 = compare_lt k.m 0 r.1 in omega arith) (then_lt k.g 0 _ h)

      later : then_by (compare k.n n) (then_by (compare k.g 0) (compare k.m 0)) ≡ Ordering.lt → k.n < n
      later h = ⊎_elim (λ l. l) (λ r. absurd (nothing r.1)) (then_lt k.n n _ h)

space_below : (s : ℕ) (k : Key) → compare_keys k (space_key s) ≡ Ordering.lt → k.s < s
space_below s k e = ⊎_elim (λ l. l) (λ r. absurd (omega (arith, r.1))) (node_below s 0 k e)

below_names : (w : NamesQuery) (k : Key) → compare_keys k (names_start w) ≡ Ordering.lt → names_outside w k ≡ true
unfolding names_start names_outside
below_names (Nodes s) k e = is_no k.s s (λ z. omega (arith, space_below s k e))
below_names Spaces k e = absurd (omega (arith, space_below 0 k e))
below_names (SpacesOf n) k e = absurd (omega (arith, space_below 0 k e))

pub below_outside : (q : Query) (k : Key) → compare_keys k (start_key q) ≡ Ordering.lt → outside q k ≡ true
unfolding start_key outside pairs_start pairs_outside
below_outside (Pairs q) k e = go q.d e
  where
    go : (d : Direction) → compare_keys k (pairs_start d q.s q.n) ≡ Ordering.lt → pairs_outside d q.s q.n k ≡ true
    go Outpointing h =
        ⊎_elim (λ l. or_left (not (eqb k.s q.s)) _ (is_no k.s q.s (λ z. omega arith)))
        (λ r. or_right (not (eqb k.s q.s)) _ (is_no k.n q.n (λ z. omega (arith, r.1))))
        (node_below q.s q.n k h)
    go Inpointing h = is_no k.s q.s (λ z. omega (arith, space_below q.s k h))
    go Adjacent h = is_no k.s q.s (λ z. omega (arith, space_below q.s k h))
below_outside (Names w) k e = below_names w k e

-- ---- behind the start, what comes after a key outside is outside

module _ (s n : ℕ) (k : Key) (e : is_less (compare_keys k (node_key s n)) ≡ false) where
  node_reached : (s ≤ k.s) × (k.s ≡ s → n ≤ k.n)
  unfolding compare_keys
  node_reached = go (compare k.s s) refl e
    where
      nodes : is_less (then_by (compare k.n n) (then_by (compare k.g 0) (compare k.m 0))) ≡ false → n ≤ k.n
      nodes h = pick (compare k.n n) refl h
        where
          pick : (o : Ordering) → compare k.n n ≡ o → is_less (then_by o (then_by (compare k.g 0) (compare k.m 0))) ≡ false → n ≤ k.n
          pick Ordering.lt f h = absurd (false≢true (sym h))
          pick Ordering.eq f h = omega (arith, compare_eq k.n n f)
          pick Ordering.gt f h = omega (arith, compare_gt k.n n f)

      go : (o : Ordering) → compare k.s s ≡ o
          → is_less (then_by o (then_by (compare k.n n) (then_by (compare k.g 0) (compare k.m 0)))) ≡ false → (s ≤ k.s) × (k.s ≡ s → n ≤ k.n)
      go Ordering.lt f h = absurd (false≢true (sym h))
      go Ordering.eq f h = (omega (arith, compare_eq k.s s f), λ z. nodes h)
      go Ordering.gt f h = (omega (arith, compare_gt k.s s f), λ z. absurd (omega (arith, compare_gt k.s s f)))

module _ (k j : Key) (lt : compare_keys k j ≡ Ordering.lt) where
  space_on : (s : ℕ) → is_less (compare_keys k (space_key s)) ≡ false → not (eqb k.s s) ≡ true → not (eqb j.s s) ≡ true
  space_on s e o =
      let d : k.s ≢ s = eqb-false k.s s (not_yes (eqb k.s s) o) in
      is_no j.s s (λ z. d (omega (arith, (node_reached s 0 k e).0, spaces_order k j lt)))

  node_on : (s n : ℕ) → is_less (compare_keys k (node_key s n)) ≡ false → (not (eqb k.s s) || not (eqb k.n n)) ≡ true
      → (not (eqb j.s s) || not (eqb j.n n)) ≡ true
  node_on s n e o = go (eqb j.s s) refl
    where
      reached : (s ≤ k.s) × (k.s ≡ s → n ≤ k.n)
      reached = node_reached s n k e

      other : k.s ≡ s → k.n ≢ n
      other z =
          ⊎_elim (λ f. absurd (eqb-false k.s s (not_yes (eqb k.s s) f) z)) (λ f. eqb-false k.n n (not_yes (eqb k.n n) f))
          (or_cases (not (eqb k.s s)) (not (eqb k.n n)) o)

      go : (t : Bool) → eqb j.s s ≡ t → (not t || not (eqb j.n n)) ≡ true
      go false f = refl
      go true f =
          let same : j.s ≡ s = eqb-true j.s s f in
          let own : k.s ≡ s = omega (arith, reached.0, spaces_order k j lt) in
          let least : n ≤ k.n = reached.1 own in
          is_no j.n n (λ z. other own (omega (arith, nodes_order k j lt (own ∙ sym same))))

  names_on : (w : NamesQuery) → is_less (compare_keys k (names_start w)) ≡ false → names_outside w k ≡ true → names_outside w j ≡ true
  unfolding names_start names_outside
  names_on (Nodes s) e o = space_on s e o
  names_on Spaces e o = absurd (false≢true o)
  names_on (SpacesOf n) e o = absurd (false≢true o)

  pub outside_on : (q : Query) → is_less (compare_keys k (start_key q)) ≡ false → outside q k ≡ true → outside q j ≡ true
  unfolding start_key outside pairs_start pairs_outside
  outside_on (Pairs q) e o = go q.d e o
    where
      go : (d : Direction) → is_less (compare_keys k (pairs_start d q.s q.n)) ≡ false → pairs_outside d q.s q.n k ≡ true
          → pairs_outside d q.s q.n j ≡ true
      go Outpointing f h = node_on q.s q.n f h
      go Inpointing f h = space_on q.s f h
      go Adjacent f h = space_on q.s f h
  outside_on (Names w) e o = names_on w e o

  -- what is not below the start has no later key below it
  pub not_below_on : (s : Key) → is_less (compare_keys k s) ≡ false → is_less (compare_keys j s) ≡ false
  not_below_on s e = go (compare_keys j s) refl
    where
      go : (o : Ordering) → compare_keys j s ≡ o → is_less o ≡ false
      go Ordering.lt f = absurd (false≢true (sym e ∙ ap is_less (keys.compares.transitive k j s lt f)))
      go Ordering.eq f = refl
      go Ordering.gt f = refl

-- ---- a walk behind the start

module _ (b : List ℕ) (q : Query) where
  -- records whose keys ascend, none below the start
  abbrev pub Onward : List ℕ → Type 0
  Onward is = Ascending key_of compare_keys (map (tuple_at b) is) × NotBelow b (start_key q) is

  -- the chain from the start, and the tuples before it
  pub record Started (at : ℕ) : Type 0 where
    pub walked : Rest b at
    pub onward : Onward walked.rest
    pub before : Tuples
    pub below : Below key_of compare_keys keys (start_key q) before
    pub split : tuples_of b ≡ before ++ map (tuple_at b) walked.rest

  pub started : Linked b → (at : ℕ) → at ≡ start_in b q → Started at
  unfolding start_in used_rest tuples_of
  started L at e =
      let A = at_place b (start_key q) (place_in (key_at b) (start_key q) 0 (used_of b)) L refl in
      let U = used_rest b L.chains in
      let c = chain_split (next b) (word b 1) A.pre A.post (subst (Chain (next b) (word b 1)) A.split U.chain) in
      let links : Chain (next b) at A.post = subst (λ (i : ℕ). Chain (next b) i A.post) (sym (e ∙ A.head)) (from_head c.0 A.post c.2) in
      record {
        walked =
            record {
              high = start_within (next b) (capacity_of b) at A.post links A.within;
              rest = A.post;
              chain = links;
              within = A.within;
              short = omega (arith, U.short, ap length A.split, length-append A.pre A.post);
            };
        onward = (A.ascends, A.stop);
        before = map (tuple_at b) A.pre;
        below = A.below;
        split = ap (map (tuple_at b)) A.split ∙ map-append (tuple_at b) A.pre A.post;
      }
    where
      from_head : (j : ℕ) (is : List ℕ) → Chain (next b) j is → Chain (next b) (head_of is) is
      from_head j [] c = refl
      from_head j (i ∷ is) c = subst (λ (x : ℕ). Chain (next b) x (i ∷ is)) (sym c.1) c
