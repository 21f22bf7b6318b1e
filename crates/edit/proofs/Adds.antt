-- A key's tuple added: linked at the key's place it is the tuple list with the key put in.
use mathlib.Core.Bool.{Bool, true, false, cond, not}
use mathlib.Core.List.{List, [], ◌∷◌, ◌++◌, map, append_assoc, map-append}
use mathlib.Core.Logic.{◌≢◌}
use mathlib.Core.Option.{some-injective, none-ne-some}
use mathlib.Core.Path.{◌≡◌, refl, sym, ap, ap₂, ◌∙◌, subst, subst₂}
use Prim.Native.Nat.{ℕ, Ordering}
use native.Mathlib.Omega.{arith}
use lib.Dec.{eqb}
use lib.ListN.{length}
use borrow.Author.Tests.{eq-eqb, ne_eqb}
use Rattle.model.specs.declared.Key.{Key}
use Rattle.model.specs.Ordered.{is_less, holds, put, Ascending}
use Rattle.model.specs.Keys.{NIL, Tuple, key_of, space_key, compare_keys, same_key}
use Rattle.model.specs.Tuples.{present, add}
use Rattle.layouts.specs.Buffer.{word, capacity_of, next, key_at, tuple_at, used_of, free_of, tuples_of}
use Rattle.model.specs.Rules.{first_key}
use Rattle.layouts.specs.Chains.{Chain, ChainRules}
use Rattle.model.proofs.Bools.{clash, or_right, or_no_left, or_no_right}
use Rattle.model.proofs.Order.{keys, opposite}
use Rattle.model.proofs.Ordered.{put_below, put_before, put_held, holds_append}
use Rattle.model.proofs.Tuples.{present_add, add_ascending}
use Rattle.model.proofs.Rules.{never_below_universe, universe_first, first_universe}
use Rattle.layouts.proofs.Store.{chains_count, capacity_most, used_of_lem}
use Rattle.words.specs.Words.{Inside}
use Rattle.words.proofs.Words.{inside}
use Rattle.chain.specs.declared.Place.{Place}
use Rattle.chain.specs.Links.{Linked, place_in, Edited, Linking, insert_after, KeepsHints}
use Rattle.chain.proofs.Found.{snoc, NotBelow, AtPlace, at_place, above_all, find_at, present_found, place_inside}
use Rattle.chain.proofs.Relinked.{Inserted, insert_reads, Parts, inserting, apart, inserted_rules, inserted_tuples}
use Rattle.edit.specs.Edits.{Adding}
use Rattle.edit.proofs.Built.{edited, unedited, length_tuples}

-- ---- is the key at its place

module _ (b : List ℕ) (k : Key) (L : Linked b) (at : ℕ) (e : at ≡ (place_in (key_at b) k 0 (used_of b)).at) where
  abbrev the_place : Place
  the_place = place_in (key_at b) k 0 (used_of b)

  pub held_inside : at ≢ 0 → Inside b at
  held_inside h = subst (Inside b) (sym e) (place_inside b k the_place L refl (λ z. h (e ∙ z)))

  present_at : (t : Bool) → t ≡ same_key k (key_at b at) → present k (tuples_of b) ≡ not (eqb (cond (eqb at 0) 0 (cond t at 0)) 0)
  present_at t et =
      present_found b k L
      ∙ ap (λ (i : ℕ). not (eqb i 0))
      (find_at b k the_place.before the_place.at (at_place b k the_place L refl) t (et ∙ ap (λ (i : ℕ). same_key k (key_at b i)) e)
      ∙ ap (λ (i : ℕ). cond (eqb i 0) 0 (cond t i 0)) (sym e))

  pub held_none : at ≡ 0 → not (eqb at 0) ≡ present k (tuples_of b)
  held_none z =
      ap not (eq-eqb at 0 z)
      ∙ sym (present_at (same_key k (key_at b at)) refl
      ∙ ap (λ (t : Bool). not (eqb (cond t 0 (cond (same_key k (key_at b at)) at 0)) 0)) (eq-eqb at 0 z))

  pub held_same : at ≢ 0 → (key : Key) (t : Bool) → key ≡ key_at b at → t ≡ same_key k key → t ≡ present k (tuples_of b)
  held_same h key t ek et =
      sym (present_at t (et ∙ ap (same_key k) ek)
      ∙ ap (λ (u : Bool). not (eqb (cond u 0 (cond t at 0)) 0)) (ne_eqb at 0 h)
      ∙ go t)
    where
      go : (t : Bool) → not (eqb (cond t at 0) 0) ≡ t
      go true = ap not (ne_eqb at 0 h)
      go false = refl

-- ---- the key is missing

-- a record put into a list leaves the others in it
still_there : (xs ys us vs : List ℕ) (before taken i : ℕ) → xs ++ (before ∷ ys) ≡ us ++ (i ∷ vs)
    → (us' : List ℕ) × (vs' : List ℕ) × (xs ++ (before ∷ taken ∷ ys) ≡ us' ++ (i ∷ vs'))
still_there [] ys [] vs before taken i e = let h : before ≡ i = cc in ([], taken ∷ ys, ap (λ (x : ℕ). x ∷ taken ∷ ys) h)
still_there [] ys (u ∷ us) vs before taken i e =
    let t : ys ≡ us ++ (i ∷ vs) = cc in (before ∷ taken ∷ us, vs, ap (λ (zs : List ℕ). before ∷ taken ∷ zs) t)
still_there (x ∷ xs) ys [] vs before taken i e =
    let h : x ≡ i = cc in ([], xs ++ (before ∷ taken ∷ ys), ap (λ (y : ℕ). y ∷ (xs ++ (before ∷ taken ∷ ys))) h)
still_there (x ∷ xs) ys (u ∷ us) vs before taken i e =
    let t : xs ++ (before ∷ ys) ≡ us ++ (i ∷ vs) = cc in
    let r = still_there xs ys us vs before taken i t in
    (x ∷ r.0, r.1, ap (λ (zs : List ℕ). x ∷ zs) r.2)

module _ (b : List ℕ) (k : Key) (A : Adding b k) (absent : present k (tuples_of b) ≡ false) where
  L : Linked b
  L = A.linked

  new : Tuple
  new = record { key = k; value = NIL }

  -- UNIVERSE is below every other key
  universe_below : is_less (compare_keys (space_key 0) k) ≡ true
  universe_below = go (compare_keys (space_key 0) k) refl
    where
      has : present (space_key 0) (tuples_of b) ≡ true
      has = first_universe (tuples_of b) L.first

      go : (o : Ordering) → compare_keys (space_key 0) k ≡ o → is_less o ≡ true
      go Ordering.lt e = refl
      go Ordering.eq e = absurd (clash (subst (λ (j : Key). present j (tuples_of b) ≡ true) (keys.same (space_key 0) k e) has) absent)
      go Ordering.gt e = absurd (never_below_universe k (keys.compares.flip (space_key 0) k ∙ ap opposite e))

  module _ (p : Place) (e : p ≡ place_in (key_at b) k 0 (used_of b)) where
    P : AtPlace b k p.before p.at
    P = at_place b k p L e

    -- so some record stands before the key's place
    some_before : P.pre ≢ []
    unfolding tuples_of tuple_at
    some_before z = go P.post P.stop (P.split ∙ ap (λ (is : List ℕ). is ++ P.post) z)
      where
        go : (post : List ℕ) → NotBelow b k post → used_of b ≡ post → ⊥
        go [] stop same = none-ne-some _ (sym (ap (λ (is : List ℕ). first_key (map (tuple_at b) is)) same) ∙ L.first)
        go (i ∷ is) stop same =
            let first : key_at b i ≡ space_key 0 = some-injective _ _ (sym (ap (λ (is : List ℕ). first_key (map (tuple_at b) is)) same) ∙ L.first) in
            clash (ap (λ (j : Key). is_less (compare_keys j k)) first ∙ universe_below) stop

    cut : (init : List ℕ) × (used_of b ≡ init ++ p.before ∷ P.post)
    cut =
        let s = snoc P.pre some_before 0 in (
          s.0,
          P.split
              ∙ ap (λ (is : List ℕ). is ++ P.post) (s.1 ∙ ap (λ (i : ℕ). s.0 ++ (i ∷ [])) (sym P.last))
              ∙ append_assoc s.0 (p.before ∷ []) P.post,
        )

    -- a record is free
    free_one : (free : List ℕ) × (free_of b ≡ word b 2 ∷ free)
    free_one = go (free_of b) refl
      where
        go : (free : List ℕ) → free_of b ≡ free → (rest : List ℕ) × (free_of b ≡ word b 2 ∷ rest)
        go [] e =
            absurd (omega (arith, A.room absent, length_tuples b, chains_count b (used_of b) (free_of b) L.chains, ap length e))
        go (f ∷ fs) e =
            let c : Chain (next b) (word b 2) (f ∷ fs) = subst (Chain (next b) (word b 2)) e L.chains.free_chain in
            (fs, e ∙ ap (λ (i : ℕ). i ∷ fs) c.1)

    rules : ChainRules b (cut.0 ++ p.before ∷ P.post) (word b 2 ∷ free_one.0)
    rules = subst₂ (λ (us fs : List ℕ). ChainRules b us fs) cut.1 free_one.1 L.chains

    C : ℕ
    C = capacity_of b

    parts : Parts (capacity_of b) p.before (word b 2) cut.0 P.post free_one.0
    parts = inserting b p.before (word b 2) cut.0 P.post free_one.0 rules

    pub linking : Linking b p.before
    linking =
        record {
          there = inside b p.before parts.low parts.high;
          taken = inside b (word b 2) parts.moves_low parts.moves_high;
          small = capacity_most b (used_of b) (free_of b) L.chains;
          free = L.chains.nexts (word b 2) parts.moves_low parts.moves_high;
          after = L.chains.nexts p.before parts.low parts.high;
          used = omega (arith, L.chains.counted, chains_count b (used_of b) (free_of b) L.chains);
        }

    reads : Inserted b (insert_after b p.before k NIL) p.before (word b 2) new
    unfolding new
    reads = insert_reads b p.before k NIL linking (apart (capacity_of b) p.before (word b 2) cut.0 P.post free_one.0 parts)

    -- the tuple list with the key put in
    put_in : add k (tuples_of b) ≡ map (tuple_at b) cut.0 ++ tuple_at b p.before ∷ new ∷ map (tuple_at b) P.post
    unfolding tuples_of new cut
    put_in =
        ap (λ (is : List ℕ). add k (map (tuple_at b) is)) P.split
        ∙ ap (put key_of compare_keys (record { key = k; value = NIL })) (map-append (tuple_at b) P.pre P.post)
        ∙ put_below key_of compare_keys keys (record { key = k; value = NIL }) (map (tuple_at b) P.pre) (map (tuple_at b) P.post) P.below
        ∙ ap₂ ◌++◌ (whole_pre) (at_front P.post P.stop P.ascends post_absent)
        ∙ append_assoc (map (tuple_at b) cut.0) (tuple_at b p.before ∷ []) (record { key = k; value = NIL } ∷ map (tuple_at b) P.post)
      where
        whole_pre : map (tuple_at b) P.pre ≡ map (tuple_at b) cut.0 ++ (tuple_at b p.before ∷ [])
        whole_pre =
            let s = snoc P.pre some_before 0 in
            ap (map (tuple_at b)) (s.1 ∙ ap (λ (i : ℕ). s.0 ++ (i ∷ [])) (sym P.last)) ∙ map-append (tuple_at b) s.0 (p.before ∷ [])

        post_absent : present k (map (tuple_at b) P.post) ≡ false
        post_absent =
            or_no_right (present k (map (tuple_at b) P.pre)) (present k (map (tuple_at b) P.post))
            (sym (holds_append key_of compare_keys keys k (map (tuple_at b) P.pre) (map (tuple_at b) P.post))
            ∙ ap (present k) (sym (map-append (tuple_at b) P.pre P.post))
            ∙ ap (λ (is : List ℕ). present k (map (tuple_at b) is)) (sym P.split)
            ∙ absent)

        at_front : (post : List ℕ) → NotBelow b k post → Ascending key_of compare_keys (map (tuple_at b) post) → present k (map (tuple_at b) post) ≡ false
            → put key_of compare_keys (record { key = k; value = NIL }) (map (tuple_at b) post) ≡ record { key = k; value = NIL } ∷ map (tuple_at b) post
        at_front [] stop h no' = unfold put in refl
        at_front (i ∷ is) stop h no' =
            put_before key_of compare_keys keys (record { key = k; value = NIL }) (tuple_at b i) (map (tuple_at b) is)
            (above_all b k i is stop (differs no') h).0
          where
            differs : present k (map (tuple_at b) (i ∷ is)) ≡ false → same_key k (key_at b i) ≡ false
            differs no' = unfold holds tuple_at in (or_no_left (same_key k (key_at b i)) (present k (map (tuple_at b) is)) no')

    linked_in : Edited b (insert_after b p.before k NIL) (add k (tuples_of b))
    linked_in =
        let h : Ascending key_of compare_keys (add k (tuples_of b)) = add_ascending k (tuples_of b) L.ascends in
        edited b (insert_after b p.before k NIL) (cut.0 ++ p.before ∷ word b 2 ∷ P.post) free_one.0 (add k (tuples_of b))
        (inserted_rules b (insert_after b p.before k NIL) p.before (word b 2) new cut.0 P.post free_one.0 rules reads)
        (inserted_tuples b (insert_after b p.before k NIL) p.before (word b 2) new cut.0 P.post free_one.0 rules reads ∙ sym put_in)
        h
        (universe_first (add k (tuples_of b)) h
        (present_add (space_key 0) k (tuples_of b)
        ∙ or_right (same_key (space_key 0) k) (present (space_key 0) (tuples_of b)) (first_universe (tuples_of b) L.first)))
        reads.size reads.past

    hints_kept : KeepsHints b (insert_after b p.before k NIL)
    hints_kept i H h =
        let R = H h in
        let r = still_there cut.0 P.post R.before R.after p.before (word b 2) i (sym cut.1 ∙ R.split) in
        record {
          before = r.0;
          after = r.1;
          split =
              used_of_lem (insert_after b p.before k NIL) (cut.0 ++ p.before ∷ word b 2 ∷ P.post) free_one.0
              (inserted_rules b (insert_after b p.before k NIL) p.before (word b 2) new cut.0 P.post free_one.0 rules reads)
              ∙ r.2;
        }

    pub added : (b' : List ℕ) → b' ≡ insert_after b p.before k NIL → Edited b b' (add k (tuples_of b)) × KeepsHints b b'
    added b' same = subst (λ (x : List ℕ). Edited b x (add k (tuples_of b)) × KeepsHints b x) (sym same) (linked_in, hints_kept)

-- ---- the key is there

pub kept : (b : List ℕ) (k : Key) → Linked b → present k (tuples_of b) ≡ true → Edited b b (add k (tuples_of b))
kept b k L e =
    unedited b (add k (tuples_of b)) L (sym (put_held key_of compare_keys keys (record { key = k; value = NIL }) (tuples_of b) L.ascends e))
