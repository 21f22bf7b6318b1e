-- The used chain walked once: its keys are tested and marked, and second ends that the marks do not show are kept.
use mathlib.Core.Bool.{Bool, true, false, cond, not, ◌&&◌, and-false, and-true, false≢true}
use mathlib.Core.List.{List, ◌∷◌}
use mathlib.Core.Logic.{◌≢◌}
use mathlib.Core.Path.{◌≡◌, refl, sym, ap, ap₂, ◌∙◌, subst}
use Prim.Native.Nat.{ℕ, zero, suc, ◌+◌, ◌-◌, ◌≤◌, ◌<◌}
use native.Mathlib.Omega.{arith}
use lib.Dec.{eqb, leb}
use lib.ListN.{length, get_or, set, length-set}
use lib.Seq.{get_or-set_same, get_or-set_other}
use borrow.Author.Tests.{eqb-true, eqb-false, leb-true, leb-false}
use Rattle.model.specs.declared.Key.{Key}
use Rattle.model.specs.Ordered.{is_less}
use Rattle.model.specs.Keys.{Tuple, same_key, space_key, compare_keys}
use Rattle.model.specs.Tuples.{Tuples, present}
use Rattle.layouts.specs.Buffer.{word, capacity_of, next, used_chain, key_at, tuple_at, tuples_of}
use Rattle.model.specs.Rules.{ascends_from_universe, every_key, small_key, no_edge_without_node, edge_has_end, node_supported, edge_supported}
use Rattle.model.specs.Numbers.{every_up_to}
use Rattle.model.proofs.Bools.{and_left, and_right, and_both, not_yes, not_no}
use Rattle.model.proofs.Tuples.{same_key_lem}
use Rattle.presence.specs.Presence.{Walkable, ends_within, UsedEnds, Held, MarksHold, MarksFit, with_named, tuples_from, shaped_key}
use Rattle.presence.specs.Presence.{good_key, supported, settled, end_there, nothing_kept, pushed, kept_with, every_end, KeptHold, kept_count}
use Rattle.verify.specs.Checks.{walked_on, walked_from, stepped, FreeWalk, UsedFound, keys_right, may_meet, key_follows, starts_right, used_walk}
use Rattle.verify.specs.declared.chains.Walk.{Walk}
use Rattle.presence.specs.declared.kept.KeptRecords.{KeptRecords}
use Rattle.std.specs.Prelude.{Some, None}
use Rattle.layouts.proofs.Sizes.{some_record, few_records}
use Rattle.presence.proofs.Rest.{ascends_empty, EveryLeft, every_start, every_next, every_no, every_end_lem, every_held, tuples_next, tuples_none}
use Rattle.presence.proofs.Hints.{named_marks, named_fit, marks_fit}
use Rattle.presence.proofs.Shows.{good_n, good_node}
use Rattle.verify.proofs.Walks.{walked_on_lem, walked_end, walked_long, walked_far, found_ends, free_first, free_next}
use Rattle.verify.proofs.Ascents.{AscendsLeft, ascends_not_first, ascends_start, ascends_next, ascends_no, ascends_end}
use Rattle.verify.proofs.Settled.{Stands, Settled, settled_all, not_kept_there}

-- ---- the used chain walked, its keys tested and marked

-- what is known of keys and marks where the used chain ends
pub record Keyed (b : List ℕ) (key : Key) (at : ℕ) (ms : List ℕ) : Type 0 where
  pub ascends : AscendsLeft b key at
  pub good : EveryLeft good_key b at
  pub marks : MarksHold b ms

-- the answer of the walk
module _ (b : List ℕ) where
  pub not_ascending : false ≡ ascends_from_universe (tuples_of b) → false ≡ keys_right (tuples_of b)
  unfolding keys_right
  not_ascending e = ap (λ (a : Bool). a && every_key good_key (tuples_of b)) e

  pub not_good : false ≡ every_key good_key (tuples_of b) → false ≡ keys_right (tuples_of b)
  unfolding keys_right
  not_good e = sym (and-false (ascends_from_universe (tuples_of b))) ∙ ap (λ (a : Bool). ascends_from_universe (tuples_of b) && a) e

  pub both_right : true ≡ ascends_from_universe (tuples_of b) → true ≡ every_key good_key (tuples_of b) → true ≡ keys_right (tuples_of b)
  unfolding keys_right
  both_right e f = f ∙ ap (λ (a : Bool). a && every_key good_key (tuples_of b)) e

  -- the first key is good
  pub first_good : (h n : ℕ) → UsedEnds b → h ≡ word b 1 → h ≢ 0 → n ≡ next b h → same_key (key_at b h) (space_key 0) ≡ true → EveryLeft good_key b n
  first_good h n U e h≢ f t =
      every_next good_key b h n U.walkable (every_start good_key b h U e) h≢ f
      (ap good_key (same_key_lem (key_at b h) (space_key 0) t) ∙ (unfold good_key small_key shaped_key no_edge_without_node edge_has_end in refl))

module _ (b : List ℕ) (U : UsedEnds b) where
  pub keyed_start : (h n : ℕ) → h ≡ word b 1 → h ≢ 0 → n ≡ next b h → (k : Key) → k ≡ key_at b h → same_key k (space_key 0) ≡ true
      → (ms : List ℕ) → MarksHold b ms → Keyed b k n ms
  keyed_start h n e h≢ f k g t ms M =
      record {
        ascends = ascends_start b U h n e h≢ f k g t;
        good = first_good b h n U e h≢ f (ap (λ (j : Key). same_key j (space_key 0)) (sym g) ∙ t);
        marks = M;
      }

  pub keyed_next : (key : Key) (at : ℕ) (ms : List ℕ) → Keyed b key at ms → at ≢ 0 → (n : ℕ) → n ≡ next b at
      → (k : Key) → k ≡ key_at b at → is_less (compare_keys key k) ≡ true → good_key k ≡ true
      → (ms' : List ℕ) → ms' ≡ with_named ms k at → Keyed b k n ms'
  keyed_next key at ms K at≢ n e k g l t ms' m =
      record {
        ascends = ascends_next b U key at n K.ascends at≢ e k g l;
        good = every_next good_key b at n U.walkable K.good at≢ e (ap good_key (sym g) ∙ t);
        marks =
            named_marks b ms k at (good_n k t) ms' m K.marks (every_held good_key b at U.walkable K.good)
            (λ z. ap (λ (x : Key). present x (tuples_of b)) (sym (good_node k t z) ∙ g) ∙ (every_held good_key b at U.walkable K.good).has at≢);
      }

-- ---- records that are kept

-- one record more, where its second end is not shown
module _ (b : List ℕ) (kept : KeptRecords) (L : KeptHold b kept) (at : ℕ) (at≢ : at ≢ 0) (high : at ≤ capacity_of b)
    (good : good_key (key_at b at) ≡ true) (room : kept.count < kept_count) where
  abbrev Named : ℕ → Type 0
  Named x = (x ≢ 0) × (x ≤ capacity_of b) × (good_key (key_at b x) ≡ true)

  kept_at : get_or (set kept.records kept.count at) kept.count 0 ≡ at
  kept_at = let h : kept.count < length kept.records = omega (arith, L.size) in get_or-set_same kept.records kept.count at 0 h

  put_listed : KeptHold b (pushed kept at)
  unfolding pushed
  put_listed = record { size = length-set kept.records kept.count at ∙ L.size; few = omega arith; named = λ j h. go j (eqb j kept.count) refl h }
    where
      go : (j : ℕ) (t : Bool) → eqb j kept.count ≡ t → j < suc kept.count → Named (get_or (set kept.records kept.count at) j 0)
      go j true e h =
          subst Named (sym (ap (λ (x : ℕ). get_or (set kept.records kept.count at) x 0) (eqb-true j kept.count e) ∙ kept_at)) (at≢, high, good)
      go j false e h =
          let n : j ≢ kept.count = eqb-false j kept.count e in
          let l : j < kept.count = omega arith in
          subst Named (sym (get_or-set_other kept.records kept.count j at 0 n)) (L.named j l)

  pub keep_listed : (t : Bool) (kept' : KeptRecords) → kept' ≡ cond t kept (pushed kept at) → KeptHold b kept'
  keep_listed true kept' e = subst (KeptHold b) (sym e) L
  keep_listed false kept' e = subst (KeptHold b) (sym e) put_listed

-- the ends of the records before it are the same
same_before : (b list : List ℕ) (kept at m : ℕ) → m ≤ kept
    → every_up_to (λ (j : ℕ). end_there (tuples_of b) (key_at b (get_or (set list kept at) (j - 1) 0))) m
    ≡ every_up_to (λ (j : ℕ). end_there (tuples_of b) (key_at b (get_or list (j - 1) 0))) m
unfolding every_up_to
same_before b list kept at zero h = refl
same_before b list kept at (suc m) h =
    let n : suc m - 1 ≢ kept = λ z. omega arith in
    ap₂ (λ (x : ℕ) (y : Bool). end_there (tuples_of b) (key_at b x) && y) (get_or-set_other list kept (suc m - 1) at 0 n)
    (same_before b list kept at m (omega arith))

one_end_more : (b : List ℕ) (kept : KeptRecords) (at : ℕ) → kept.count < length kept.records
    → every_end b (pushed kept at) ≡ (end_there (tuples_of b) (key_at b at) && every_end b kept)
unfolding every_end every_up_to pushed
one_end_more b kept at h =
    let z : suc kept.count - 1 ≡ kept.count = omega arith in
    ap₂ (λ (x : ℕ) (y : Bool). end_there (tuples_of b) (key_at b x) && y)
    (ap (λ (x : ℕ). get_or (set kept.records kept.count at) x 0) z ∙ get_or-set_same kept.records kept.count at 0 h)
    (same_before b kept.records kept.count at kept.count (omega arith))

-- ---- what is left to decide

-- at a record, where all before it is settled: the second ends that are kept, and the records from there on
pub record Open (b : List ℕ) (kept : KeptRecords) (key : Key) (at : ℕ) : Type 0 where
  pub stands : Stands (tuples_of b) key
  pub left : every_key (supported (tuples_of b)) (tuples_of b) ≡ (every_end b kept && every_key (supported (tuples_of b)) (tuples_from b at))

every_tuple : (p : Key → Bool) (b : List ℕ) (i : ℕ) (ts : List Tuple) → every_key p (tuple_at b i ∷ ts) ≡ (p (key_at b i) && every_key p ts)
unfolding every_key tuple_at
every_tuple p b i ts = refl

module _ (b : List ℕ) (U : UsedEnds b) where
  pub open_start : (h n : ℕ) → h ≡ word b 1 → h ≢ 0 → n ≡ next b h → (k : Key) → k ≡ key_at b h → same_key k (space_key 0) ≡ true
      → (kept : KeptRecords) → kept.count ≡ 0 → Open b kept k n
  unfolding every_end every_up_to supported node_supported edge_supported
  open_start h n e h≢ f k g t kept none =
      let z : k ≡ space_key 0 = same_key_lem k (space_key 0) t in
      let H : Held b h = every_held (supported (tuples_of b)) b h U.walkable (every_start (supported (tuples_of b)) b h U e) in
      let own : present (space_key 0) (tuples_of b) ≡ true = ap (λ (x : Key). present x (tuples_of b)) (sym z ∙ g) ∙ H.has h≢ in
      let yes' : supported (tuples_of b) (key_at b h) ≡ true = ap (supported (tuples_of b)) (sym g ∙ z) in
      let E : EveryLeft (supported (tuples_of b)) b n = every_next (supported (tuples_of b)) b h n U.walkable (every_start (supported (tuples_of b)) b h U e) h≢ f yes' in
      record {
        stands = subst (Stands (tuples_of b)) (sym z) (record { space = own; node = own });
        left =
            E.left
            ∙ sym
            (ap
            (λ (c : ℕ).
            every_up_to (λ (j : ℕ). end_there (tuples_of b) (key_at b (get_or kept.records (j - 1) 0))) c
            && every_key (supported (tuples_of b)) (tuples_from b n))
            none);
      }

  pub open_next : (kept : KeptRecords) (key : Key) (at : ℕ) (ms : List ℕ) → Open b kept key at → Keyed b key at ms → at ≢ 0 → (n : ℕ) → n ≡ next b at
      → (k : Key) → k ≡ key_at b at → good_key k ≡ true → settled b ms key k ≡ true → kept.count < length kept.records
      → (kept' : KeptRecords) → kept' ≡ cond (nothing_kept ms k) kept (pushed kept at) → Open b kept' k n
  open_next kept key at ms O K at≢ n e k g good t room kept' f =
      record { stands = S.stands; left = start ∙ go (nothing_kept ms k) refl (end_there (tuples_of b) k) refl f }
    where
      own : present k (tuples_of b) ≡ true
      own = ap (λ (x : Key). present x (tuples_of b)) g ∙ (every_held good_key b at U.walkable K.good).has at≢

      S : Settled (tuples_of b) k
      S = settled_all b ms key k K.marks O.stands own good t

      start : every_key (supported (tuples_of b)) (tuples_of b) ≡ (every_end b kept && (end_there (tuples_of b) k && every_key (supported (tuples_of b)) (tuples_from b n)))
      start =
          O.left
          ∙ ap (λ (x : Bool). every_end b kept && x)
          (ap (every_key (supported (tuples_of b))) (tuples_next b at n U.walkable K.good.on at≢ e)
          ∙ every_tuple (supported (tuples_of b)) b at (tuples_from b n)
          ∙ ap (λ (x : Bool). x && every_key (supported (tuples_of b)) (tuples_from b n)) (ap (supported (tuples_of b)) (sym g) ∙ S.end))

      swap : (x y z : Bool) → (x && (y && z)) ≡ ((y && x) && z)
      swap true true z = refl
      swap true false z = refl
      swap false true z = refl
      swap false false z = refl

      go : (s : Bool) → nothing_kept ms k ≡ s → (d : Bool) → end_there (tuples_of b) k ≡ d → kept' ≡ cond s kept (pushed kept at)
          → (every_end b kept && (end_there (tuples_of b) k && every_key (supported (tuples_of b)) (tuples_from b n)))
          ≡ (every_end b kept' && every_key (supported (tuples_of b)) (tuples_from b n))
      go true a d c p =
          ap (λ (x : Bool). every_end b kept && (x && every_key (supported (tuples_of b)) (tuples_from b n))) (not_kept_there b ms k K.marks good a)
          ∙ ap (λ (x : KeptRecords). every_end b x && every_key (supported (tuples_of b)) (tuples_from b n)) (sym p)
      go false a d c p =
          swap (every_end b kept) (end_there (tuples_of b) k) (every_key (supported (tuples_of b)) (tuples_from b n))
          ∙ ap (λ (x : Bool). x && every_key (supported (tuples_of b)) (tuples_from b n))
          (ap (λ (x : Key). end_there (tuples_of b) x && every_end b kept) g ∙ sym (one_end_more b kept at room) ∙ ap (every_end b) (sym p))

-- ---- the walk

-- what is left of the walk
pub record Using (b ms : List ℕ) (kept : KeptRecords) (sure : Bool) (left last at : ℕ) (free : Walk) : Type 0 where
  pub few : left ≤ capacity_of b
  pub same : walked_on b (record { at = at; left = left; last = last }) ≡ walked_from b (word b 1)
  pub met : last ≢ 0
  pub within : last ≤ capacity_of b
  pub fit : MarksFit b ms
  pub listed : KeptHold b kept
  pub room : kept.count + left < capacity_of b
  pub beside : FreeWalk b free left
  pub keyed : ends_within (capacity_of b) (used_chain b) ≡ true → Keyed b (key_at b last) at ms
  pub undecided : ends_within (capacity_of b) (used_chain b) ≡ true → sure ≡ true → Open b kept (key_at b last) at

module _ (b : List ℕ) where
  module _ (r : Bool) (e : r ≡ starts_right b) (y : r ≡ true) where
    yes_starts : (not (eqb (word b 1) 0) && same_key (key_at b (word b 1)) (space_key 0)) ≡ true
    unfolding starts_right
    yes_starts = sym e ∙ y

    pub head_some : (h : ℕ) → h ≡ word b 1 → h ≢ 0
    head_some h f = λ z. eqb-false (word b 1) 0 (not_yes (eqb (word b 1) 0) (and_left (not (eqb (word b 1) 0)) _ yes_starts)) (sym f ∙ z)

    pub head_key : (h : ℕ) → h ≡ word b 1 → same_key (key_at b h) (space_key 0) ≡ true
    head_key h f = ap (λ (i : ℕ). same_key (key_at b i) (space_key 0)) f ∙ and_right (not (eqb (word b 1) 0)) _ yes_starts

module _ (b : List ℕ) (w : Walkable b) where
  used_ends : ends_within (capacity_of b) (used_chain b) ≡ true → UsedEnds b
  used_ends e = record { walkable = w; ended = e }

  -- given up: the chain does not end, or its keys are not right
  pub given_up : (ends_within (capacity_of b) (used_chain b) ≡ true → false ≡ keys_right (tuples_of b)) → None ≡ used_walk b
  unfolding used_walk
  given_up h = sym (ap (λ (t : Bool). cond t (walked_from b (word b 1)) None) (go (ends_within (capacity_of b) (used_chain b)) refl))
    where
      go : (e : Bool) → ends_within (capacity_of b) (used_chain b) ≡ e → (e && keys_right (tuples_of b)) ≡ false
      go true f = sym (h f)
      go false f = refl

  pub not_started : (r : Bool) → r ≡ starts_right b → r ≡ false → None ≡ used_walk b
  unfolding starts_right
  not_started r e f = go (eqb (word b 1) 0) refl (sym e ∙ f)
    where
      go : (z : Bool) → eqb (word b 1) 0 ≡ z → (not z && same_key (key_at b (word b 1)) (space_key 0)) ≡ false → None ≡ used_walk b
      go true z t = given_up (λ u. not_ascending b (ascends_empty b (used_ends u) (word b 1) refl (eqb-true (word b 1) 0 z)))
      go false z t =
          given_up (λ u. not_ascending b (ascends_not_first b (used_ends u) (word b 1) refl (eqb-false (word b 1) 0 z) (key_at b (word b 1)) refl t))

  pub using_start : (r : Bool) → r ≡ starts_right b → r ≡ true → (h : ℕ) → h ≡ word b 1
      → (C n : ℕ) → C ≡ capacity_of b → n ≡ next b h → (ms : List ℕ) → MarksHold b ms → (kept : KeptRecords) → KeptHold b kept
      → kept.count ≡ 0 → (v : Walk) → v ≡ record { at = word b 2; left = capacity_of b; last = 0 } → Using b ms kept true (C - 1) h n v
  unfolding walked_from
  using_start r s y h e C n d f ms M kept L none v x =
      let high : word b 1 ≤ capacity_of b = w.used_head in
      let h≢ : h ≢ 0 = head_some b r s y h e in
      let t : same_key (key_at b h) (space_key 0) ≡ true = head_key b r s y h e in
      record {
        few = omega arith;
        same =
            walked_on_lem b C h 0 n h≢ (λ z. omega (arith, some_record b w.least w.most)) (omega arith) (omega arith) f
            ∙ ap₂ (λ (i c : ℕ). walked_on b (record { at = i; left = c; last = 0 })) e d;
        met = h≢;
        within = omega arith;
        fit = marks_fit b ms M;
        listed = L;
        room = omega (arith, some_record b w.least w.most);
        beside = free_first b v C d x;
        keyed = λ u. keyed_start b (used_ends u) h n e h≢ f (key_at b h) refl t ms M;
        undecided = λ u v. open_start b (used_ends u) h n e h≢ f (key_at b h) refl t kept none;
      }

  module _ (ms : List ℕ) (kept : KeptRecords) (sure : Bool) (left last at : ℕ) (v : Walk) (W : Using b ms kept sure left last at v) where
    ended : at ≡ 0 → ends_within (capacity_of b) (used_chain b) ≡ true
    unfolding used_chain
    ended z = sym (found_ends b (word b 1) _ (walked_end b left at last z ∙ W.same))

    pub using_end : at ≡ 0 → Some (record { count = capacity_of b - left; last = last }) ≡ used_walk b
    unfolding used_walk
    using_end z =
        let u = ended z in
        let K = W.keyed u in
        let k : true ≡ keys_right (tuples_of b)
        = both_right b (ascends_end b (used_ends u) (key_at b last) at K.ascends z) (every_end_lem good_key b at K.good z) in
        walked_end b left at last z ∙ W.same
        ∙ sym
        (ap (λ (t : Bool). cond t (walked_from b (word b 1)) None) (and_both (ends_within (capacity_of b) (used_chain b)) _ u (sym k)))

    pub using_found : at ≡ 0 → UsedFound b ms kept sure v
    unfolding every_key
    using_found z =
        let u = ended z in
        record {
          tuples =
              record {
                shows = (W.keyed u).marks;
                listed = W.listed;
                decided =
                    λ y.
                    (W.undecided u y).left
                    ∙ ap (λ (ts : Tuples). every_end b kept && every_key (supported (tuples_of b)) ts) (tuples_none b at z)
                    ∙ and-true (every_end b kept);
              };
          beside = record { few = W.beside.few; enough = omega arith; same = W.beside.same };
        }

    -- the chain does not end with records of at most C
    not_ended : None ≡ walked_on b (record { at = at; left = left; last = last }) → None ≡ used_walk b
    unfolding used_chain
    not_ended e = given_up (λ u. absurd (false≢true (found_ends b (word b 1) _ (e ∙ W.same) ∙ u)))

    module _ (at≢ : at ≢ 0) (C : ℕ) (size : C ≡ capacity_of b) (r : Bool) (may : r ≡ may_meet C left at) where
      pub using_far : r ≡ false → None ≡ used_walk b
      unfolding may_meet
      using_far y = go (leb at C) refl (sym may ∙ y)
        where
          go : (t : Bool) → leb at C ≡ t → (t && not (eqb left 0)) ≡ false → None ≡ used_walk b
          go false e h = not_ended (walked_far b left at last (omega (arith, leb-false at C e)))
          go true e h = not_ended (walked_long b left at last at≢ (eqb-true left 0 (not_no (eqb left 0) h)))

      module _ (yes' : r ≡ true) where
        pub using_high : at ≤ capacity_of b
        unfolding may_meet
        using_high = omega (arith, leb-true at C (and_left (leb at C) _ (sym may ∙ yes')))

        pub using_left : left ≢ 0
        unfolding may_meet
        using_left = eqb-false left 0 (not_yes (eqb left 0) (and_right (leb at C) _ (sym may ∙ yes')))

        -- a record is one of 2,048 at most
        pub using_low : at ≤ 4096
        using_low = omega (arith, using_high, few_records b w.least w.most)

        pub using_room : kept.count < kept_count
        using_room = let n : left ≢ 0 = using_left in omega (arith, W.room, few_records b w.least w.most)

        pub using_enough : v.left ≢ 0
        using_enough z = let n : left ≢ 0 = using_left in omega (arith, W.beside.enough)

        module _ (k : Key) (g : k ≡ key_at b at) (key : Key) (p : key ≡ key_at b last) (t : Bool) (e : t ≡ key_follows key k) where
          follows : t ≡ key_follows (key_at b last) k
          follows = e ∙ ap (λ (x : Key). key_follows x k) p

          pub using_no : t ≡ false → None ≡ used_walk b
          unfolding key_follows
          using_no y = given_up (λ u. go (W.keyed u) (used_ends u) (is_less (compare_keys (key_at b last) k)) refl (sym follows ∙ y))
            where
              go : Keyed b (key_at b last) at ms → UsedEnds b → (l : Bool) → is_less (compare_keys (key_at b last) k) ≡ l → (l && good_key k) ≡ false
                  → false ≡ keys_right (tuples_of b)
              go K U false e h = not_ascending b (ascends_no b U (key_at b last) at K.ascends at≢ k g e)
              go K U true e h = not_good b (every_no good_key b at w K.good at≢ (ap good_key (sym g) ∙ h))

          module _ (y : t ≡ true) where
            pub using_good : good_key k ≡ true
            unfolding key_follows
            using_good = and_right (is_less (compare_keys (key_at b last) k)) _ (sym follows ∙ y)

            less : is_less (compare_keys (key_at b last) k) ≡ true
            unfolding key_follows
            less = and_left (is_less (compare_keys (key_at b last) k)) _ (sym follows ∙ y)

            pub using_next : (sure' : Bool) → sure' ≡ (sure && settled b ms key k) → (ms' : List ℕ) → ms' ≡ with_named ms k at
                → (kept' : KeptRecords) → kept' ≡ kept_with ms kept k at → (n : ℕ) → n ≡ next b at
                → (v' : Walk) → v' ≡ stepped b v → Using b ms' kept' sure' (left - 1) at n v'
            unfolding kept_with pushed
            using_next sure' q ms' m kept' l n i v' x =
                let left≢ : left ≢ 0 = using_left in
                let now : sure' ≡ (sure && settled b ms (key_at b last) k) = q ∙ ap (λ (z : Key). sure && settled b ms z k) p in
                record {
                  few = omega (arith, W.few);
                  same = walked_on_lem b left at last n at≢ left≢ W.few using_high i ∙ W.same;
                  met = at≢;
                  within = using_high;
                  fit = named_fit b ms k at (good_n k using_good) ms' m W.fit using_high;
                  listed =
                      keep_listed b kept W.listed at at≢ using_high (ap good_key (sym g) ∙ using_good) using_room (nothing_kept ms k) kept' l;
                  room = more (nothing_kept ms k) left≢ l;
                  beside = free_next b v left left≢ W.beside v' x;
                  keyed =
                      λ u.
                      subst (λ (z : Key). Keyed b z n ms') g
                      (keyed_next b (used_ends u) (key_at b last) at ms (W.keyed u) at≢ n i k g less using_good ms' m);
                  undecided =
                      λ u z.
                      let both : (sure && settled b ms (key_at b last) k) ≡ true = sym now ∙ z in
                      subst (λ (z : Key). Open b kept' z n) g
                      (open_next b (used_ends u) kept (key_at b last) at ms (W.undecided u (and_left sure _ both)) (W.keyed u) at≢ n i k g
                      using_good (and_right sure _ both) (let room : kept.count < kept_count = using_room in omega (arith, W.listed.size)) kept' l);
                }
              where
                more : (s : Bool) → left ≢ 0 → kept' ≡ cond s kept (pushed kept at) → kept'.count + (left - 1) < capacity_of b
                more true n e = omega (arith, W.room, ap (λ (z : KeptRecords). z.count) e)
                more false n e = omega (arith, W.room, ap (λ (z : KeptRecords). z.count) e)
