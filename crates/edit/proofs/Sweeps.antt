-- A walk that removes: what was walked is kept but for what the selection takes, what is left is still to do.
use mathlib.Core.Bool.{Bool, true, false, cond}
use mathlib.Core.List.{List, [], ◌∷◌, ◌++◌, map, append_assoc, map-append}
use mathlib.Core.Logic.{◌≢◌}
use mathlib.Core.Option.{some-injective, none-ne-some}
use mathlib.Core.Path.{◌≡◌, refl, sym, ap, ap₂, ◌∙◌, subst, subst₂}
use Prim.Native.Nat.{ℕ, ◌≤◌, ◌<◌}
use native.Mathlib.Omega.{arith}
use lib.Dec.{eqb}
use lib.ListN.{length, length-append}
use borrow.Author.Tests.{eqb-false, eq-eqb, ne_eqb}
use Rattle.model.specs.declared.Key.{Key}
use Rattle.model.specs.Ordered.{Above, Ascending}
use Rattle.model.specs.Keys.{Tuple, key_of, space_key, compare_keys}
use Rattle.model.specs.Tuples.{Tuples, present, remove}
use Rattle.layouts.specs.Buffer.{word, capacity_of, next, key_at, tuple_at, past_records, used_of, free_of, tuples_of}
use Rattle.model.specs.Rules.{first_key}
use Rattle.layouts.specs.Chains.{Chain, ChainRules, Within, Rest}
use Rattle.model.proofs.Bools.{and_both, no_not}
use Rattle.model.proofs.Order.{keys}
use Rattle.model.proofs.Ordered.{Below, above_less, ascending_tail}
use Rattle.model.proofs.Tuples.{present_remove, remove_ascending}
use Rattle.model.proofs.Rules.{universe_first, first_universe}
use Rattle.layouts.proofs.Chains.{within_append, start_within, chain_within}
use Rattle.layouts.proofs.Store.{chains_count, capacity_most}
use Rattle.words.specs.Words.{Inside}
use Rattle.words.proofs.Words.{inside}
use Rattle.chain.specs.declared.Place.{Place}
use Rattle.chain.specs.Links.{Linked, place_in, Edited, Unlinking, remove_after}
use Rattle.chain.proofs.Found.{last_of, snoc, at_place}
use Rattle.chain.proofs.Walks.{remaining, remaining_is, at_end}
use Rattle.chain.proofs.Paths.{chain_split, within_right}
use Rattle.chain.proofs.Relinked.{Removed, remove_reads, Parts, removing, apart, removed_rules}
use Rattle.taken.specs.declared.Selection.{Selection}
use Rattle.taken.specs.declared.Span.{Span}
use Rattle.taken.specs.Selections.{taken_by, span_of, span_start, beyond}
use Rattle.taken.proofs.Spans.{below_not_taken, beyond_not_taken, after_not_taken}
use Rattle.edit.specs.Edits.{Turned, or_first, sweep_start}
use Rattle.edit.proofs.Built.{edited}

-- the answer of one turn
pub turned_taken : (b : List ℕ) (sel : Selection) (before at : ℕ) (key : Key) (t : Bool) (b' : List ℕ)
    → key ≡ key_at b at → t ≡ taken_by sel key → t ≡ true → b' ≡ remove_after b before → Turned b sel before at before b'
turned_taken b sel before at key t b' ek et yes' eb =
    let test : true ≡ taken_by sel (key_at b at) = sym yes' ∙ et ∙ ap (taken_by sel) ek in
    record {
      answer = ap (λ (u : Bool). cond u before at) test;
      buffer = eb ∙ ap (λ (u : Bool). cond u (remove_after b before) b) test;
    }

pub turned_left : (b : List ℕ) (sel : Selection) (before at : ℕ) (key : Key) (t : Bool)
    → key ≡ key_at b at → t ≡ taken_by sel key → t ≡ false → Turned b sel before at at b
turned_left b sel before at key t ek et no' =
    let test : false ≡ taken_by sel (key_at b at) = sym no' ∙ et ∙ ap (taken_by sel) ek in
    record { answer = ap (λ (u : Bool). cond u before at) test; buffer = ap (λ (u : Bool). cond u (remove_after b before) b) test }

-- the answer of `start_behind`
module _ (b : List ℕ) (span : Span) (p : Place) (e : p ≡ place_in (key_at b) (span_start span) 0 (used_of b)) where
  pub behind_first : p.before ≡ 0 → (head : ℕ) → head ≡ word b 1 → head ≡ sweep_start b span
  unfolding sweep_start
  behind_first z head eh =
      eh ∙ ap (λ (t : Bool). cond t (word b 1) p.before) (sym (eq-eqb p.before 0 z)) ∙ ap (λ (q : Place). or_first b q.before) e

  pub behind_placed : p.before ≢ 0 → p.before ≡ sweep_start b span
  unfolding sweep_start
  behind_placed h = ap (λ (t : Bool). cond t (word b 1) p.before) (sym (ne_eqb p.before 0 h)) ∙ ap (λ (q : Place). or_first b q.before) e

-- the walk stands between `before` and `at`: the buffer b began as b₀
pub record Sweeping (b₀ : List ℕ) (sel : Selection) (b : List ℕ) (before at : ℕ) : Type 0 where
  pub pre : List ℕ
  pub rest : List ℕ
  pub free : List ℕ
  pub rules : ChainRules b (pre ++ before ∷ rest) free
  pub here : at ≡ next b before
  pub ascends : Ascending key_of compare_keys (map (tuple_at b) rest)
  pub done : remove (taken_by sel) (tuples_of b₀) ≡ map (tuple_at b) (pre ++ before ∷ []) ++ remove (taken_by sel) (map (tuple_at b) rest)
  pub size : length b ≡ length b₀
  pub past : past_records b ≡ past_records b₀

module _ (b₀ : List ℕ) (sel : Selection) where
  remove_left : (t : Tuple) (ts : Tuples) → taken_by sel t.key ≡ false → remove (taken_by sel) (t ∷ ts) ≡ t ∷ remove (taken_by sel) ts
  unfolding remove
  remove_left t ts e = ap (λ (u : Bool). cond u (remove (taken_by sel) ts) (t ∷ remove (taken_by sel) ts)) e

  remove_taken : (t : Tuple) (ts : Tuples) → taken_by sel t.key ≡ true → remove (taken_by sel) (t ∷ ts) ≡ remove (taken_by sel) ts
  unfolding remove
  remove_taken t ts e = ap (λ (u : Bool). cond u (remove (taken_by sel) ts) (t ∷ remove (taken_by sel) ts)) e

  -- ---- the start

  -- nothing below the span is taken
  below_kept : (is : List ℕ) (ts : Tuples) → Below key_of compare_keys keys (span_start (span_of sel)) (map (tuple_at b₀) is)
      → remove (taken_by sel) (map (tuple_at b₀) is ++ ts) ≡ map (tuple_at b₀) is ++ remove (taken_by sel) ts
  unfolding tuple_at
  below_kept [] ts h = refl
  below_kept (i ∷ is) ts h =
      remove_left (tuple_at b₀ i) (map (tuple_at b₀) is ++ ts) (below_not_taken sel (key_at b₀ i) h.0)
      ∙ ap (λ (us : Tuples). tuple_at b₀ i ∷ us) (below_kept is ts h.1)

  -- behind the last record below the span
  start_placed : (before at : ℕ) (p : Place) → Linked b₀ → p ≡ place_in (key_at b₀) (span_start (span_of sel)) 0 (used_of b₀) → p.before ≢ 0
      → before ≡ p.before → at ≡ next b₀ before → Inside b₀ before × Sweeping b₀ sel b₀ before at
  unfolding tuples_of
  start_placed before at p L e h eb ea =
      let A = at_place b₀ (span_start (span_of sel)) p L e in
      let s = snoc A.pre (λ z. h (A.last ∙ ap (last_of 0) z)) 0 in
      let passed : A.pre ≡ s.0 ++ (before ∷ []) = s.1 ∙ ap (λ (i : ℕ). s.0 ++ (i ∷ [])) (sym A.last ∙ sym eb) in
      let used : used_of b₀ ≡ s.0 ++ before ∷ A.post =
      A.split ∙ ap (λ (is : List ℕ). is ++ A.post) passed ∙ append_assoc s.0 (before ∷ []) A.post in
      let R : ChainRules b₀ (s.0 ++ before ∷ A.post) (free_of b₀) = subst (λ (us : List ℕ). ChainRules b₀ us (free_of b₀)) used L.chains in
      let w =
      within_right (capacity_of b₀) s.0 (before ∷ A.post)
      (chain_within (next b₀) (capacity_of b₀) (word b₀ 1) (s.0 ++ before ∷ A.post) R.used_chain R.used_head R.nexts) in (
        inside b₀ before w.0 w.1,
        record {
          pre = s.0;
          rest = A.post;
          free = free_of b₀;
          rules = R;
          here = ea;
          ascends = A.ascends;
          done =
              ap (λ (is : List ℕ). remove (taken_by sel) (map (tuple_at b₀) is)) A.split
              ∙ ap (remove (taken_by sel)) (map-append (tuple_at b₀) A.pre A.post)
              ∙ below_kept A.pre (map (tuple_at b₀) A.post) A.below
              ∙ ap (λ (is : List ℕ). map (tuple_at b₀) is ++ remove (taken_by sel) (map (tuple_at b₀) A.post)) passed;
          size = refl;
          past = refl;
        },
      )

  -- where no record is below the span only UNIVERSE has been walked
  start_first : (before at : ℕ) → Linked b₀ → taken_by sel (space_key 0) ≡ false → before ≡ word b₀ 1 → at ≡ next b₀ before
      → Inside b₀ before × Sweeping b₀ sel b₀ before at
  unfolding tuples_of tuple_at
  start_first before at L universe eb ea = go (used_of b₀) refl
    where
      go : (used : List ℕ) → used_of b₀ ≡ used → Inside b₀ before × Sweeping b₀ sel b₀ before at
      go [] e = absurd (none-ne-some _ (sym (ap (λ (is : List ℕ). first_key (map (tuple_at b₀) is)) e) ∙ L.first))
      go (u ∷ rest) e =
          let R : ChainRules b₀ (u ∷ rest) (free_of b₀) = subst (λ (us : List ℕ). ChainRules b₀ us (free_of b₀)) e L.chains in
          let w = chain_within (next b₀) (capacity_of b₀) (word b₀ 1) (u ∷ rest) R.used_chain R.used_head R.nexts in
          let same : u ≡ before = R.used_chain.1 ∙ sym eb in
          let first : key_at b₀ u ≡ space_key 0 = some-injective _ _ (sym (ap (λ (is : List ℕ). first_key (map (tuple_at b₀) is)) e) ∙ L.first) in (
            subst (Inside b₀) same (inside b₀ u w.0 w.1),
            record {
              pre = [];
              rest = rest;
              free = free_of b₀;
              rules = subst (λ (i : ℕ). ChainRules b₀ (i ∷ rest) (free_of b₀)) same R;
              here = ea;
              ascends =
                  ascending_tail key_of compare_keys keys (key_at b₀ u) (map (tuple_at b₀) rest)
                  (subst (λ (is : List ℕ). Ascending key_of compare_keys (map (tuple_at b₀) is)) e L.ascends);
              done =
                  ap (λ (is : List ℕ). remove (taken_by sel) (map (tuple_at b₀) is)) e
                  ∙ remove_left (tuple_at b₀ u) (map (tuple_at b₀) rest) (ap (taken_by sel) first ∙ universe)
                  ∙ ap (λ (i : ℕ). tuple_at b₀ i ∷ remove (taken_by sel) (map (tuple_at b₀) rest)) same;
              size = refl;
              past = refl;
            },
          )

  pub sweep_start_lem : (span : Span) (before at : ℕ) → Linked b₀ → taken_by sel (space_key 0) ≡ false → span ≡ span_of sel → before ≡ sweep_start b₀ span
      → at ≡ next b₀ before → Inside b₀ before × Sweeping b₀ sel b₀ before at
  unfolding sweep_start
  sweep_start_lem span before at L universe es eb ea = go (eqb placed.before 0) refl (eb ∙ ap (sweep_start b₀) es)
    where
      placed : Place
      placed = place_in (key_at b₀) (span_start (span_of sel)) 0 (used_of b₀)

      go : (t : Bool) → eqb placed.before 0 ≡ t → before ≡ or_first b₀ placed.before → Inside b₀ before × Sweeping b₀ sel b₀ before at
      go true z e = start_first before at L universe (e ∙ ap (λ (t : Bool). cond t (word b₀ 1) placed.before) z) ea
      go false z e =
          start_placed before at placed L refl (eqb-false placed.before 0 z) (e ∙ ap (λ (t : Bool). cond t (word b₀ 1) placed.before) z) ea

  -- ---- a turn

  module _ (b : List ℕ) (before at : ℕ) (S : Sweeping b₀ sel b before at) where
    -- the records from `at`
    left_chain : Chain (next b) at S.rest
    left_chain =
        let s = chain_split (next b) (word b 1) S.pre (before ∷ S.rest) S.rules.used_chain in
        subst (λ (i : ℕ). Chain (next b) i S.rest) (ap (next b) (sym s.2.1) ∙ sym S.here) s.2.2

    used_within : Within (capacity_of b) (S.pre ++ before ∷ S.rest)
    used_within = chain_within (next b) (capacity_of b) (word b 1) (S.pre ++ before ∷ S.rest) S.rules.used_chain S.rules.used_head S.rules.nexts

    left_within : Within (capacity_of b) (before ∷ S.rest)
    left_within = within_right (capacity_of b) S.pre (before ∷ S.rest) used_within

    left_rest : Rest b at
    left_rest =
        record {
          high = start_within (next b) (capacity_of b) at S.rest left_chain left_within.2;
          rest = S.rest;
          chain = left_chain;
          within = left_within.2;
          short =
              omega (arith, chains_count b (S.pre ++ before ∷ S.rest) S.free S.rules, length-append S.pre (before ∷ S.rest));
        }

    -- before the end `at` is the first of them
    first_left : at ≢ 0 → (more : List ℕ) × (S.rest ≡ at ∷ more)
    first_left h = go S.rest left_chain
      where
        go : (is : List ℕ) → Chain (next b) at is → (more : List ℕ) × (is ≡ at ∷ more)
        go [] c = absurd (h c)
        go (i ∷ is) c = (is, ap (λ (j : ℕ). j ∷ is) c.1)

    pub sweep_inside : at ≢ 0 → Inside b at
    sweep_inside h =
        let f = first_left h in
        let w = subst (Within (capacity_of b)) f.1 left_within.2 in
        inside b at w.0 w.1

    module _ (h : at ≢ 0) where
      more : List ℕ
      more = (first_left h).0

      cut : ChainRules b (S.pre ++ before ∷ at ∷ more) S.free
      unfolding more
      cut = subst (λ (is : List ℕ). ChainRules b (S.pre ++ before ∷ is) S.free) (first_left h).1 S.rules

      parts : Parts (capacity_of b) before at S.pre more S.free
      parts = removing b before at S.pre more S.free cut

      pub sweep_unlinking : Unlinking b before
      sweep_unlinking =
          record {
            there = inside b before parts.low parts.high;
            gone = subst (Inside b) S.here (inside b at parts.moves_low parts.moves_high);
            small = capacity_most b (S.pre ++ before ∷ S.rest) S.free S.rules;
            after = subst (λ (i : ℕ). next b i ≤ capacity_of b) S.here (S.rules.nexts at parts.moves_low parts.moves_high);
            free = S.rules.free_head;
            used = (
              omega (arith, S.rules.counted, length-append S.pre (before ∷ S.rest)),
              omega (arith, S.rules.counted, chains_count b (S.pre ++ before ∷ S.rest) S.free S.rules),
            );
          }

      -- the keys after `at` are above its own
      above_at : Above key_of compare_keys (key_at b at) (map (tuple_at b) more)
      unfolding tuple_at more
      above_at = subst (λ (is : List ℕ). Ascending key_of compare_keys (map (tuple_at b) is)) (first_left h).1 S.ascends

      more_ascends : Ascending key_of compare_keys (map (tuple_at b) more)
      more_ascends = ascending_tail key_of compare_keys keys (key_at b at) (map (tuple_at b) more) above_at

      -- what is left to do, with `at` first
      done_cut : remove (taken_by sel) (tuples_of b₀) ≡ map (tuple_at b) (S.pre ++ before ∷ []) ++ remove (taken_by sel) (tuple_at b at ∷ map (tuple_at b) more)
      unfolding more
      done_cut =
          S.done ∙ ap (λ (is : List ℕ). map (tuple_at b) (S.pre ++ before ∷ []) ++ remove (taken_by sel) (map (tuple_at b) is)) (first_left h).1

      -- `at` is not taken
      kept_turn : taken_by sel (key_at b at) ≡ false → (after : ℕ) → after ≡ next b at → Sweeping b₀ sel b at after
      unfolding tuple_at
      kept_turn e after ea =
          record {
            pre = S.pre ++ before ∷ [];
            rest = more;
            free = S.free;
            rules = subst (λ (is : List ℕ). ChainRules b is S.free) (sym (append_assoc S.pre (before ∷ []) (at ∷ more))) cut;
            here = ea;
            ascends = more_ascends;
            done =
                done_cut
                ∙ ap (λ (ts : Tuples). map (tuple_at b) (S.pre ++ before ∷ []) ++ ts) (remove_left (tuple_at b at) (map (tuple_at b) more) e)
                ∙ sym (append_assoc (map (tuple_at b) (S.pre ++ before ∷ [])) (tuple_at b at ∷ []) (remove (taken_by sel) (map (tuple_at b) more)))
                ∙ ap (λ (ts : Tuples). ts ++ remove (taken_by sel) (map (tuple_at b) more)) (sym (map-append (tuple_at b) (S.pre ++ before ∷ []) (at ∷ [])));
            size = S.size;
            past = S.past;
          }

      -- `at` is taken
      module _ (b' : List ℕ) (eb : b' ≡ remove_after b before) where
        reads : Removed b b' before at
        reads =
            let two : before ≢ at = apart (capacity_of b) before at S.pre more S.free parts in
            subst₂ (λ (x : List ℕ) (i : ℕ). Removed b x before i) (sym eb) (sym S.here)
            (remove_reads b before sweep_unlinking (λ z. two (z ∙ sym S.here)))

        same_tuples : (is : List ℕ) → Within (capacity_of b) is → map (tuple_at b') is ≡ map (tuple_at b) is
        same_tuples [] w = refl
        same_tuples (i ∷ is) w = ap₂ ◌∷◌ (reads.tuple i w.0) (same_tuples is w.2)

        removed_turn : taken_by sel (key_at b at) ≡ true → (after : ℕ) → after ≡ next b at → Sweeping b₀ sel b' before after
        unfolding tuple_at
        removed_turn e after ea =
            record {
              pre = S.pre;
              rest = more;
              free = at ∷ S.free;
              rules = removed_rules b b' before at S.pre more S.free cut reads;
              here = ea ∙ sym reads.next_before;
              ascends = subst (Ascending key_of compare_keys) (sym (same_tuples more parts.post_within)) more_ascends;
              done =
                  done_cut
                  ∙ ap (λ (ts : Tuples). map (tuple_at b) (S.pre ++ before ∷ []) ++ ts) (remove_taken (tuple_at b at) (map (tuple_at b) more) e)
                  ∙ sym (ap₂ (λ (xs ys : Tuples). xs ++ remove (taken_by sel) ys) (same_tuples (S.pre ++ before ∷ []) front_within)
                  (same_tuples more parts.post_within));
              size = reads.size ∙ S.size;
              past = reads.past ∙ S.past;
            }
          where
            front_within : Within (capacity_of b) (S.pre ++ before ∷ [])
            front_within =
                within_append (capacity_of b) S.pre (before ∷ []) parts.pre_within (parts.low, parts.high, tt)

      -- one turn: the walk goes on, with one record less to do
      turn : (left after : ℕ) (b' : List ℕ) → after ≡ next b at → Turned b sel before at left b'
          → (N : Sweeping b₀ sel b' left after) × (N.rest ≡ more)
      unfolding kept_turn removed_turn
      turn left after b' ea T = go (taken_by sel (key_at b at)) refl T.answer T.buffer
        where
          go : (t : Bool) → taken_by sel (key_at b at) ≡ t → left ≡ cond t before at → b' ≡ cond t (remove_after b before) b
              → (N : Sweeping b₀ sel b' left after) × (N.rest ≡ more)
          go true e el eb =
              subst (λ (i : ℕ). (N : Sweeping b₀ sel b' i after) × (N.rest ≡ more)) (sym el) (removed_turn b' eb e after ea, refl)
          go false e el eb =
              subst₂ (λ (x : List ℕ) (i : ℕ). (N : Sweeping b₀ sel x i after) × (N.rest ≡ more)) (sym eb) (sym el) (kept_turn e after ea, refl)

      pub sweep_on : (left after : ℕ) (b' : List ℕ) → after ≡ next b at → Turned b sel before at left b' → Sweeping b₀ sel b' left after
      sweep_on left after b' ea T = (turn left after b' ea T).0

    -- ---- the end: nothing that is left is taken

    none_taken : remove (taken_by sel) (map (tuple_at b) S.rest) ≡ map (tuple_at b) S.rest → Linked b₀ → taken_by sel (space_key 0) ≡ false
        → Edited b₀ b (remove (taken_by sel) (tuples_of b₀))
    none_taken kept L universe =
        let h : Ascending key_of compare_keys (remove (taken_by sel) (tuples_of b₀)) = remove_ascending (taken_by sel) (tuples_of b₀) L.ascends in
        edited b₀ b (S.pre ++ before ∷ S.rest) S.free (remove (taken_by sel) (tuples_of b₀))
        S.rules
        (sym (S.done
        ∙ ap (λ (ts : Tuples). map (tuple_at b) (S.pre ++ before ∷ []) ++ ts) kept
        ∙ sym (map-append (tuple_at b) (S.pre ++ before ∷ []) S.rest)
        ∙ ap (map (tuple_at b)) (append_assoc S.pre (before ∷ []) S.rest)))
        h
        (universe_first (remove (taken_by sel) (tuples_of b₀)) h
        (present_remove (space_key 0) (taken_by sel) (tuples_of b₀)
        ∙ and_both (present (space_key 0) (tuples_of b₀)) _ (first_universe (tuples_of b₀) L.first) (no_not (taken_by sel (space_key 0)) universe)))
        S.size S.past

    -- the chain ends
    pub sweep_end : at ≡ 0 → Linked b₀ → taken_by sel (space_key 0) ≡ false → Edited b₀ b (remove (taken_by sel) (tuples_of b₀))
    unfolding left_rest
    sweep_end z L universe =
        let none_left : S.rest ≡ [] = at_end b at left_rest z in
        none_taken
        (ap (λ (is : List ℕ). remove (taken_by sel) (map (tuple_at b) is)) none_left ∙ nothing_more ∙ sym (ap (map (tuple_at b)) none_left)) L universe
      where
        nothing_more : remove (taken_by sel) [] ≡ []
        nothing_more = unfold remove in refl

    -- nothing above a key beyond the span is taken
    above_kept : (j : Key) → beyond (span_of sel) j ≡ true → (is : List ℕ) → Above key_of compare_keys j (map (tuple_at b) is)
        → remove (taken_by sel) (map (tuple_at b) is) ≡ map (tuple_at b) is
    unfolding tuple_at
    above_kept j e [] h = unfold remove in refl
    above_kept j e (i ∷ is) h =
        remove_left (tuple_at b i) (map (tuple_at b) is) (after_not_taken sel j (key_at b i) e h.0)
        ∙ ap (λ (us : Tuples). tuple_at b i ∷ us)
        (above_kept j e is (above_less key_of compare_keys keys j (key_at b i) (map (tuple_at b) is) h.0 h.1))

    -- the walk has left the span
    pub sweep_beyond : at ≢ 0 → (span : Span) (key : Key) (t : Bool) → span ≡ span_of sel → key ≡ key_at b at → t ≡ beyond span key → t ≡ true → Linked b₀
        → taken_by sel (space_key 0) ≡ false → Edited b₀ b (remove (taken_by sel) (tuples_of b₀))
    unfolding tuple_at more
    sweep_beyond h span key t es ek et yes' L universe =
        let past_span : beyond (span_of sel) (key_at b at) ≡ true = sym (ap₂ beyond es ek) ∙ sym et ∙ yes' in
        let split : S.rest ≡ at ∷ more h = (first_left h).1 in
        none_taken
        (ap (λ (is : List ℕ). remove (taken_by sel) (map (tuple_at b) is)) split
        ∙ remove_left (tuple_at b at) (map (tuple_at b) (more h)) (beyond_not_taken sel (key_at b at) past_span)
        ∙ ap (λ (us : Tuples). tuple_at b at ∷ us) (above_kept (key_at b at) past_span (more h) (above_at h))
        ∙ sym (ap (map (tuple_at b)) split))
        L
        universe

-- fewer records are left after a turn
pub sweep_less : (b₀ : List ℕ) (sel : Selection) (b : List ℕ) (before at : ℕ) (S : Sweeping b₀ sel b before at) → at ≢ 0
    → (left after : ℕ) (b' : List ℕ) → after ≡ next b at → Turned b sel before at left b' → remaining b' after < remaining b at
unfolding left_rest more
sweep_less b₀ sel b before at S h left after b' ea T =
    let n = turn b₀ sel b before at S h left after b' ea T in
    omega (
      arith,
      remaining_is b at (left_rest b₀ sel b before at S),
      remaining_is b' after (left_rest b₀ sel b' left after n.0),
      ap length n.1,
      ap length (first_left b₀ sel b before at S h).1,
    )
