-- Every step keeps the state good: strictly ascending, with (0,0,0,0) first, nothing naming a missing node or space, at most C tuples.
use mathlib.Core.Bool.{Bool, true, false, cond, not, ◌&&◌, ◌||◌, false≢true, true≢false}
use mathlib.Core.List.{List, [], ◌∷◌}
use mathlib.Core.Logic.{⊎_elim, ◌≢◌}
use mathlib.Core.Option.{Option, none, some, some-ne-none}
use mathlib.Core.Path.{◌≡◌, refl, sym, ◌∙◌, subst}
use Prim.Native.Nat.{ℕ, ◌+◌, ◌≤◌}
use native.Mathlib.Omega.{arith}
use lib.Dec.{eqb, ltb, leb}
use lib.ListN.{length}
use borrow.Author.Tests.{eqb-false, ltb-false, leb-true}
use Rattle.model.specs.declared.Call.{Call}
use Rattle.model.specs.declared.Fields.{Fields}
use Rattle.model.specs.declared.Space.{Space}
use Rattle.model.specs.declared.Space.TheVariants.{Universe, Numbered, Nothing}
use Rattle.model.specs.declared.Pair.{Pair}
use Rattle.model.specs.Ordered.{holds}
use Rattle.model.specs.declared.Key.{Key}
use Rattle.model.specs.Keys.{most_name, space_key, node_key, edge_key, same_key}
use Rattle.model.specs.Tuples.{Tuples, present, add_all, missing, assign, assign_all, remove}
use Rattle.model.specs.declared.Direction.{Direction}
use Rattle.model.specs.declared.Direction.TheVariants.{Outpointing, Inpointing, Adjacent}
use Rattle.model.specs.declared.Listing.{Listing}
use Rattle.model.specs.declared.Object.{Object}
use Rattle.model.specs.declared.Operator.{Operator}
use Rattle.model.specs.declared.Operator.TheVariants.{Create, Bind, Value as Values, Exists, Destroy, List as Lists}
use Rattle.model.specs.declared.Refusal.{Refusal}
use Rattle.model.specs.declared.Removal.{Removal}
use Rattle.model.specs.Operators.{table, operator_of, within, reads_of}
use Rattle.model.specs.Pairs.{node_of, member, pairs_of, node_names, with_edge, EveryPair}
use Rattle.model.specs.Steps.{space_number, n_of, g_of, m_of, v_of, s_of, fields_of, decoded, object_keys, created, node_taken, remove_nodes, destroyed, would_add, after}
use Rattle.model.specs.Refusals.{Stop, first, zero_space, is_universe, is_nothing, selects_nothing, no_operator, zero_name, destroys_universe, space_absent, node_absent, second_absent, edge_absent, list_short, full, refusal_of}
use Rattle.model.specs.Machine.{FieldsFit, Outcome, step, idle, outcome_of, machine}
use Rattle.model.specs.Numbers.{every_up_to}
use Rattle.model.specs.Rules.{Has, Small, TupleRules}
use Rattle.model.specs.Entries.{PointsOut, PointsIn, IsPair}
use Rattle.model.proofs.Bools.{or_cases, or_left, or_right, or_no_left, or_no_right, and_left, and_right, and_both, and_no, not_no}
use Rattle.model.proofs.Numbers.{every_up_to_lem}
use Rattle.model.proofs.Tuples.{same_key_lem, own_key, among, present_add_all, length_add_all, length_remove, length_assign}
use Rattle.model.proofs.Rules.{has_universe, assign_all_rules, Fitting, add_all_rules, remove_rules}
use Rattle.model.proofs.Taken.{edges_fair, node_fair, NodeNamed, remove_nodes_rules, space_fair}
use Rattle.model.proofs.Refusals.{either_outcome, looked_up}
use Rattle.model.proofs.Entries.{Member, same_pair, own_pair, pairs_sound, nodes_sound, only_sound}

-- ---- a call that is not stopped, and whose space is looked up, has passed each condition

pub record Passed (C : ℕ) (ts : Tuples) (c : Call) (room : ℕ) : Type 0 where
  pub selects : selects_nothing c ≡ false
  pub operator : no_operator c ≡ false
  pub names : zero_name c ≡ false
  pub universe : destroys_universe c ≡ false
  pub space : space_absent (decoded c) ts ≡ false
  pub node : node_absent (decoded c) ts ≡ false
  pub second : second_absent (decoded c) ts ≡ false
  pub edge : edge_absent (decoded c) ts ≡ false
  pub list : list_short (decoded c) ts room ≡ false
  pub records : full C (decoded c) ts ≡ false

pub first_passed : (x : Stop) (xs : List Stop) → first (x ∷ xs) ≡ none → (x.applies ≡ false) × (first xs ≡ none)
unfolding first
first_passed x xs e = go x.applies e
  where
    go : (b : Bool) → cond b (some x.condition) (first xs) ≡ none → (b ≡ false) × (first xs ≡ none)
    go true f = absurd (some-ne-none _ f)
    go false f = (refl, f)

pub passed : (C : ℕ) (ts : Tuples) (c : Call) (room : ℕ) → selects_nothing c ≡ false → refusal_of C ts c room ≡ none → Passed C ts c room
passed C ts c room selects e =
    let p2 = first_passed _ _ (sym (looked_up C ts c room selects) ∙ e) in
    let p3 = first_passed _ _ p2.1 in
    let p4 = first_passed _ _ p3.1 in
    let p5 = first_passed _ _ p4.1 in
    let p6 = first_passed _ _ p5.1 in
    let p7 = first_passed _ _ p6.1 in
    let p8 = first_passed _ _ p7.1 in
    let p9 = first_passed _ _ p8.1 in
    let p10 = first_passed _ _ p9.1 in
    record {
      selects = selects;
      operator = p2.0;
      names = p3.0;
      universe = p4.0;
      space = p5.0;
      node = p6.0;
      second = p7.0;
      edge = p8.0;
      list = p9.0;
      records = p10.0;
    }

-- ---- what the table of operators and the ranges of numbers say of each other

-- is condition 5 tested
abbrev space_tested : ℕ → Bool
space_tested o = not (eqb o 51 || within 54 55 o)

-- what a step and its list need of an operator's number
abbrev pub agrees : Operator → ℕ → Bool
agrees (Create (Object.P d)) o =
    (reads_of o).n && ((reads_of o).g && ((reads_of o).m && ((reads_of o).s && (within 1 44 o && space_tested o))))
agrees (Create Object.UN) o = (reads_of o).n && ((reads_of o).s && space_tested o)
agrees (Create Object.US) o = true
agrees (Bind x) o = true
agrees (Values x) o = true
agrees (Exists x) o = true
agrees (Destroy (Removal.P d)) o = (reads_of o).g && (reads_of o).m
agrees (Destroy (Removal.G d)) o = true
agrees (Destroy (Removal.GG d)) o = (reads_of o).g
agrees (Destroy (Removal.GN d)) o = (reads_of o).m
agrees (Destroy (Removal.N d)) o = true
agrees (Destroy (Removal.NG d)) o = (reads_of o).g
agrees (Destroy Removal.UN) o = (reads_of o).n
agrees (Destroy Removal.US) o = (reads_of o).s && eqb o 55
agrees (Lists (Listing.P d)) o = true
agrees (Lists (Listing.G d)) o = true
agrees (Lists (Listing.GN d)) o = (reads_of o).m
agrees (Lists (Listing.N d)) o = true
agrees (Lists (Listing.NG d)) o = (reads_of o).g
agrees (Lists Listing.UN) o = true
agrees (Lists Listing.US) o = true
agrees (Lists Listing.USn) o = true

agree_all : every_up_to (λ (o : ℕ). agrees (operator_of o) o) 57 ≡ true
unfolding every_up_to operator_of table reads_of
agree_all = refl

-- the number of a call that is not stopped by condition 2
pub agree : (c : Call) → no_operator c ≡ false → agrees (operator_of c.operator) c.operator ≡ true
unfolding no_operator
agree c e =
    let o : ℕ = c.operator in
    let w = not_no (within 1 57 o) e in
    every_up_to_lem (λ (o : ℕ). agrees (operator_of o) o) 57 agree_all o
    (leb-true 1 o (and_left (leb 1 o) (leb o 57) w)) (leb-true o 57 (and_right (leb 1 o) (leb o 57) w))

-- ---- names that are read are not 0

pub n_named : (c : Call) → zero_name c ≡ false → (reads_of c.operator).n ≡ true → n_of c ≢ 0
unfolding zero_name
n_named c e r =
    eqb-false (n_of c) 0 (and_no (reads_of c.operator).n (eqb (n_of c) 0) (or_no_left _ _ (or_no_left _ _ (or_no_left _ _ e))) r)

pub g_named : (c : Call) → zero_name c ≡ false → (reads_of c.operator).g ≡ true → g_of c ≢ 0
unfolding zero_name
g_named c e r =
    eqb-false (g_of c) 0
    (and_no (reads_of c.operator).g (eqb (g_of c) 0) (or_no_right ((reads_of c.operator).n && eqb (n_of c) 0) _ (or_no_left _ _ (or_no_left _ _ e))) r)

pub m_named : (c : Call) → zero_name c ≡ false → (reads_of c.operator).m ≡ true → m_of c ≢ 0
unfolding zero_name
m_named c e r =
    eqb-false (m_of c) 0
    (and_no (reads_of c.operator).m (eqb (m_of c) 0)
    (or_no_right (((reads_of c.operator).n && eqb (n_of c) 0) || ((reads_of c.operator).g && eqb (g_of c) 0)) _ (or_no_left _ _ e)) r)

numbered_named : (s : Space) → is_nothing s ≡ false → zero_space s ≡ false → is_universe s ≡ false → space_number s ≢ 0
unfolding zero_space is_universe is_nothing space_number
numbered_named Universe h e f = absurd (true≢false f)
numbered_named (Numbered s) h e f = eqb-false s.0 0 e
numbered_named Nothing h e f = absurd (true≢false h)

pub s_named : (c : Call) → selects_nothing c ≡ false → zero_name c ≡ false → destroys_universe c ≡ false → (reads_of c.operator).s ≡ true → eqb c.operator 55 ≡ true → s_of c ≢ 0
unfolding selects_nothing zero_name destroys_universe
s_named c h e f r o =
    numbered_named c.s (and_no (reads_of c.operator).s (is_nothing c.s) h r)
    (and_no (reads_of c.operator).s (zero_space c.s)
    (or_no_right (((reads_of c.operator).n && eqb (n_of c) 0) || ((reads_of c.operator).g && eqb (g_of c) 0) || ((reads_of c.operator).m && eqb (m_of c) 0)) _ e)
    r)
    (and_no (eqb c.operator 55) (is_universe c.s) f o)

-- ---- what is looked up is there

space_there_lem : (c : Call) (ts : Tuples) → space_absent (decoded c) ts ≡ false → (reads_of c.operator).s ≡ true → space_tested c.operator ≡ true → Has (space_key (s_of c)) ts
unfolding space_absent
space_there_lem c ts e r t =
    not_no (present (space_key (s_of c)) ts)
    (and_no ((reads_of c.operator).s && space_tested c.operator) (not (present (space_key (s_of c)) ts)) e
    (and_both (reads_of c.operator).s (space_tested c.operator) r t))

node_there_lem : (c : Call) (ts : Tuples) → node_absent (decoded c) ts ≡ false → within 1 44 c.operator ≡ true → Has (node_key (s_of c) (n_of c)) ts
unfolding node_absent
node_there_lem c ts e w =
    not_no (present (node_key (s_of c) (n_of c)) ts)
    (and_no (within 1 44 c.operator || within 46 47 c.operator) (not (present (node_key (s_of c) (n_of c)) ts)) (or_no_left _ _ e)
    (or_left (within 1 44 c.operator) (within 46 47 c.operator) w))

second_there_lem : (c : Call) (ts : Tuples) → second_absent (decoded c) ts ≡ false → (reads_of c.operator).m ≡ true → Has (node_key (s_of c) (m_of c)) ts
unfolding second_absent
second_there_lem c ts e r =
    not_no (present (node_key (s_of c) (m_of c)) ts) (and_no (reads_of c.operator).m (not (present (node_key (s_of c) (m_of c)) ts)) e r)

-- ---- keys that may be added

edge_fits : (us : Tuples) (x a g b : ℕ) → Small (edge_key x a g b) → a ≢ 0 → g ≢ 0 → b ≢ 0
    → Has (node_key x a) us → Has (node_key x b) us → Has (edge_key 0 a g b) us → Fitting us (edge_key x a g b)
edge_fits us x a g b S ha hg hb from to universe =
    record {
      small = S;
      shaped = record { named = λ z. absurd (ha z); ends = (λ z. absurd (hg z), λ z. absurd (hb z)) };
      supported = record { node = λ h z. absurd (hg z); edge = λ h. (from, to, universe) };
    }

node_fits : (us : Tuples) (x n : ℕ) → Small (node_key x n) → n ≢ 0 → Has (space_key x) us → Has (node_key 0 n) us → Fitting us (node_key x n)
node_fits us x n S h space universe =
    record {
      small = S;
      shaped = record { named = λ z. absurd (h z); ends = (λ z. refl, λ z. refl) };
      supported = record { node = λ a b. (space, universe); edge = λ a. absurd (a refl) };
    }

space_fits : (us : Tuples) (x : ℕ) → Small (space_key x) → Fitting us (space_key x)
space_fits us x S =
    record {
      small = S;
      shaped = record { named = λ z. (refl, refl); ends = (λ z. refl, λ z. refl) };
      supported = record { node = λ a b. absurd (a refl); edge = λ a. absurd (a refl) };
    }

abbrev EveryKey : (Key → Type 0) → List Key → Type 0
EveryKey P [] = Unit {0}
EveryKey P (k ∷ ks) = P k × EveryKey P ks

every_among : (P : Key → Type 0) (ks : List Key) → EveryKey P ks → (k : Key) → among k ks ≡ true → P k
unfolding holds
every_among P [] h k e = absurd (false≢true e)
every_among P (j ∷ ks) h k e =
    ⊎_elim (λ f. subst P (sym (same_key_lem k j f)) h.0) (λ f. every_among P ks h.1 k f) (or_cases (same_key k j) (among k ks) e)

here : (k : Key) (ks : List Key) → among k (k ∷ ks) ≡ true
unfolding holds
here k ks = or_left (same_key k k) (among k ks) (own_key k)

there : (k j : Key) (ks : List Key) → among k ks ≡ true → among k (j ∷ ks) ≡ true
unfolding holds
there k j ks e = or_right (same_key k j) (among k ks) e

-- ---- creating

module _ (ts : Tuples) (R : TupleRules ts) (f : Fields) (F : FieldsFit f) where
  add_fitting : (ks : List Key) → EveryKey (Fitting (add_all ks ts)) ks → TupleRules (add_all ks ts)
  add_fitting ks h = add_all_rules ks ts R (every_among (Fitting (add_all ks ts)) ks h)

  kept : (ks : List Key) (j : Key) → Has j ts → Has j (add_all ks ts)
  kept ks j e = present_add_all j ks ts ∙ or_right (among j ks) (present j ts) e

  new : (ks : List Key) (j : Key) → among j ks ≡ true → Has j (add_all ks ts)
  new ks j e = present_add_all j ks ts ∙ or_left (among j ks) (present j ts) e

  zero_small : 0 ≤ most_name
  zero_small = omega arith

  module _ (hn : f.n ≢ 0) where
    -- a node that is in s is in 0
    in_universe : (n : ℕ) → n ≢ 0 → Has (node_key f.s n) ts → Has (node_key 0 n) ts
    in_universe n h e = ((R.nothing_missing (node_key f.s n) e).node h refl).1

    module _ (hg : f.g ≢ 0) (hm : f.m ≢ 0) (Hn : Has (node_key f.s f.n) ts) (Hm : Has (node_key f.s f.m) ts) where
      abbrev edge_here : Key
      edge_here = edge_key f.s f.n f.g f.m

      abbrev back_here : Key
      back_here = edge_key f.s f.m f.g f.n

      abbrev edge_there : Key
      edge_there = edge_key 0 f.n f.g f.m

      abbrev back_there : Key
      back_there = edge_key 0 f.m f.g f.n

      fits_here : (ks : List Key) → among edge_there ks ≡ true → Fitting (add_all ks ts) edge_here
      fits_here ks e =
          edge_fits (add_all ks ts) f.s f.n f.g f.m (record { s = F.s; n = F.n; g = F.g; m = F.m }) hn hg hm (kept ks _ Hn)
          (kept ks _ Hm) (new ks edge_there e)

      fits_back : (ks : List Key) → among back_there ks ≡ true → Fitting (add_all ks ts) back_here
      fits_back ks e =
          edge_fits (add_all ks ts) f.s f.m f.g f.n (record { s = F.s; n = F.m; g = F.g; m = F.n }) hm hg hn (kept ks _ Hm)
          (kept ks _ Hn) (new ks back_there e)

      fits_there : (ks : List Key) → among edge_there ks ≡ true → Fitting (add_all ks ts) edge_there
      fits_there ks e =
          edge_fits (add_all ks ts) 0 f.n f.g f.m (record { s = zero_small; n = F.n; g = F.g; m = F.m }) hn hg hm
          (kept ks _ (in_universe f.n hn Hn)) (kept ks _ (in_universe f.m hm Hm)) (new ks edge_there e)

      fits_back_there : (ks : List Key) → among back_there ks ≡ true → Fitting (add_all ks ts) back_there
      fits_back_there ks e =
          edge_fits (add_all ks ts) 0 f.m f.g f.n (record { s = zero_small; n = F.m; g = F.g; m = F.n }) hm hg hn
          (kept ks _ (in_universe f.m hm Hm)) (kept ks _ (in_universe f.n hn Hn)) (new ks back_there e)

      pair_rules : (d : Direction) → TupleRules (add_all (created (Object.P d) f) ts)
      unfolding created object_keys
      pair_rules Outpointing =
          let ks = edge_here ∷ edge_there ∷ [] in
          let e = there edge_there edge_here (edge_there ∷ []) (here edge_there []) in
          add_fitting ks (fits_here ks e, (fits_there ks e, tt))
      pair_rules Inpointing =
          let ks = back_here ∷ back_there ∷ [] in
          let e = there back_there back_here (back_there ∷ []) (here back_there []) in
          add_fitting ks (fits_back ks e, (fits_back_there ks e, tt))
      pair_rules Adjacent =
          let ks = edge_here ∷ back_here ∷ edge_there ∷ back_there ∷ [] in
          let e = there edge_there edge_here _ (there edge_there back_here _ (here edge_there (back_there ∷ []))) in
          let f = there back_there edge_here _ (there back_there back_here _ (there back_there edge_there _ (here back_there []))) in
          add_fitting ks (fits_here ks e, (fits_back ks f, (fits_there ks e, (fits_back_there ks f, tt))))

    node_rules : Has (space_key f.s) ts → TupleRules (add_all (created Object.UN f) ts)
    unfolding created object_keys
    node_rules Hs =
        let k = node_key f.s f.n in
        let j = node_key 0 f.n in
        let ks = k ∷ j ∷ [] in
        let e = there j k (j ∷ []) (here j []) in
        let S : Small k = record { s = F.s; n = F.n; g = zero_small; m = zero_small } in
        let S₀ : Small j = record { s = zero_small; n = F.n; g = zero_small; m = zero_small } in
        add_fitting ks (
          node_fits (add_all ks ts) f.s f.n S hn (kept ks _ Hs) (new ks j e),
          (node_fits (add_all ks ts) 0 f.n S₀ hn (kept ks _ (has_universe ts R)) (new ks j e), tt),
        )

  space_rules : TupleRules (add_all (created Object.US f) ts)
  unfolding created object_keys
  space_rules =
      let ks = space_key f.s ∷ [] in
      add_fitting ks (space_fits (add_all ks ts) f.s (record { s = F.s; n = zero_small; g = zero_small; m = zero_small }), tt)

-- ---- removing nodes that were collected

pub every_member : (P : Pair → Type 0) (ps : List Pair) → ((q : Pair) → Member q ps → P q) → EveryPair P ps
unfolding holds
every_member P [] h = tt
every_member P (p ∷ ps) h = (h p (or_left (same_pair p p) (member p ps) (own_pair p)), every_member P ps (λ q e. h q (or_right (same_pair q p) (member q ps) e)))

-- the node of a pair is named
pub pair_named : (d : Direction) (s n : ℕ) (ts : Tuples) → TupleRules ts → (p : Pair) → IsPair d s n ts p → NodeNamed p
pair_named d s n ts R p = go d
  where
    out : PointsOut s n ts p → NodeNamed p
    out h z = h.0 ((R.shaped _ h.1).ends.1 z)

    in' : PointsIn s n ts p → NodeNamed p
    in' h z = h.0 ((R.shaped _ h.1).named z).0

    go : (d : Direction) → IsPair d s n ts p → NodeNamed p
    go Outpointing h = out h
    go Inpointing h = in' h
    go Adjacent h = ⊎_elim out in' h

pub names_named : (ps : List Pair) → ((p : Pair) → Member p ps → NodeNamed p) → EveryPair NodeNamed (node_names ps)
names_named ps h =
    every_member NodeNamed (node_names ps)
    (λ q e. let r = nodes_sound ps q e in subst NodeNamed (sym r.2) (h r.0 r.1))

-- ---- every step

pub after_rules : (op : Operator) (C : ℕ) (ts : Tuples) (c : Call) (room : ℕ) → TupleRules ts → FieldsFit (fields_of c) → Passed C ts c room
    → agrees op c.operator ≡ true → TupleRules (after op (fields_of c) ts)
unfolding after destroyed
after_rules (Create (Object.P d)) C ts c room R F P a =
    let a₁ = and_right (reads_of c.operator).n _ a in
    let a₂ = and_right (reads_of c.operator).g _ a₁ in
    let a₃ = and_right (reads_of c.operator).m _ a₂ in
    let a₄ = and_right (reads_of c.operator).s _ a₃ in
    let m_read = and_left (reads_of c.operator).m _ a₂ in
    pair_rules ts R (fields_of c) F (n_named c P.names (and_left (reads_of c.operator).n _ a)) (g_named c P.names (and_left (reads_of c.operator).g _ a₁))
    (m_named c P.names m_read) (node_there_lem c ts P.node (and_left (within 1 44 c.operator) _ a₄)) (second_there_lem c ts P.second m_read) d
after_rules (Create Object.UN) C ts c room R F P a =
    let a₁ = and_right (reads_of c.operator).n _ a in
    node_rules ts R (fields_of c) F (n_named c P.names (and_left (reads_of c.operator).n _ a))
    (space_there_lem c ts P.space (and_left (reads_of c.operator).s _ a₁) (and_right (reads_of c.operator).s _ a₁))
after_rules (Create Object.US) C ts c room R F P a = space_rules ts R (fields_of c) F
after_rules (Bind o) C ts c room R F P a = assign_all_rules (object_keys o (s_of c) (fields_of c)) (v_of c) ts R
after_rules (Values o) C ts c room R F P a = R
after_rules (Exists o) C ts c room R F P a = R
after_rules (Destroy (Removal.P d)) C ts c room R F P a = remove_rules _ ts (edges_fair d (s_of c) (n_of c) _) R
after_rules (Destroy (Removal.G d)) C ts c room R F P a = remove_rules _ ts (edges_fair d (s_of c) (n_of c) _) R
after_rules (Destroy (Removal.GG d)) C ts c room R F P a = remove_rules _ ts (edges_fair d (s_of c) (n_of c) _) R
after_rules (Destroy (Removal.GN d)) C ts c room R F P a = remove_rules _ ts (edges_fair d (s_of c) (n_of c) _) R
after_rules (Destroy (Removal.N d)) C ts c room R F P a =
    remove_nodes_rules (s_of c) _ ts
    (names_named (pairs_of d (s_of c) (n_of c) ts) (λ p e. pair_named d (s_of c) (n_of c) ts R p (pairs_sound d (s_of c) (n_of c) ts p e))) R
after_rules (Destroy (Removal.NG d)) C ts c room R F P a =
    remove_nodes_rules (s_of c) _ ts
    (names_named (with_edge (g_of c) (pairs_of d (s_of c) (n_of c) ts))
    (λ p e. pair_named d (s_of c) (n_of c) ts R p (pairs_sound d (s_of c) (n_of c) ts p (only_sound _ (pairs_of d (s_of c) (n_of c) ts) p e).0))) R
after_rules (Destroy Removal.UN) C ts c room R F P a = remove_rules _ ts (node_fair (s_of c) (n_of c) (n_named c P.names a)) R
after_rules (Destroy Removal.US) C ts c room R F P a =
    remove_rules _ ts
    (space_fair (s_of c)
    (s_named c P.selects P.names P.universe (and_left (reads_of c.operator).s _ a) (and_right (reads_of c.operator).s _ a))) R
after_rules (Lists l) C ts c room R F P a = R

-- ---- how many tuples there are

pub length_assign_all : (ks : List Key) (v : ℕ) (ts : Tuples) → length (assign_all ks v ts) ≡ length ts
unfolding assign_all
length_assign_all [] v ts = refl
length_assign_all (k ∷ ks) v ts = length_assign_all ks v (assign k v ts) ∙ length_assign k v ts

length_remove_nodes : (s : ℕ) (ps : List Pair) (ts : Tuples) → length (remove_nodes s ps ts) ≤ length ts
unfolding remove_nodes
length_remove_nodes s [] ts = omega arith
length_remove_nodes s (p ∷ ps) ts =
    omega (arith, length_remove_nodes s ps (remove (node_taken s (node_of p)) ts), length_remove (node_taken s (node_of p)) ts)

pub length_destroyed : (r : Removal) (f : Fields) (ts : Tuples) → length (destroyed r f ts) ≤ length ts
unfolding destroyed
length_destroyed (Removal.P d) f ts = length_remove _ ts
length_destroyed (Removal.G d) f ts = length_remove _ ts
length_destroyed (Removal.GG d) f ts = length_remove _ ts
length_destroyed (Removal.GN d) f ts = length_remove _ ts
length_destroyed (Removal.N d) f ts = length_remove_nodes _ _ ts
length_destroyed (Removal.NG d) f ts = length_remove_nodes _ _ ts
length_destroyed Removal.UN f ts = length_remove _ ts
length_destroyed Removal.US f ts = length_remove _ ts

after_length : (op : Operator) (C : ℕ) (ts : Tuples) (f : Fields) → TupleRules ts → length ts ≤ C
    → ltb C (length ts + length (missing (would_add op f) ts)) ≡ false → length (after op f ts) ≤ C
unfolding after would_add
after_length (Create o) C ts f R h e =
    omega (arith, length_add_all (created o f) ts R.ascends, ltb-false C (length ts + length (missing (created o f) ts)) e)
after_length (Bind o) C ts f R h e = omega (arith, length_assign_all (object_keys o f.s f) f.v ts)
after_length (Values o) C ts f R h e = h
after_length (Exists o) C ts f R h e = h
after_length (Destroy r) C ts f R h e = omega (arith, length_destroyed r f ts)
after_length (Lists l) C ts f R h e = h

-- ---- the theorem

-- a good state of a store of C records
pub record Good (C : ℕ) (ts : Tuples) : Type 0 where
  pub rules : TupleRules ts
  pub fits : length ts ≤ C

-- every step keeps the state good
pub machine_good : (C : ℕ) (ts : Tuples) (c : Call) (room : ℕ) → FieldsFit (fields_of c) → Good C ts → Good C (machine C ts c room).state
unfolding machine outcome_of full
machine_good C ts c room F G = go (refusal_of C ts c room) refl
  where
    go : (r : Option Refusal) → refusal_of C ts c room ≡ r → Good C (outcome_of r ts c).state
    go (some condition) e = G
    go none e = either_outcome (λ (o : Outcome). Good C o.state) (selects_nothing c) (idle c ts) (step c ts) (λ t. G) stepped
      where
        stepped : selects_nothing c ≡ false → Good C (step c ts).state
        stepped t =
            let P = passed C ts c room t e in
            record {
              rules = after_rules (operator_of c.operator) C ts c room G.rules F P (agree c P.operator);
              fits = after_length (operator_of c.operator) C ts (fields_of c) G.rules G.fits P.records;
            }
