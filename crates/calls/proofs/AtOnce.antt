-- SIN without a search for its node (specs/AtOnce.antt): where it lists an entry, nothing stops the call.
use mathlib.Core.Bool.{Bool, true, false, cond, not, ◌&&◌}
use mathlib.Core.List.{List, [], ◌∷◌}
use mathlib.Core.Logic.{◌≢◌}
use mathlib.Core.Option.{Option, none}
use mathlib.Core.Path.{◌≡◌, refl, sym, ap, ◌∙◌, subst}
use Prim.Native.Nat.{ℕ, ◌+◌, ◌≤◌}
use native.Mathlib.Omega.{arith}
use lib.Dec.{eqb, leb, ltb}
use lib.ListN.{length}
use borrow.Author.Tests.{eqb-true, eq-eqb, ne_eqb, le-ltb, ltb-false}
use Rattle.std.specs.Prelude.{Result, Ok, Some, None}
use Rattle.std.specs.Prelude.{Option as Maybe}
use Rattle.model.specs.declared.Answer.{Answer}
use Rattle.model.specs.declared.Answer.TheVariants.{List as Listed}
use Rattle.model.specs.declared.Call.{Call}
use Rattle.model.specs.declared.Fields.{Fields}
use Rattle.model.specs.declared.Key.{Key}
use Rattle.model.specs.declared.Operator.{Operator}
use Rattle.model.specs.declared.Operator.TheVariants.{List as Lists}
use Rattle.model.specs.declared.Pair.{Pair}
use Rattle.model.specs.declared.Refusal.{Refusal}
use Rattle.model.specs.Keys.{space_key, node_key, edge_key}
use Rattle.model.specs.Operators.{table, operator_of, within, reads_of, row_of}
use Rattle.model.specs.Ordered.{holds}
use Rattle.model.specs.Pairs.{edge_of, node_of}
use Rattle.model.specs.Tuples.{Tuples, present, any_present, missing}
use Rattle.model.specs.Rules.{Has, TupleRules}
use Rattle.model.specs.Entries.{PointsIn}
use Rattle.layouts.specs.Buffer.{capacity_of, tuples_of, is_store}
use Rattle.model.specs.Steps.{Reply, pairs, n_of, s_of, fields_of, decoded, first_argument, listed, would_list, would_add, reply}
use Rattle.model.specs.Refusals.{first, worked_on, space_absent, node_absent, second_absent, edge_absent, list_short, full, selects_nothing, of_call, of_tuples, refusal_of}
use Rattle.model.specs.Machine.{step, idle, outcome_of, machine}
use Rattle.model.specs.OneCall.{answer_of, list_after, writes, OnStore}
use Rattle.layouts.specs.Stored.{stored}
use Rattle.model.proofs.Bools.{or_left, and_left, and_right, and_both, not_yes, not_no, neither, failed, clash}
use Rattle.model.proofs.Entries.{Member, same_pair, own_pair, listed_sound}
use Rattle.model.proofs.Refusals.{reading}
use Rattle.layouts.proofs.Store.{tuples_fit}
use Rattle.edit.proofs.Built.{store_linked, store_tuples}
use Rattle.entries.specs.Queries.{written_pairs}
use Rattle.listings.proofs.Asked.{surely_not_short}
use Rattle.refusals.proofs.Stops.{passes, nothing_left, all_pass}
use Rattle.refusals.specs.Checks.{checked, of_store}
use Rattle.calls.specs.AtOnce.{sin, at_once, listed_at_once, some_count}

-- ---- how many entries there are

count_some : (ps : List Pair) (k : ℕ) → k ≡ length ps → k ≢ 0 → Some k ≡ some_count ps
unfolding some_count
count_some [] k K h = absurd (h K)
count_some (p ∷ ps) k K h = ap Some K

count_none : (ps : List Pair) (k : ℕ) → k ≡ length ps → k ≡ 0 → None ≡ some_count ps
unfolding some_count
count_none [] k K z = refl
count_none (p ∷ ps) k K z = absurd (omega (arith, K))

counted : (ps : List Pair) (k : ℕ) → Some k ≡ some_count ps → (k ≡ length ps) × (k ≢ 0)
unfolding some_count
counted [] k e = cc
counted (p ∷ ps) k e = let same : k ≡ length (p ∷ ps) = cc in (same, λ z. omega (arith, same))

-- ---- an entry shows what the call names

-- a list that is not empty has an entry, and so an edge to n
edge_in : (f : Fields) (ts : Tuples) → TupleRules ts → length (listed sin f ts) ≢ 0 → (p : Pair) × PointsIn f.s f.n ts p
unfolding holds
edge_in f ts R h = go (listed sin f ts) refl h
  where
    go : (ps : List Pair) → listed sin f ts ≡ ps → length ps ≢ 0 → (p : Pair) × PointsIn f.s f.n ts p
    go [] e k = absurd (k refl)
    go (q ∷ qs) e k =
        let m : Member q (q ∷ qs) = or_left (same_pair q q) _ (own_pair q) in
        let i = listed_sound ts R sin f q (subst (Member q) (sym e) m) in
        (i.0, i.1)

-- space s, node n in it, and node n in UNIVERSE
record There (s n : ℕ) (ts : Tuples) : Type 0 where
  space : Has (space_key s) ts
  node : Has (node_key s n) ts
  also : Has (node_key 0 n) ts

ends_there : (s n : ℕ) (ts : Tuples) (p : Pair) → TupleRules ts → PointsIn s n ts p → There s n ts
ends_there s n ts p R h =
    let k : Key = edge_key s (node_of p) (edge_of p) n in
    let node : Has (node_key s n) ts = ((R.nothing_missing k h.1).edge h.0).1 in
    let named : n ≢ 0 = λ z. h.0 ((R.shaped k h.1).ends.1 z) in
    let below = (R.nothing_missing (node_key s n) node).node named refl in
    record { space = below.0; node = node; also = below.1 }

-- ---- so that nothing stops the call

-- a test that asks for something absent fails where it is there
not_absent : (a b : Bool) → b ≡ true → (a && not b) ≡ false
not_absent true true e = refl
not_absent true false e = sym e
not_absent false b e = refl

-- what the number 40 says
sin_operator : (c : Call) → c.operator ≡ 40 → operator_of c.operator ≡ Lists sin
unfolding operator_of table
sin_operator c e = ap operator_of e

module _ (C : ℕ) (ts : Tuples) (c : Call) (room : ℕ) (e : c.operator ≡ 40) where
  abbrev f : Fields
  f = fields_of c

  second_unread : second_absent (decoded c) ts ≡ false
  unfolding second_absent reads_of
  second_unread = ap (λ (o : ℕ). (reads_of o).m && not (present (node_key f.s f.m) ts)) e

  edge_unasked : edge_absent (decoded c) ts ≡ false
  unfolding edge_absent
  edge_unasked = ap (λ (o : ℕ). within 4 8 o && not (any_present (worked_on (operator_of o) f) ts)) e

  nothing_added : length ts ≤ C → full C (decoded c) ts ≡ false
  unfolding full would_add missing
  nothing_added h =
      ap (λ (op : Operator). ltb C (length ts + length (missing (would_add op f) ts))) (sin_operator c e) ∙ le-ltb C (length ts + 0) (omega arith)

  roomy : leb (length ts) room ≡ true → list_short (decoded c) ts room ≡ false
  unfolding list_short would_list
  roomy g =
      ap (λ (op : Operator). ltb room (length (would_list op f ts))) (sin_operator c e)
      ∙ sym (surely_not_short sin f ts room (leb (length ts) room) refl g)

  space_there_lem : There f.s f.n ts → space_absent (decoded c) ts ≡ false
  unfolding space_absent
  space_there_lem T = not_absent (row_of c.operator).asks.space (present (space_key f.s) ts) T.space

  node_there_lem : There f.s f.n ts → node_absent (decoded c) ts ≡ false
  unfolding node_absent
  node_there_lem T =
      neither ((row_of c.operator).asks.node && not (present (node_key f.s f.n) ts)) _
      (not_absent (row_of c.operator).asks.node (present (node_key f.s f.n) ts) T.node)
      (not_absent (row_of c.operator).asks.universe (present (node_key 0 f.n) ts) T.also)

  none_applies : leb (length ts) room ≡ true → length ts ≤ C → There f.s f.n ts
      → Ok (tt {0}) ≡ checked (tt {0}) (first (of_store C ts (decoded c) room))
  unfolding of_store of_tuples
  none_applies fits h T =
      passes _ _ _ false _ (Ok (tt {0})) (sym (space_there_lem T)) refl
      (passes _ _ _ false _ (Ok (tt {0})) (sym (node_there_lem T)) refl
      (passes _ _ _ false _ (Ok (tt {0})) (sym second_unread) refl
      (passes _ _ _ false _ (Ok (tt {0})) (sym edge_unasked) refl
      (passes _ _ _ false _ (Ok (tt {0})) (sym (roomy fits)) refl (passes _ _ _ false _ (Ok (tt {0})) (sym (nothing_added h)) refl (nothing_left _))))))

-- ---- the call

-- a call that lists and that nothing stops
listed_known : (b l l' : List ℕ) (c : Call) (k : ℕ) → is_store b ≡ true → selects_nothing c ≡ false → operator_of c.operator ≡ Lists sin
    → refusal_of (capacity_of b) (tuples_of b) c (length l) ≡ none → k ≡ length (listed sin (fields_of c) (tuples_of b))
    → l' ≡ written_pairs (listed sin (fields_of c) (tuples_of b)) l → OnStore stored b l c (Ok (Listed k)) b l'
unfolding machine outcome_of reply answer_of list_after writes written_pairs
listed_known b l l' c k store N O pass K L =
    let ts : Tuples = tuples_of b in
    let ps : List Pair = listed sin (fields_of c) ts in
    let A : (machine (capacity_of b) ts c (length l)).answer ≡ pairs (length ps) ps =
    ap (λ (r : Option Refusal). (outcome_of r ts c).answer) pass
    ∙ ap (λ (t : Bool). (cond t (idle c ts) (step c ts)).answer) N
    ∙ ap (λ (op : Operator). reply op (first_argument (decoded c)) (fields_of c) ts) O in
    record {
      answer = ap (λ (n : ℕ). Ok (Listed n)) K ∙ sym (ap answer_of A);
      list = L ∙ sym (ap (λ (r : Reply). list_after r l) A);
      store = store;
      state = sym (reading (capacity_of b) ts c (length l) (ap writes O));
      size = refl;
      past = refl;
      refused = λ n f. refl;
      reading = λ w. refl;
      unselected = λ w. refl;
    }

-- entries that were listed at once are the call's
pub at_once_known : (b l l' : List ℕ) (c : Call) (f : Fields) (n : Maybe ℕ) (k : ℕ) (t : Bool) → is_store b ≡ true → first (of_call c) ≡ none → t ≡ selects_nothing c → t ≡ false
    → f ≡ fields_of c → n ≡ some_count (listed_at_once c.operator f (tuples_of b) (length l)) → n ≡ Some k
    → l' ≡ written_pairs (listed_at_once c.operator f (tuples_of b) (length l)) l → OnStore stored b l c (Ok (Listed k)) b l'
unfolding listed_at_once at_once
at_once_known b l l' c f n k t store p S s F K h L =
    let k_known = counted (entries f) k (sym h ∙ K) in
    go k_known.1 (at_once c.operator (length (tuples_of b)) (length l)) refl (k_known.0 ∙ ap (λ (x : Fields). length (entries x)) F)
    (L ∙ ap (λ (x : Fields). written_pairs (entries x) l) F)
  where
    entries : Fields → List Pair
    entries x = listed_at_once c.operator x (tuples_of b) (length l)

    go : k ≢ 0 → (u : Bool) → at_once c.operator (length (tuples_of b)) (length l) ≡ u → k ≡ length (cond u (listed sin (fields_of c) (tuples_of b)) [])
        → l' ≡ written_pairs (cond u (listed sin (fields_of c) (tuples_of b)) []) l → OnStore stored b l c (Ok (Listed k)) b l'
    go some_entry false e K L = absurd (some_entry K)
    go some_entry true e K L =
        let ts : Tuples = tuples_of b in
        let R = store_tuples b store in
        let N = sym S ∙ s in
        let E : c.operator ≡ 40 = eqb-true c.operator 40 (and_left (eqb c.operator 40) _ e) in
        let q = edge_in (fields_of c) ts R (λ z. some_entry (K ∙ z)) in
        let T = ends_there (s_of c) (n_of c) ts q.0 R q.1 in
        let none_does = none_applies (capacity_of b) ts c (length l) E (and_right (eqb c.operator 40) _ e) (tuples_fit b (store_linked b store).chains) T in
        listed_known b l l' c k store N (sin_operator c E) (all_pass (capacity_of b) ts c (length l) p N none_does) K L

-- where there is none, the list is as it was ..
pub none_listed : (ps : List Pair) (l l' : List ℕ) (n : Maybe ℕ) → n ≡ some_count ps → n ≡ None → l' ≡ written_pairs ps l → l' ≡ l
unfolding written_pairs some_count
none_listed [] l l' n N z L = L
none_listed (p ∷ ps) l l' n N z L = cc

-- .. and the rest of the call finds it so
pub as_it_was : (b l l₁ b' l' : List ℕ) (c : Call) (a : Result Answer Refusal) → l₁ ≡ l → OnStore stored b l₁ c a b' l' → OnStore stored b l c a b' l'
as_it_was b l l₁ b' l' c a e O = subst (λ (x : List ℕ). OnStore stored b x c a b' l') e O

-- ---- what the function answers

module _ (b l : List ℕ) (number : ℕ) (f : Fields) where
  abbrev entries : List Pair
  entries = listed_at_once number f (tuples_of b) (length l)

  none_at_once : at_once number (length (tuples_of b)) (length l) ≡ false → entries ≡ []
  unfolding listed_at_once
  none_at_once e = ap (λ (t : Bool). cond t (listed sin f (tuples_of b)) []) e

  other_number : number ≢ 40 → entries ≡ []
  unfolding at_once
  other_number h = none_at_once (failed _ (λ t. clash (and_left (eqb number 40) _ t) (ne_eqb number 40 h)))

  pub other_count : number ≢ 40 → None ≡ some_count entries
  other_count h = count_none entries 0 (sym (ap (λ (ps : List Pair). length ps) (other_number h))) refl

  pub other_list : number ≢ 40 → l ≡ written_pairs entries l
  unfolding written_pairs
  other_list h = sym (ap (λ (ps : List Pair). written_pairs ps l) (other_number h))

  module _ (t : Bool) (T : t ≡ leb (length (tuples_of b)) (length l)) where
    no_room_lem : not t ≡ true → entries ≡ []
    unfolding at_once
    no_room_lem e = none_at_once (failed _ (λ u. clash (and_right (eqb number 40) _ u) (sym T ∙ not_yes t e)))

    pub roomless_count : not t ≡ true → None ≡ some_count entries
    roomless_count e = count_none entries 0 (sym (ap (λ (ps : List Pair). length ps) (no_room_lem e))) refl

    pub roomless_list : not t ≡ true → l ≡ written_pairs entries l
    unfolding written_pairs
    roomless_list e = sym (ap (λ (ps : List Pair). written_pairs ps l) (no_room_lem e))

    -- what writing the entries requires
    pub room_enough : not t ≡ false → length (listed sin f (tuples_of b)) ≤ length l
    room_enough e = ltb-false (length l) _ (sym (surely_not_short sin f (tuples_of b) (length l) t T (not_no t e)))

    all_of : number ≡ 40 → not t ≡ false → listed sin f (tuples_of b) ≡ entries
    unfolding listed_at_once at_once
    all_of E e =
        sym (ap (λ (u : Bool). cond u (listed sin f (tuples_of b)) []) (and_both (eqb number 40) _ (eq-eqb number 40 E) (sym T ∙ not_no t e)))

    pub all_count : (k : ℕ) → number ≡ 40 → not t ≡ false → k ≡ length (listed sin f (tuples_of b)) → k ≢ 0 → Some k ≡ some_count entries
    all_count k E e K h = count_some entries k (K ∙ ap (λ (ps : List Pair). length ps) (all_of E e)) h

    pub empty_count : (k : ℕ) → number ≡ 40 → not t ≡ false → k ≡ length (listed sin f (tuples_of b)) → k ≡ 0 → None ≡ some_count entries
    empty_count k E e K z = count_none entries k (K ∙ ap (λ (ps : List Pair). length ps) (all_of E e)) z

    pub all_list : (l' : List ℕ) → number ≡ 40 → not t ≡ false → l' ≡ written_pairs (listed sin f (tuples_of b)) l → l' ≡ written_pairs entries l
    all_list l' E e L = L ∙ ap (λ (ps : List Pair). written_pairs ps l) (all_of E e)
