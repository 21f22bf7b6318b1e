-- How many pairs a call can list: no more than there are tuples, so that 2,048 places are enough for any call.
use mathlib.Core.Bool.{Bool, true, false, cond, ◌&&◌, ◌||◌, false≢true, or-false}
use mathlib.Core.List.{List, [], ◌∷◌, ◌++◌, map}
use mathlib.Core.Option.{some, none-ne-some, some-injective}
use mathlib.Core.Path.{◌≡◌, refl, sym, ap, ◌∙◌, subst}
use Prim.Native.Nat.{ℕ, suc, ◌≤◌, Ordering}
use native.Mathlib.Omega.{arith}
use lib.Dec.{eqb}
use lib.ListN.{length, length-map}
use borrow.Author.Tests.{eqb-true, eq-eqb, ltb-true}
use Rattle.std.specs.Prelude.{Result}
use Rattle.model.specs.declared.Answer.{Answer}
use Rattle.model.specs.declared.Call.{Call}
use Rattle.model.specs.declared.Fields.{Fields}
use Rattle.model.specs.declared.Direction.{Direction}
use Rattle.model.specs.declared.Direction.TheVariants.{Outpointing, Inpointing, Adjacent}
use Rattle.model.specs.declared.Key.{Key}
use Rattle.model.specs.declared.Listing.{Listing}
use Rattle.model.specs.declared.Operator.{Operator}
use Rattle.model.specs.declared.Operator.TheVariants.{Create, Bind, Value as Values, Exists, Destroy, List as Lists}
use Rattle.model.specs.declared.Pair.{Pair}
use Rattle.model.specs.declared.Refusal.{Refusal}
use Rattle.model.specs.declared.Refusal.TheVariants.{ListTooShort, Full}
use Rattle.model.specs.Numbered.{number_of}
use Rattle.model.specs.Ordered.{by_order, put}
use Rattle.model.specs.Keys.{is_node, is_edge}
use Rattle.model.specs.Tuples.{Tuples}
use Rattle.model.specs.Operators.{operator_of}
use Rattle.model.specs.Pairs.{pair, edge_of, node_of, compare_pairs, itself, ascending, gather, only_if, out_pair, in_pair, pairs_at, pairs_of, edge_names, node_names, only, with_edge, with_node, nodes_in, spaces_in, spaces_with}
use Rattle.model.specs.Steps.{Reply, fields_of, decoded, listed, would_list}
use Rattle.model.specs.Refusals.{Stop, stop, first, selects_nothing, list_short, full, of_call, of_tuples, if_looked_up, earlier, refusal_of}
use Rattle.model.specs.Machine.{machine}
use Rattle.model.specs.Layouts.{Layout, Lawful}
use Rattle.model.specs.OneCall.{answer_of, list_count, OnStore}
use Rattle.model.proofs.Order.{pairs}
use Rattle.model.proofs.Bools.{or_left, or_right, and_right, and_both}
use Rattle.model.proofs.Refusals.{answer_form}

-- ---- ascending lists

length_put : (p : Pair) (ps : List Pair) → length (put itself compare_pairs p ps) ≤ suc (length ps)
unfolding put
length_put p [] = omega arith
length_put p (q ∷ ps) = go (compare_pairs p q) (length_put p ps)
  where
    go : (o : Ordering) → length (put itself compare_pairs p ps) ≤ suc (length ps)
        → length (by_order o (p ∷ q ∷ ps) (q ∷ ps) (q ∷ put itself compare_pairs p ps)) ≤ suc (suc (length ps))
    go Ordering.lt h = omega arith
    go Ordering.eq h = omega arith
    go Ordering.gt h = omega arith

pub length_ascending : (ps : List Pair) → length (ascending ps) ≤ length ps
unfolding ascending
length_ascending [] = omega arith
length_ascending (p ∷ ps) = omega (arith, length_put p (ascending ps), length_ascending ps)

-- "each once": a pair that is there is not put a second time
put_again : (p : Pair) (ps : List Pair) → put itself compare_pairs p (put itself compare_pairs p ps) ≡ put itself compare_pairs p ps
unfolding put
put_again p [] = ap (λ (o : Ordering). by_order o (p ∷ p ∷ []) (p ∷ []) (p ∷ p ∷ [])) (pairs.compares.reflexive p)
put_again p (q ∷ ps) = go (compare_pairs p q) refl (put_again p ps)
  where
    placed : Ordering → List Pair
    placed o = by_order o (p ∷ q ∷ ps) (q ∷ ps) (q ∷ put itself compare_pairs p ps)

    go : (o : Ordering) → compare_pairs p q ≡ o → put itself compare_pairs p (put itself compare_pairs p ps) ≡ put itself compare_pairs p ps
        → put itself compare_pairs p (placed o) ≡ placed o
    go Ordering.lt e h = ap (λ (x : Ordering). by_order x (p ∷ p ∷ q ∷ ps) (p ∷ q ∷ ps) (p ∷ put itself compare_pairs p (q ∷ ps))) (pairs.compares.reflexive p)
    go Ordering.eq e h = ap placed e
    go Ordering.gt e h =
        ap (λ (x : Ordering). by_order x (p ∷ q ∷ put itself compare_pairs p ps) (q ∷ put itself compare_pairs p ps) (q ∷ put itself compare_pairs p (put itself compare_pairs p ps))) e
        ∙ ap (λ (qs : List Pair). q ∷ qs) h

-- ---- one pair for each tuple

-- whatever stands behind them, these pairs make an ascending list longer by one at most
abbrev AtMostOne : List Pair → Type 0
AtMostOne ps = (qs : List Pair) → length (ascending (ps ++ qs)) ≤ suc (length (ascending qs))

one_none : AtMostOne []
one_none qs = omega arith

one_if_lem : (t : Bool) (p : Pair) → AtMostOne (only_if t p)
unfolding ascending
one_if_lem true p qs = length_put p (ascending qs)
one_if_lem false p qs = omega arith

one_where : (t : Bool) (ps : List Pair) → AtMostOne ps → AtMostOne (cond t ps [])
one_where true ps h = h
one_where false ps h = one_none

-- of the two pairs that an edge can give a node, both only if it is a loop, and then they are one
one_adjacent : (n : ℕ) (k : Key) → AtMostOne (out_pair n k ++ in_pair n k)
unfolding ascending out_pair in_pair
one_adjacent n k qs = go (is_edge k && eqb k.n n) (is_edge k && eqb k.m n) refl refl
  where
    out : Pair
    out = pair k.g k.m

    back : Pair
    back = pair k.g k.n

    go : (s t : Bool) → (is_edge k && eqb k.n n) ≡ s → (is_edge k && eqb k.m n) ≡ t
        → length (ascending ((only_if s out ++ only_if t back) ++ qs)) ≤ suc (length (ascending qs))
    go true true e f =
        let from : k.n ≡ n = eqb-true k.n n (and_right (is_edge k) _ e) in
        let to : k.m ≡ n = eqb-true k.m n (and_right (is_edge k) _ f) in
        let same : back ≡ out = ap (pair k.g) (from ∙ sym to) in
        subst (λ (p : Pair). length (put itself compare_pairs out (put itself compare_pairs p (ascending qs))) ≤ suc (length (ascending qs))) (sym same)
        (omega (arith, ap length (put_again out (ascending qs)), length_put out (ascending qs)))
    go true false e f = length_put out (ascending qs)
    go false true e f = length_put back (ascending qs)
    go false false e f = omega arith

one_pair : (d : Direction) (n : ℕ) (k : Key) → AtMostOne (pairs_at d n k)
unfolding pairs_at out_pair in_pair
one_pair Outpointing n k = one_if_lem (is_edge k && eqb k.n n) (pair k.g k.m)
one_pair Inpointing n k = one_if_lem (is_edge k && eqb k.m n) (pair k.g k.n)
one_pair Adjacent n k = one_adjacent n k

gathered : (f : Key → List Pair) → ((k : Key) → AtMostOne (f k)) → (ts : Tuples) → length (ascending (gather f ts)) ≤ length ts
unfolding gather ascending
gathered f h [] = omega arith
gathered f h (t ∷ ts) = omega (arith, h t.key (gather f ts), gathered f h ts)

-- ---- what an S operator lists

length_only : (p : Pair → Bool) (ps : List Pair) → length (only p ps) ≤ length ps
unfolding only
length_only p [] = omega arith
length_only p (q ∷ qs) = go (p q) (length_only p qs)
  where
    go : (t : Bool) → length (only p qs) ≤ length qs → length (cond t (q ∷ only p qs) (only p qs)) ≤ suc (length qs)
    go true h = omega arith
    go false h = omega arith

length_edges : (ps : List Pair) → length (edge_names ps) ≤ length ps
unfolding edge_names
length_edges ps =
    omega (arith, length_ascending (map (λ (p : Pair). pair (edge_of p) 0) ps), length-map ps (λ (p : Pair). pair (edge_of p) 0))

length_nodes : (ps : List Pair) → length (node_names ps) ≤ length ps
unfolding node_names
length_nodes ps =
    omega (arith, length_ascending (map (λ (p : Pair). pair 0 (node_of p)) ps), length-map ps (λ (p : Pair). pair 0 (node_of p)))

module _ (ts : Tuples) where
  pairs_within : (d : Direction) (s n : ℕ) → length (pairs_of d s n ts) ≤ length ts
  unfolding pairs_of
  pairs_within d s n = gathered _ (λ k. one_where (eqb k.s s) (pairs_at d n k) (one_pair d n k)) ts

  -- an S operator lists no more pairs than there are tuples
  pub listed_within : (l : Listing) (f : Fields) → length (listed l f ts) ≤ length ts
  unfolding listed nodes_in spaces_in spaces_with
  listed_within (Listing.P d) f = pairs_within d f.s f.n
  listed_within (Listing.G d) f = omega (arith, length_edges (pairs_of d f.s f.n ts), pairs_within d f.s f.n)
  listed_within (Listing.GN d) f =
      let ps : List Pair = pairs_of d f.s f.n ts in
      omega (arith, length_edges (with_node f.m ps), length_only (λ (p : Pair). eqb (node_of p) f.m) ps, pairs_within d f.s f.n)
  listed_within (Listing.N d) f = omega (arith, length_nodes (pairs_of d f.s f.n ts), pairs_within d f.s f.n)
  listed_within (Listing.NG d) f =
      let ps : List Pair = pairs_of d f.s f.n ts in
      omega (arith, length_nodes (with_edge f.g ps), length_only (λ (p : Pair). eqb (edge_of p) f.g) ps, pairs_within d f.s f.n)
  listed_within Listing.UN f = gathered _ (λ k. one_if_lem (is_node k && eqb k.s f.s) (pair 0 k.n)) ts
  listed_within Listing.US f = gathered _ (λ k. one_if_lem (eqb k.n 0) (pair 0 k.s)) ts
  listed_within Listing.USn f = gathered _ (λ k. one_if_lem (is_node k && eqb k.n f.n) (pair 0 k.s)) ts

  pub would_list_within : (op : Operator) (f : Fields) → length (would_list op f ts) ≤ length ts
  unfolding would_list
  would_list_within (Create o) f = omega arith
  would_list_within (Bind o) f = omega arith
  would_list_within (Values o) f = omega arith
  would_list_within (Exists o) f = omega arith
  would_list_within (Destroy r) f = omega arith
  would_list_within (Lists l) f = listed_within l f

-- ---- on a store

module _ (Y : Layout) (L : Lawful Y) where
  -- a store holds at most 2,048 tuples
  store_most : (b : List ℕ) → Y.is_store b ≡ true → length (Y.state_of b) ≤ 2048
  store_most b e = omega (arith, L.counted b e, L.most b e)

  pub would_most : (b : List ℕ) → Y.is_store b ≡ true → (op : Operator) (f : Fields) → length (would_list op f (Y.state_of b)) ≤ 2048
  would_most b e op f = omega (arith, would_list_within (Y.state_of b) op f, store_most b e)

  -- an answer of the machine lists no more ..
  machine_most : (b : List ℕ) (c : Call) (room : ℕ) → Y.is_store b ≡ true → list_count (answer_of (machine (Y.capacity_of b) (Y.state_of b) c room).answer) ≤ 2048
  unfolding answer_of list_count
  machine_most b c room store =
      answer_form (λ (r : Reply). list_count (answer_of r) ≤ 2048) (Y.capacity_of b) (Y.state_of b) c room (λ condition. omega arith) (λ x. omega arith)
      (λ x k. omega arith) (λ x k. omega arith) (λ v. omega arith) (λ t. omega arith) (omega arith) (λ l. omega (arith, listed_within (Y.state_of b) l (fields_of c), store_most b store))

  -- .. nor does a call
  pub answer_most : (b l b' l' : List ℕ) (c : Call) (a : Result Answer Refusal) → Y.is_store b ≡ true → OnStore Y b l c a b' l' → list_count a ≤ 2048
  answer_most b l b' l' c a store O = subst (λ (x : Result Answer Refusal). list_count x ≤ 2048) (sym O.answer) (machine_most b c _ store)

-- ---- 2,048 places are enough for any call

-- is it this condition
abbrev is_condition : Refusal → Refusal → Bool
is_condition r x = eqb (number_of x) (number_of r)

-- the condition that wins applies
abbrev any_applies : Refusal → List Stop → Bool
any_applies r [] = false
any_applies r (x ∷ xs) = (is_condition r x.condition && x.applies) || any_applies r xs

winner_applies : (r : Refusal) (xs : List Stop) → first xs ≡ some r → any_applies r xs ≡ true
unfolding first
winner_applies r [] e = absurd (none-ne-some _ e)
winner_applies r (x ∷ xs) e = go x.applies (winner_applies r xs) e
  where
    go : (b : Bool) → (first xs ≡ some r → any_applies r xs ≡ true) → cond b (some x.condition) (first xs) ≡ some r
        → ((is_condition r x.condition && b) || any_applies r xs) ≡ true
    go true ih f =
        let same = eq-eqb (number_of x.condition) (number_of r) (ap number_of (some-injective _ _ f)) in
        or_left (is_condition r x.condition && true) (any_applies r xs) (and_both (is_condition r x.condition) true same refl)
    go false ih f = or_right (is_condition r x.condition && false) (any_applies r xs) (ih f)

-- condition 9 wins only where the list is shorter than k
short_applies : (C : ℕ) (ts : Tuples) (c : Call) (room : ℕ) → refusal_of C ts c room ≡ some ListTooShort → list_short (decoded c) ts room ≡ true
unfolding refusal_of earlier of_call of_tuples if_looked_up number_of
short_applies C ts c room e = go (selects_nothing c) (winner_applies ListTooShort _ e)
  where
    go : (t : Bool) → any_applies ListTooShort ((of_call c ++ cond t [] (of_tuples ts (decoded c) room)) ++ cond t [] (stop Full (full C (decoded c) ts) ∷ [])) ≡ true → list_short (decoded c) ts room ≡ true
    go true h = absurd (false≢true h)
    go false h = sym (or-false _) ∙ h

-- on a store no call with 2,048 places or more is refused 9
pub places_enough : (Y : Layout) → Lawful Y → (b : List ℕ) (c : Call) (room : ℕ) → Y.is_store b ≡ true → 2048 ≤ room
    → refusal_of (Y.capacity_of b) (Y.state_of b) c room ≡ some ListTooShort → ⊥
unfolding list_short
places_enough Y L b c room store enough e =
    let short = ltb-true room _ (short_applies (Y.capacity_of b) (Y.state_of b) c room e) in
    omega (arith, short, would_most Y L b store (operator_of c.operator) (fields_of c))
