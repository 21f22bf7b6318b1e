-- Demand 3 in its general form: calls that each meet OneCall, made one after the other from a buffer just prepared, answer as the tuple machine does
-- and leave its tuples (specs/CallLists.antt).
use mathlib.Core.Bool.{true}
use mathlib.Core.List.{List, [], ◌∷◌, map}
use mathlib.Core.Logic.{⊎_elim}
use mathlib.Core.Path.{◌≡◌, refl, sym, ap, ap₂, ◌∙◌, subst}
use Prim.Native.Nat.{ℕ, ◌+◌, ◌*◌, ◌/◌, ◌%◌, ◌≤◌}
use native.Mathlib.Omega.{arith}
use lib.ListN.{length, drop, length-append, length-drop, length-map}
use lib.Seq.{take_at}
use Rattle.std.specs.Prelude.{Result}
use Rattle.model.specs.declared.Call.{Call}
use Rattle.model.specs.declared.Answer.{Answer}
use Rattle.model.specs.declared.Refusal.{Refusal}
use Rattle.model.specs.declared.Fields.{Fields}
use Rattle.model.specs.declared.Pair.{Pair}
use Rattle.model.specs.Keys.{most_name}
use Rattle.model.specs.Tuples.{Tuples, fresh}
use Rattle.model.specs.declared.Direction.{Direction}
use Rattle.model.specs.declared.Direction.TheVariants.{Outpointing, Inpointing, Adjacent}
use Rattle.model.specs.declared.Listing.{Listing}
use Rattle.model.specs.Pairs.{pair, edge_of, node_of, EveryPair}
use Rattle.model.specs.Steps.{Reply, pairs, fields_of, listed}
use Rattle.model.specs.Changes.{added_in, removed_in, all_added, all_removed}
use Rattle.model.specs.Machine.{State, serve, machine, answers, final}
use Rattle.model.specs.Rules.{TupleRules}
use Rattle.model.specs.Entries.{PointsOut, PointsIn, IsPair, Entry}
use Rattle.model.specs.Layouts.{Layout, Lawful}
use Rattle.model.specs.Traces.{Trace, end, then}
use Rattle.model.specs.OneCall.{answer_of, list_count, name_count, pack, unpack, list_after, observed, OnStore}
use Rattle.model.specs.CallLists.{CallMade, OneMade, Exchange, exchange_of, requests, FullExactly, WholeList, Demand3}
use Rattle.model.proofs.Entries.{listed_sound}
use Rattle.model.proofs.Steps.{every_member}
use Rattle.model.proofs.Refusals.{answer_form, full_exactly_lem}
use Rattle.model.proofs.Changes.{counts_the_difference}
use Rattle.model.proofs.Traces.{trace_map}

-- ---- pairs and words

pub record SmallPair (p : Pair) : Type 0 where
  pub edge : edge_of p ≤ most_name
  pub node : node_of p ≤ most_name

-- a pair of names fits a word and comes back from it
pub unpack_pack : (p : Pair) → SmallPair p → unpack (pack p) ≡ p
unfolding unpack pack
unpack_pack p S =
    let e : (edge_of p * name_count + node_of p) / name_count ≡ edge_of p = omega (arith, S.node) in
    let n : (edge_of p * name_count + node_of p) % name_count ≡ node_of p = omega (arith, S.node) in
    λ i. record { edge = record { 0 = e i }; node = record { 0 = n i } }

pub unpack_pack_all : (ps : List Pair) → EveryPair SmallPair ps → map unpack (map pack ps) ≡ ps
unpack_pack_all [] h = refl
unpack_pack_all (p ∷ ps) h = ap₂ ◌∷◌ (unpack_pack p h.0) (unpack_pack_all ps h.1)

-- the pairs that a good state lists are of names
module _ (ts : Tuples) (R : TupleRules ts) where
  pair_small : (d : Direction) (s n : ℕ) (p : Pair) → IsPair d s n ts p → SmallPair p
  pair_small d s n p = go d
    where
      out : PointsOut s n ts p → SmallPair p
      out h = let S = R.small _ h.1 in record { edge = S.g; node = S.m }

      inward : PointsIn s n ts p → SmallPair p
      inward h = let S = R.small _ h.1 in record { edge = S.g; node = S.n }

      go : (d : Direction) → IsPair d s n ts p → SmallPair p
      go Outpointing h = out h
      go Inpointing h = inward h
      go Adjacent h = ⊎_elim out inward h

  edge_small : (p q : Pair) → q ≡ pair (edge_of p) 0 → SmallPair p → SmallPair q
  edge_small p q e S = subst SmallPair (sym e) (record { edge = S.edge; node = omega arith })

  node_small : (n : ℕ) (q : Pair) → q ≡ pair 0 n → n ≤ most_name → SmallPair q
  node_small n q e h = subst SmallPair (sym e) (record { edge = omega arith; node = h })

  entry_small : (l : Listing) (f : Fields) (q : Pair) → Entry l f ts q → SmallPair q
  entry_small (Listing.P d) f q h = pair_small d f.s f.n q h
  entry_small (Listing.G d) f q h = edge_small h.0 q h.2 (pair_small d f.s f.n h.0 h.1)
  entry_small (Listing.GN d) f q h = edge_small h.0 q h.3 (pair_small d f.s f.n h.0 h.1)
  entry_small (Listing.N d) f q h = node_small _ q h.2 (pair_small d f.s f.n h.0 h.1).node
  entry_small (Listing.NG d) f q h = node_small _ q h.3 (pair_small d f.s f.n h.0 h.1).node
  entry_small Listing.UN f q h = node_small h.0 q h.3 (R.small _ h.2).n
  entry_small Listing.US f q h = node_small h.0 q h.2 (R.small _ h.1).s
  entry_small Listing.USn f q h = node_small h.0 q h.3 (R.small _ h.2).s

  pub listed_small : (l : Listing) (f : Fields) → EveryPair SmallPair (listed l f ts)
  listed_small l f = every_member SmallPair (listed l f ts) (λ q e. entry_small l f q (listed_sound ts R l f q e))

-- ---- an answer is read as the machine gave it

observed_list : (ps : List Pair) (l : List ℕ) → EveryPair SmallPair ps → observed (answer_of (pairs (length ps) ps)) (list_after (pairs (length ps) ps) l) ≡ pairs (length ps) ps
unfolding observed answer_of list_after
observed_list ps l h =
    ap (λ (ws : List ℕ). pairs (length ps) (map unpack ws)) (take_at (map pack ps) (drop (length ps) l) (length ps) (length-map ps pack))
    ∙ ap (pairs (length ps)) (unpack_pack_all ps h)

pub observed_machine : (C : ℕ) (ts : Tuples) (c : Call) (room : ℕ) (l : List ℕ) → TupleRules ts
    → observed (answer_of (machine C ts c room).answer) (list_after (machine C ts c room).answer l) ≡ (machine C ts c room).answer
unfolding observed answer_of
observed_machine C ts c room l R =
    answer_form (λ (r : Reply). observed (answer_of r) (list_after r l) ≡ r) C ts c room (λ condition. refl) (λ x. refl) (λ x k. refl) (λ x k. refl)
    (λ v. refl) (λ b. refl) refl
    (λ x. observed_list (listed x (fields_of c) ts) l (listed_small ts R x (fields_of c)))

-- an answer of the machine lists no more pairs than its list has places
listed_in_list : (C : ℕ) (ts : State) (c : Call) (room : ℕ) (l : List ℕ) → length (list_after (machine C ts c room).answer l) ≡ length l
    → list_count (answer_of (machine C ts c room).answer) ≤ length l
unfolding list_after answer_of list_count
listed_in_list C ts c room l =
    answer_form (λ (r : Reply). length (list_after r l) ≡ length l → list_count (answer_of r) ≤ length l) C ts c room (λ condition e. omega arith)
    (λ x e. omega arith) (λ x k e. omega arith) (λ x k e. omega arith) (λ v e. omega arith) (λ b e. omega arith) (λ e. omega arith)
    (λ x e.
    let ps : List Pair = listed x (fields_of c) ts in
    omega (arith, e, length-append (map pack ps) (drop (length ps) l), length-map ps pack, length-drop (length ps) l))

-- ---- over any layout

-- what demand 3 needs of one call on a store, by whatever door it is made: the machine's answer, and a store of the same length with the machine's state
pub record AsMachine (Y : Layout) (b : List ℕ) (x : Exchange) (b' : List ℕ) : Type 0 where
  pub reply : x.reply ≡ (serve (Y.capacity_of b) (Y.state_of b) x.request).answer
  pub store : Y.is_store b' ≡ true
  pub state : Y.state_of b' ≡ (serve (Y.capacity_of b) (Y.state_of b) x.request).state
  pub size : length b' ≡ length b

abbrev pub MachineStep : Layout → List ℕ → Exchange → List ℕ → Type 0
MachineStep Y b x b' = Y.is_store b ≡ true → AsMachine Y b x b'

-- a call on a store lists no more pairs than its list has places
pub answer_within : (Y : Layout) (b l b' l' : List ℕ) (c : Call) (a : Result Answer Refusal) → OnStore Y b l c a b' l' → length l' ≡ length l → list_count a ≤ length l
answer_within Y b l b' l' c a O e =
    subst (λ (x : Result Answer Refusal). list_count x ≤ length l) (sym O.answer) (listed_in_list (Y.capacity_of b) (Y.state_of b) c (length l) l (ap length (sym O.list) ∙ e))

module _ (Y : Layout) (L : Lawful Y) where
  -- ---- the whole list

  -- nothing is left to be done
  no_calls : (b : List ℕ) → Y.is_store b ≡ true → WholeList Y (Y.capacity_of b) (Y.state_of b) [] b
  unfolding answers final all_added all_removed
  no_calls b e =
      let R = L.rules b e in
      record { answered = refl; store = e; held = refl; once = R.ascends; records = L.counted b e; nothing_missing = R.nothing_missing; full_exactly = tt; adds_up = refl }

  -- one call before a list of calls
  one_more : (b b' b'' : List ℕ) (x : Exchange) (xs : List Exchange) → Y.is_store b ≡ true → AsMachine Y b x b'
      → WholeList Y (Y.capacity_of b') (Y.state_of b') xs b'' → WholeList Y (Y.capacity_of b) (Y.state_of b) (x ∷ xs) b''
  unfolding answers final all_added all_removed
  one_more b b' b'' x xs e A W =
      let C : ℕ = Y.capacity_of b in
      let ts : State = Y.state_of b in
      let same : Y.capacity_of b' ≡ C = L.sized b b' A.size in
      let ten = full_exactly_lem C ts x.request (omega (arith, L.counted b e)) in
      record {
        answered = ap₂ ◌∷◌ A.reply (W.answered ∙ ap₂ (λ (D : ℕ) (us : State). answers D us (requests xs)) same A.state);
        store = W.store;
        held = W.held ∙ ap₂ (λ (D : ℕ) (us : State). final D us (requests xs)) same A.state;
        once = W.once;
        records = W.records ∙ same;
        nothing_missing = W.nothing_missing;
        full_exactly = (
          (λ a. ten.0 (sym A.reply ∙ a), λ h. A.reply ∙ ten.1 h),
          subst (λ (us : State). FullExactly C us xs) A.state (subst (λ (D : ℕ). FullExactly D (Y.state_of b') xs) same W.full_exactly),
        );
        adds_up =
            omega (arith, ap added_in A.reply, ap removed_in A.reply, counts_the_difference C ts x.request (L.rules b e), ap length A.state, W.adds_up);
      }

  -- a list of calls from any store
  pub whole_list : {b b' : List ℕ} {xs : List Exchange} → Trace (MachineStep Y) b xs b' → Y.is_store b ≡ true
      → WholeList Y (Y.capacity_of b) (Y.state_of b) xs b'
  whole_list (end {s = b}) e = no_calls b e
  whole_list (then {s = b} {s' = b'} {s'' = b''} {x = x} {xs = xs} one rest) e = one_more b b' b'' x xs e (one e) (whole_list rest (one e).store)

  -- .. and from a buffer just prepared
  pub whole_prepared : (raw b b' : List ℕ) (C : ℕ) (xs : List Exchange) → Y.capacity_of raw ≡ C → Y.Prepared raw b → Trace (MachineStep Y) b xs b'
      → WholeList Y C fresh xs b'
  whole_prepared raw b b' C xs size P trace =
      subst (λ (D : ℕ). WholeList Y D fresh xs b') (L.sized raw b (L.prepared_size raw b P) ∙ size)
      (subst (λ (ts : State). WholeList Y (Y.capacity_of b) ts xs b') (L.prepared_state raw b P) (whole_list trace (L.prepared_store raw b P)))

  -- ---- calls of the entry

  -- a call of the entry is such a call
  pub one_call_machine : (b b' : List ℕ) (x : CallMade) → OneMade Y b x b' → MachineStep Y b (exchange_of x) b'
  unfolding serve
  one_call_machine b b' x one e =
      let O = one.on_store e in
      record {
        reply =
            ap₂ observed O.answer O.list
            ∙ observed_machine (Y.capacity_of b) (Y.state_of b) x.call (length x.lent) x.lent (L.rules b e);
        store = O.store;
        state = O.state;
        size = O.size;
      }

  pub machine_trace : {b b' : List ℕ} {xs : List CallMade} → Trace (OneMade Y) b xs b' → Trace (MachineStep Y) b (map exchange_of xs) b'
  machine_trace trace = trace_map (MachineStep Y) exchange_of one_call_machine trace

  pub demand_3 : Demand3 Y
  demand_3 C raw b b' xs least most size P trace = whole_prepared raw b b' C (map exchange_of xs) size P (machine_trace trace)
