-- Demands 1 and 3 of the call in pairs: calls of `execute_pairs` itself, one after the other, on any buffer or on one that `prepare` has prepared.
-- They rest on what `execute_pairs` ensures by its own contract (`Learnt`), so a weaker contract breaks them.
use mathlib.Core.Bool.{Bool, true, false}
use mathlib.Core.List.{List, map}
use mathlib.Core.Path.{◌≡◌, refl, sym, ap, ap₂, ◌∙◌}
use Prim.Native.Nat.{ℕ}
use lib.ListN.{length, drop, length-map}
use lib.Seq.{take_at}
use contract.Lifetimes.{Lfts}
use borrow.Fn.Kinds.{Dens, res_t, ended_of}
use denote.Triple.Clauses.{AtExit}
use Rattle.std.specs.Prelude.{Ok}
use Rattle.model.specs.declared.Call.{Call}
use Rattle.model.specs.declared.Pair.{Pair}
use Rattle.model.specs.Tuples.{fresh}
use Rattle.model.specs.Steps.{Reply, pairs, fields_of, listed}
use Rattle.model.specs.Machine.{State, Outcome, machine, serve}
use Rattle.model.specs.Traces.{Trace}
use Rattle.model.specs.OneCall.{answer_of, pack}
use Rattle.model.specs.CallLists.{MeetsDemand1, WholeList}
use Rattle.layouts.specs.Stored.{stored}
use Rattle.layouts.proofs.Stored.{stored_lawful}
use Rattle.model.proofs.Refusals.{answer_form}
use Rattle.model.proofs.Traces.{trace_map}
use Rattle.model.proofs.CallLists.{MachineStep, whole_prepared}
use Rattle.model.proofs.NoSelection.{nothing_idle, nothing_form}
use Rattle.model.proofs.Demand1.{refused_reply, one_call_demand_1}
use Rattle.calls.proofs.Lists.{PreparedBy, prepared_by}
use Rattle.pairs.specs.InPairs.{pairs_after, observed_in_pairs, PairsMade, OneInPairs, exchange_in_pairs}
use Rattle.pairs.proofs.execute_pairs.Kinds as kinds
use Rattle.pairs.proofs.execute_pairs.Reads as reads

-- ---- what a caller learns

-- a call of `execute_pairs`, from a buffer to a buffer
pub data ExecutedInPairsBy : List ℕ → PairsMade → List ℕ → Type 0 where
  executed : (κs : Lfts 2) (a : Dens κs kinds.ps) (r : (res_t kinds.r κs).Denot) (e : AtExit (ended_of 2 kinds.ps kinds.r) κs)
      → reads.Learnt κs a r e
      → ExecutedInPairsBy a.0.now (record { call = a.1.0; lent = a.1.1.0.now; answer = r; left = e.1.1.0.now }) e.0.now

-- it is the call in pairs
pub executed_in_pairs : {b b' : List ℕ} {x : PairsMade} → ExecutedInPairsBy b x b' → OneInPairs b x b'
executed_in_pairs (executed κs a r e one) = one

-- ---- an answer in pairs is read as the machine gave it

observed_in_pairs_lem : (C : ℕ) (ts : State) (c : Call) (room : ℕ) (l : List Pair)
    → observed_in_pairs (answer_of (machine C ts c room).answer) (pairs_after (machine C ts c room).answer l) ≡ (machine C ts c room).answer
unfolding observed_in_pairs answer_of pairs_after
observed_in_pairs_lem C ts c room l =
    answer_form (λ (r : Reply). observed_in_pairs (answer_of r) (pairs_after r l) ≡ r) C ts c room (λ condition. refl) (λ x. refl) (λ x k. refl) (λ x k. refl)
    (λ v. refl) (λ b. refl) refl
    (λ x.
    let ps : List Pair = listed x (fields_of c) ts in
    ap (pairs (length ps)) (take_at ps (drop (length ps) l) (length ps) refl))

-- ---- one call

module _ (b b' : List ℕ) (x : PairsMade) (P : OneInPairs b x b') where
  abbrev given : Outcome
  given = machine (stored.capacity_of b) (stored.state_of b) x.call (length x.lent)

  -- the call with packed words is fed the same length
  same_given : machine (stored.capacity_of b) (stored.state_of b) x.call (length (map pack x.lent)) ≡ given
  same_given = ap (machine (stored.capacity_of b) (stored.state_of b) x.call) (length-map x.lent pack)

  given_answer : stored.is_store b ≡ true → x.answer ≡ answer_of given.answer
  given_answer e = (P.call.on_store e).answer ∙ ap (λ (o : Outcome). answer_of o.answer) same_given

  -- what demand 3 needs of it
  pub pairs_machine : MachineStep stored b (exchange_in_pairs x) b'
  unfolding serve
  pairs_machine e =
      let O = P.call.on_store e in
      record {
        reply =
            ap₂ observed_in_pairs (given_answer e) (P.listed e)
            ∙ observed_in_pairs_lem (stored.capacity_of b) (stored.state_of b) x.call (length x.lent) x.lent;
        store = O.store;
        state = O.state ∙ ap (λ (o : Outcome). o.state) same_given;
        size = O.size;
      }

  -- a refused call and one with no selection write no place of the list
  unwritten : (stored.is_store b ≡ true → pairs_after given.answer x.lent ≡ x.lent) → x.left ≡ x.lent
  unwritten same = go (stored.is_store b) refl
    where
      go : (s : Bool) → stored.is_store b ≡ s → x.left ≡ x.lent
      go true e = P.listed e ∙ same e
      go false e = P.no_store e

  -- demand 1
  pub pairs_meet_demand_1 : MeetsDemand1 stored b x b'
  unfolding pairs_after
  pairs_meet_demand_1 =
      let D = one_call_demand_1 stored stored_lawful b (map pack x.lent) x.call x.answer b' (map pack x.left) P.call in
      record {
        refused = λ condition r. (
          (D.refused condition r).0,
          unwritten (λ e. ap (λ (y : Reply). pairs_after y x.lent) (refused_reply given.answer condition (sym (given_answer e) ∙ r))),
        );
        no_store = D.no_store;
        reading = D.reading;
        unselected = λ t. (
          (D.unselected t).0,
          unwritten
              (λ e.
              ap (λ (o : Outcome). pairs_after o.answer x.lent) (nothing_idle (stored.capacity_of b) (stored.state_of b) x.call (length x.lent) t)
              ∙ nothing_form (λ (y : Reply). pairs_after y x.lent ≡ x.lent) (λ condition. refl) (λ n. refl) (λ n. refl) (λ n. refl) (λ v. refl) refl refl x.call),
        );
      }

-- ---- demands 1 and 3

-- demand 1: of every call of `execute_pairs`
pub pairs_demand_1 : (b b' : List ℕ) (x : PairsMade) → ExecutedInPairsBy b x b' → MeetsDemand1 stored b x b'
pairs_demand_1 b b' x made = pairs_meet_demand_1 b b' x (executed_in_pairs made)

-- demand 3: for every C that `prepare` answers, the buffer that it leaves and every list of calls of `execute_pairs`
pub pairs_demand_3 : (raw b b' : List ℕ) (C : ℕ) (xs : List PairsMade) → PreparedBy raw (Ok C) b → Trace ExecutedInPairsBy b xs b'
    → WholeList stored C fresh (map exchange_in_pairs xs) b'
pairs_demand_3 raw b b' C xs P calls =
    let Q = prepared_by raw b C P in
    whole_prepared stored stored_lawful raw b b' C (map exchange_in_pairs xs) Q.0 Q.1
    (trace_map (MachineStep stored) exchange_in_pairs (λ s s' x made. pairs_machine s s' x (executed_in_pairs made)) calls)
