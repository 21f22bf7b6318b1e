-- Demand 3 of calls that go through the doors of the library in any mixture, on one buffer.
-- It rests on what a caller of each function learns from its own contract (`Learnt`).
use mathlib.Core.Bool.{Bool, true, false}
use mathlib.Core.List.{List, [], ◌∷◌, map, flatten}
use mathlib.Core.Logic.{◌≢◌}
use mathlib.Core.Path.{◌≡◌, refl, sym, subst}
use Prim.Native.Nat.{ℕ}
use Rattle.std.specs.Prelude.{Ok, Err}
use Rattle.model.specs.declared.Refusal.{Refusal}
use Rattle.model.specs.declared.Refusal.TheVariants.{NotAStore}
use Rattle.model.specs.Tuples.{fresh}
use Rattle.model.specs.Traces.{Trace, end, then}
use Rattle.model.specs.CallLists.{CallMade, Exchange, exchange_of, WholeList}
use Rattle.layouts.specs.Stored.{stored}
use Rattle.layouts.proofs.Stored.{stored_lawful}
use Rattle.model.proofs.Traces.{trace_append}
use Rattle.model.proofs.CallLists.{MachineStep, one_call_machine, machine_trace, whole_list, whole_prepared}
use Rattle.calls.proofs.Lists.{PreparedBy, prepared_by, ExecutedBy, executed_one}
use Rattle.run.specs.Words.{calls_in}
use Rattle.run.specs.Runs.{calls_made, Ran}
use Rattle.run.proofs.Demand.{RunBy, ran, made_or_refused, ran_demand_1, ran_all}
use Rattle.pairs.specs.InPairs.{PairsMade, exchange_in_pairs}
use Rattle.pairs.proofs.Lists.{ExecutedInPairsBy, executed_in_pairs, pairs_machine}
use Rattle.gaffdamson.specs.Calls.{preparation_words}
use Rattle.gaffdamson.proofs.Lists.{PreparedFromC, c_prepared, CalledFromC, called_one, RunFromC, c_ran_made, c_ran_refused}
use Rattle.gaffdamson.proofs.PairLists.{CalledInPairsFromC, called_in_pairs}

-- ---- the doors

-- a buffer prepared as a store of C records, from Rattle or from C
pub data PreparedByDoor : List ℕ → ℕ → List ℕ → Type 0 where
  by_prepare : {raw b : List ℕ} {C : ℕ} → PreparedBy raw (Ok C) b → PreparedByDoor raw C b
  by_c_prepare : {raw b : List ℕ} {C : ℕ} → PreparedFromC raw (preparation_words (Ok C)) b → PreparedByDoor raw C b

-- one use of a door, from a buffer to a buffer, and the calls that are made by it: one call, all calls of a run that is not refused, none by a run that is
pub data Used : List ℕ → List Exchange → List ℕ → Type 0 where
  by_execute : {b b' : List ℕ} {x : CallMade} → ExecutedBy b x b' → Used b (exchange_of x ∷ []) b'
  by_execute_pairs : {b b' : List ℕ} {x : PairsMade} → ExecutedInPairsBy b x b' → Used b (exchange_in_pairs x ∷ []) b'
  by_c_call : {b b' : List ℕ} {x : CallMade} → CalledFromC b x b' → Used b (exchange_of x ∷ []) b'
  by_c_call_pairs : {b b' : List ℕ} {x : PairsMade} → CalledInPairsFromC b x b' → Used b (exchange_in_pairs x ∷ []) b'
  by_run : {b calls answers lists b' answers' lists' : List ℕ} → RunBy b calls answers lists (Ok tt) b' answers' lists'
      → Used b (map exchange_of (calls_made (stored.capacity_of b) (stored.state_of b) (calls_in calls) lists)) b'
  by_c_run : {b calls answers lists b' answers' lists' : List ℕ} → RunFromC b calls answers lists 0 b' answers' lists'
      → Used b (map exchange_of (calls_made (stored.capacity_of b) (stored.state_of b) (calls_in calls) lists)) b'
  run_refused : {b calls answers lists b' answers' lists' : List ℕ} {condition : Refusal} → RunBy b calls answers lists (Err condition) b' answers' lists' → Used b [] b'
  c_run_refused : {b calls answers lists b' answers' lists' : List ℕ} {r : ℕ} → RunFromC b calls answers lists r b' answers' lists' → r ≢ 0 → Used b [] b'

-- ---- each use is a list of the machine's steps

module _ (b calls answers lists b' answers' lists' : List ℕ) where
  -- a run that is not refused
  ran_trace : Ran b calls answers lists (Ok tt) b' answers' lists' → Trace (MachineStep stored) b (map exchange_of (calls_made (stored.capacity_of b) (stored.state_of b) (calls_in calls) lists)) b'
  ran_trace R = go (stored.is_store b) refl
    where
      go : (s : Bool) → stored.is_store b ≡ s → Trace (MachineStep stored) b (map exchange_of (calls_made (stored.capacity_of b) (stored.state_of b) (calls_in calls) lists)) b'
      go true e = machine_trace stored stored_lawful (ran_all b calls answers lists b' answers' lists' e R).left.trace
      go false e = absurd (made_or_refused NotAStore (R.no_store e).result)

  -- a run that is refused
  not_ran_trace : (condition : Refusal) → Ran b calls answers lists (Err condition) b' answers' lists' → Trace (MachineStep stored) b [] b'
  not_ran_trace condition R =
      subst (λ (x : List ℕ). Trace (MachineStep stored) b [] x) (sym ((ran_demand_1 b calls answers lists b' answers' lists' (Err condition) R).refused condition refl).0) end

used_trace : {b b' : List ℕ} {xs : List Exchange} → Used b xs b' → Trace (MachineStep stored) b xs b'
used_trace (by_execute {b = b} {b' = b'} {x = x} made) = then (one_call_machine stored stored_lawful b b' x (executed_one made)) end
used_trace (by_execute_pairs {b = b} {b' = b'} {x = x} made) = then (pairs_machine b b' x (executed_in_pairs made)) end
used_trace (by_c_call {b = b} {b' = b'} {x = x} made) = then (one_call_machine stored stored_lawful b b' x (called_one made)) end
used_trace (by_c_call_pairs {b = b} {b' = b'} {x = x} made) = then (pairs_machine b b' x (called_in_pairs made)) end
used_trace (by_run made) = ran_trace _ _ _ _ _ _ _ (ran made)
used_trace (by_c_run made) = ran_trace _ _ _ _ _ _ _ (c_ran_made _ _ _ _ _ _ _ _ made refl)
used_trace (run_refused made) = not_ran_trace _ _ _ _ _ _ _ _ (ran made)
used_trace (c_run_refused made d) = not_ran_trace _ _ _ _ _ _ _ _ (c_ran_refused _ _ _ _ _ _ _ _ made d).1

doors_trace : {b b' : List ℕ} {xss : List (List Exchange)} → Trace Used b xss b' → Trace (MachineStep stored) b (flatten xss) b'
unfolding flatten
doors_trace end = end
doors_trace (then used rest) = trace_append (used_trace used) (doors_trace rest)

-- ---- the claim

-- from any store
pub doors_any_store : (b b' : List ℕ) (xss : List (List Exchange)) → stored.is_store b ≡ true → Trace Used b xss b'
    → WholeList stored (stored.capacity_of b) (stored.state_of b) (flatten xss) b'
doors_any_store b b' xss store uses = whole_list stored stored_lawful (doors_trace uses) store

-- demand 3: for every C that preparing answers, the buffer that it leaves and every list of calls, each by any door
pub doors_demand_3 : (raw b b' : List ℕ) (C : ℕ) (xss : List (List Exchange)) → PreparedByDoor raw C b → Trace Used b xss b' → WholeList stored C fresh (flatten xss) b'
doors_demand_3 raw b b' C xss prepared uses =
    let Q = fresh_buffer prepared in
    whole_prepared stored stored_lawful raw b b' C (flatten xss) Q.0 Q.1 (doors_trace uses)
  where
    fresh_buffer : PreparedByDoor raw C b → (stored.capacity_of raw ≡ C) × stored.Prepared raw b
    fresh_buffer (by_prepare P) = prepared_by raw b C P
    fresh_buffer (by_c_prepare P) = c_prepared raw b C P
