-- Demands 1 and 3 of a run (specs/Runs.antt): whatever `run_calls` refuses changes no word, and a run that is not refused gives the tuple machine's answers and leaves its tuples.
-- They rest on what a caller of these functions learns from their own contracts (`Learnt`), so a weaker contract breaks them.
use mathlib.Core.Bool.{Bool, true, false}
use mathlib.Core.List.{List}
use mathlib.Core.Logic.{◌↔◌}
use mathlib.Core.Path.{◌≡◌, refl, sym, ◌∙◌, subst}
use Prim.Native.Nat.{ℕ}
use contract.Lifetimes.{Lfts}
use borrow.Fn.Kinds.{Dens, res_t, ended_of}
use denote.Triple.Clauses.{AtExit}
use Rattle.std.specs.Prelude.{Result, Ok, Err}
use Rattle.model.specs.declared.Refusal.{Refusal}
use Rattle.model.specs.declared.Refusal.TheVariants.{NotAStore, ListTooShort}
use Rattle.model.specs.Tuples.{fresh}
use Rattle.model.specs.Machine.{State}
use Rattle.layouts.specs.Stored.{stored}
use Rattle.layouts.proofs.Stored.{stored_lawful}
use Rattle.model.proofs.Bools.{clash}
use Rattle.layouts.proofs.Store.{store_exactly}
use Rattle.model.proofs.Traces.{trace_each}
use Rattle.model.proofs.CallLists.{whole_list, machine_trace}
use Rattle.model.proofs.Demand1.{one_call_demand_1}
use Rattle.layouts.proofs.Prepared.{prepared_capacity, prepared_store_lem, prepared_tuples}
use Rattle.calls.proofs.Lists.{PreparedBy, prepared_by}
use Rattle.run.specs.Words.{calls_in}
use Rattle.run.specs.Runs.{has_room, NotRun, AllRun, Ran, RunDemand1, WholeRun}
use Rattle.run.proofs.run_calls.Kinds as kinds
use Rattle.run.proofs.run_calls.Reads as reads

-- a call of `run_calls`: its four slices before it, its answer, three of them after it
pub data RunBy : List ℕ → List ℕ → List ℕ → List ℕ → Result (Unit {0}) Refusal → List ℕ → List ℕ → List ℕ → Type 0 where
  run_by : (κs : Lfts 4) (a : Dens κs kinds.ps) (r : (res_t kinds.r κs).Denot) (e : AtExit (ended_of 4 kinds.ps kinds.r) κs)
      → reads.Learnt κs a r e
      → RunBy a.0.now a.1.0.now a.1.1.0.now a.1.1.1.0.now r e.0.now e.1.1.0.now e.1.1.1.0.now

pub ran : {b calls answers lists b' answers' lists' : List ℕ} {r : Result (Unit {0}) Refusal} → RunBy b calls answers lists r b' answers' lists' → Ran b calls answers lists r b' answers' lists'
ran (run_by κs a r e R) = R

-- ---- from the contract of a run

-- a run that made its calls is not refused
pub made_or_refused : (condition : Refusal) → ◌≡◌ {A = Result (Unit {0}) Refusal} (Ok tt) (Err condition) → ⊥
made_or_refused condition e = cc

-- condition 9 is not condition 1
short_not_none : ◌≡◌ {A = Result (Unit {0}) Refusal} (Err ListTooShort) (Err NotAStore) → ⊥
short_not_none e = cc

module _ (b calls answers lists : List ℕ) (b' answers' lists' : List ℕ) where
  -- what is refused, and what is made
  refused_demand_1 : (r : Result (Unit {0}) Refusal) (condition : Refusal) → (r ≡ Err NotAStore) ↔ (stored.IsStore b → ⊥) → NotRun condition b answers lists r b' answers' lists'
      → RunDemand1 b calls answers lists r b' answers' lists'
  refused_demand_1 r condition first N =
      record {
        refused = λ other e. (N.same_store, N.same_answers, N.same_lists);
        no_store = first;
        each = λ z. absurd (made_or_refused condition (sym z ∙ N.result));
      }

  pub ran_demand_1 : (r : Result (Unit {0}) Refusal) → Ran b calls answers lists r b' answers' lists' → RunDemand1 b calls answers lists r b' answers' lists'
  ran_demand_1 r R = go (stored.is_store b) (has_room (calls_in calls) answers lists) refl refl
    where
      store : stored.is_store b ≡ true → (r ≡ Err NotAStore → ⊥) → (r ≡ Err NotAStore) ↔ (stored.IsStore b → ⊥)
      store e d = (λ one. absurd (d one), λ none. absurd (none ((store_exactly b).0 e)))

      go : (s f : Bool) → stored.is_store b ≡ s → has_room (calls_in calls) answers lists ≡ f → RunDemand1 b calls answers lists r b' answers' lists'
      go false f e g =
          let N = R.no_store e in
          refused_demand_1 r NotAStore (λ one S. clash ((store_exactly b).1 S) e, λ none. N.result) N
      go true false e g =
          let N = R.no_room e g in
          refused_demand_1 r ListTooShort (store e (λ one. short_not_none (sym N.result ∙ one))) N
      go true true e g =
          let A = R.run e g in
          record {
            refused = λ condition d. absurd (made_or_refused condition (sym A.result ∙ d));
            no_store = store e (λ one. made_or_refused NotAStore (sym A.result ∙ one));
            each = λ z. trace_each (λ s s' x one. one_call_demand_1 stored stored_lawful s x.lent x.call x.answer s' x.left one) A.left.trace;
          }

  -- a run that is not refused on a store has made its calls
  pub ran_all : stored.is_store b ≡ true → Ran b calls answers lists (Ok tt) b' answers' lists' → AllRun b calls answers lists (Ok tt) b' answers' lists'
  ran_all store R = go (has_room (calls_in calls) answers lists) refl
    where
      go : (f : Bool) → has_room (calls_in calls) answers lists ≡ f → AllRun b calls answers lists (Ok tt) b' answers' lists'
      go true e = R.run store e
      go false e = absurd (made_or_refused ListTooShort (R.no_room store e).result)

  -- demand 3 from any store ..
  pub ran_any_store : stored.is_store b ≡ true → Ran b calls answers lists (Ok tt) b' answers' lists' → WholeRun (stored.capacity_of b) (stored.state_of b) calls answers lists b' answers' lists'
  ran_any_store store R =
      let A = ran_all store R in
      record { whole = whole_list stored stored_lawful (machine_trace stored stored_lawful A.left.trace) store; asked = A.asked; answered = A.left.answered; listed = A.left.listed }

  -- .. and from a buffer just prepared
  pub ran_prepared : (raw : List ℕ) (C : ℕ) → stored.capacity_of raw ≡ C → stored.Prepared raw b → Ran b calls answers lists (Ok tt) b' answers' lists'
      → WholeRun C fresh calls answers lists b' answers' lists'
  ran_prepared raw C size P R =
      subst (λ (D : ℕ). WholeRun D fresh calls answers lists b' answers' lists') (prepared_capacity raw b P ∙ size)
      (subst (λ (ts : State). WholeRun (stored.capacity_of b) ts calls answers lists b' answers' lists') (prepared_tuples raw b P) (ran_any_store (prepared_store_lem raw b P) R))

-- ---- from what callers of `run_calls` learn

-- demand 1: of every run, and of each call of it
pub run_demand_1 : (b calls answers lists : List ℕ) (r : Result (Unit {0}) Refusal) (b' answers' lists' : List ℕ) → RunBy b calls answers lists r b' answers' lists'
    → RunDemand1 b calls answers lists r b' answers' lists'
run_demand_1 b calls answers lists r b' answers' lists' made = ran_demand_1 b calls answers lists b' answers' lists' r (ran made)

-- demand 3: for every C that `prepare` answers, and every run that is not refused on the buffer that it leaves
pub run_demand_3 : (raw b calls answers lists b' answers' lists' : List ℕ) (C : ℕ) → PreparedBy raw (Ok C) b
    → RunBy b calls answers lists (Ok tt) b' answers' lists' → WholeRun C fresh calls answers lists b' answers' lists'
run_demand_3 raw b calls answers lists b' answers' lists' C P made =
    let Q = prepared_by raw b C P in
    ran_prepared b calls answers lists b' answers' lists' raw C Q.0 Q.1 (ran made)
