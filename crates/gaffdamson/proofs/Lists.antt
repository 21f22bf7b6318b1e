-- Demands 1 and 3 of the C functions: calls of `gaffdamson_call`, one after the other, and of `gaffdamson_run`, on any buffer or on one that `gaffdamson_prepare` has prepared.
-- They rest on what a caller of these functions learns from their own contracts (`Learnt`), so a weaker contract breaks them.
use mathlib.Core.Bool.{Bool, true, false, cond}
use mathlib.Core.List.{List, map}
use mathlib.Core.Logic.{◌≢◌}
use mathlib.Core.Path.{◌≡◌, refl, sym, ap, ◌∙◌, subst}
use Prim.Native.Nat.{ℕ}
use native.Mathlib.Omega.{arith}
use contract.Lifetimes.{Lfts}
use borrow.Fn.Kinds.{Dens, res_t, ended_of}
use denote.Triple.Clauses.{AtExit}
use Rattle.std.specs.Prelude.{Result, Ok, Err}
use Rattle.model.specs.declared.Answer.{Answer}
use Rattle.model.specs.declared.Refusal.{Refusal}
use Rattle.model.specs.declared.Refusal.TheVariants.{NotAStore}
use Rattle.model.specs.Tuples.{fresh}
use Rattle.layouts.specs.Buffer.{fits_length}
use Rattle.model.specs.OneCall.{OneCall}
use Rattle.model.specs.Traces.{Trace}
use Rattle.model.specs.CallLists.{CallMade, OneMade, MeetsDemand1, exchange_of, WholeList}
use Rattle.layouts.specs.Stored.{stored}
use Rattle.layouts.proofs.Stored.{stored_lawful}
use Rattle.model.proofs.Traces.{trace_map}
use Rattle.model.proofs.CallLists.{MachineStep, one_call_machine, whole_prepared}
use Rattle.model.proofs.Demand1.{one_call_demand_1}
use Rattle.run.specs.Runs.{Ran, WholeRun}
use Rattle.run.proofs.Demand.{ran_demand_1, ran_prepared}
use Rattle.run.specs.declared.AnswerWords.{AnswerWords}
use Rattle.run.specs.Words.{call_of, kind_of, answer_words, answer_in}
use Rattle.run.proofs.WordLaws.{answer_back}
use Rattle.gaffdamson.specs.Calls.{preparation_of, preparation_words, PreparedAs, run_on, RanAs, RunDemand1InWords}
use Rattle.gaffdamson.proofs.Outcomes.{word_made, word_refused, word_no_store}
use Rattle.gaffdamson.proofs.gaffdamson_prepare.Kinds as prepare_kinds
use Rattle.gaffdamson.proofs.gaffdamson_prepare.Reads as prepare_reads
use Rattle.gaffdamson.proofs.gaffdamson_call.Kinds as kinds
use Rattle.gaffdamson.proofs.gaffdamson_call.Reads as reads
use Rattle.gaffdamson.proofs.gaffdamson_run.Kinds as run_kinds
use Rattle.gaffdamson.proofs.gaffdamson_run.Reads as run_reads

-- a call of `gaffdamson_prepare`: the buffer before it, its answer, the buffer after it
pub data PreparedFromC : List ℕ → AnswerWords → List ℕ → Type 0 where
  prepared : (κs : Lfts 1) (a : Dens κs prepare_kinds.ps) (r : (res_t prepare_kinds.r κs).Denot) (e : AtExit (ended_of 1 prepare_kinds.ps prepare_kinds.r) κs)
      → prepare_reads.Learnt κs a r e → PreparedFromC a.0.now r e.0.now

prepared_from_c : {raw b : List ℕ} {r : AnswerWords} → PreparedFromC raw r b → PreparedAs raw r b
prepared_from_c (prepared κs a r e P) = P

-- what holds of an answer holds of what is read in its words
pub read_in_words : (Holds : Result Answer Refusal → Type 0) (a : Result Answer Refusal) (r : AnswerWords) → r ≡ answer_words a → Holds a → Holds (answer_in r)
read_in_words Holds a r e h = subst Holds (sym (ap answer_in e ∙ answer_back a)) h

-- a call of `gaffdamson_call`, from a buffer to a buffer; of the words that it answers, the answer that a caller reads in them
pub data CalledFromC : List ℕ → CallMade → List ℕ → Type 0 where
  called_from_c : (κs : Lfts 2) (a : Dens κs kinds.ps) (r : (res_t kinds.r κs).Denot) (e : AtExit (ended_of 2 kinds.ps kinds.r) κs)
      → reads.Learnt κs a r e
      → CalledFromC a.0.now
      (record {
        call = call_of a.1.0;
        lent = a.1.1.0.now;
        answer = answer_in r;
        left = e.1.1.0.now;
      })
      e.0.now

-- it is one call as document 01 has it
pub called_one : {b b' : List ℕ} {x : CallMade} → CalledFromC b x b' → OneMade stored b x b'
called_one {b} {b'} {x} (called_from_c κs a r e K) =
    read_in_words (λ (y : Result Answer Refusal). OneCall stored b x.lent x.call y b' x.left) _ r K.answer K.call

-- a call of `gaffdamson_run`: its four slices before it, its answer, three of them after it
pub data RunFromC : List ℕ → List ℕ → List ℕ → List ℕ → ℕ → List ℕ → List ℕ → List ℕ → Type 0 where
  run_from_c : (κs : Lfts 4) (a : Dens κs run_kinds.ps) (r : (res_t run_kinds.r κs).Denot) (e : AtExit (ended_of 4 run_kinds.ps run_kinds.r) κs)
      → run_reads.Learnt κs a r e
      → RunFromC a.0.now a.1.0.now a.1.1.0.now a.1.1.1.0.now r e.0.now e.1.1.0.now e.1.1.1.0.now

pub c_ran : {b calls answers lists b' answers' lists' : List ℕ} {r : ℕ} → RunFromC b calls answers lists r b' answers' lists'
    → RanAs b calls answers lists r b' answers' lists'
c_ran (run_from_c κs a r e R) = R

-- a run that answers 0 made its calls, and any other was refused
module _ (b calls answers lists : List ℕ) (r : ℕ) (b' answers' lists' : List ℕ) (made : RunFromC b calls answers lists r b' answers' lists') where
  abbrev told : RanAs b calls answers lists r b' answers' lists'
  told = c_ran made

  abbrev answer : Result (Unit {0}) Refusal
  answer = run_on b calls answers lists

  pub c_ran_made : r ≡ 0 → Ran b calls answers lists (Ok tt) b' answers' lists'
  c_ran_made z = subst (λ (x : Result (Unit {0}) Refusal). Ran b calls answers lists x b' answers' lists') (word_made answer (sym told.answer ∙ z)) told.run

  c_refused_by : r ≢ 0 → (condition : Refusal) × (answer ≡ Err condition)
  c_refused_by h = word_refused answer (λ z. h (told.answer ∙ z))

  pub c_ran_refused : r ≢ 0 → (condition : Refusal) × Ran b calls answers lists (Err condition) b' answers' lists'
  c_ran_refused h =
      let w = c_refused_by h in
      (w.0, subst (λ (x : Result (Unit {0}) Refusal). Ran b calls answers lists x b' answers' lists') w.1 told.run)

  -- demand 1
  pub c_ran_demand_1 : RunDemand1InWords b calls answers lists r b' answers' lists'
  c_ran_demand_1 =
      let D = ran_demand_1 b calls answers lists b' answers' lists' answer told.run in
      let one = word_no_store answer in
      record {
        refused = λ h. let w = c_refused_by h in D.refused w.0 w.1;
        no_store = (λ e. D.no_store.0 (one.0 (sym told.answer ∙ e)), λ none. told.answer ∙ one.1 (D.no_store.1 none));
        each = λ z. D.each (word_made answer (sym told.answer ∙ z));
      }

-- ---- preparing

-- where preparing answers the words of C, the buffer has that C and is prepared
prepared_c : (raw b : List ℕ) (C : ℕ) (r : AnswerWords) → PreparedAs raw r b → r ≡ preparation_words (Ok C) → (stored.capacity_of raw ≡ C) × stored.Prepared raw b
unfolding preparation_of preparation_words kind_of
prepared_c raw b C r P e = go (fits_length raw) refl
  where
    numbered : (f : Bool) → fits_length raw ≡ f → preparation_words (cond f (Ok (stored.capacity_of raw)) (Err NotAStore)) ≡ preparation_words (Ok C)
    numbered f same = ap (λ (x : Bool). preparation_words (cond x (Ok (stored.capacity_of raw)) (Err NotAStore))) (sym same) ∙ sym P.answer ∙ e

    go : (f : Bool) → fits_length raw ≡ f → (stored.capacity_of raw ≡ C) × stored.Prepared raw b
    go true same = (ap (λ (w : AnswerWords). w.first) (numbered true same), (P.preparing.inside same).1)
    go false same = let z : ◌≡◌ {A = ℕ} 0 5 = ap (λ (w : AnswerWords). w.kind) (numbered false same) in absurd (omega arith)

-- where `gaffdamson_prepare` answers the words of C, the same
pub c_prepared : (raw b : List ℕ) (C : ℕ) → PreparedFromC raw (preparation_words (Ok C)) b → (stored.capacity_of raw ≡ C) × stored.Prepared raw b
c_prepared raw b C P = prepared_c raw b C _ (prepared_from_c P) refl

-- ---- demands 1 and 3

-- demand 1: of every call of `gaffdamson_call` ..
pub c_demand_1 : (b b' : List ℕ) (x : CallMade) → CalledFromC b x b' → MeetsDemand1 stored b x b'
c_demand_1 b b' x made = one_call_demand_1 stored stored_lawful b x.lent x.call x.answer b' x.left (called_one made)

-- .. of every run of `gaffdamson_run`, and of each call of it
pub c_run_demand_1 : (b calls answers lists : List ℕ) (r : ℕ) (b' answers' lists' : List ℕ) → RunFromC b calls answers lists r b' answers' lists'
    → RunDemand1InWords b calls answers lists r b' answers' lists'
c_run_demand_1 b calls answers lists r b' answers' lists' made = c_ran_demand_1 b calls answers lists r b' answers' lists' made

-- demand 3: for every C that preparing answers, the buffer that it leaves and every list of calls ..
pub c_demand_3 : (raw b b' : List ℕ) (C : ℕ) (xs : List CallMade) → PreparedFromC raw (preparation_words (Ok C)) b → Trace CalledFromC b xs b'
    → WholeList stored C fresh (map exchange_of xs) b'
c_demand_3 raw b b' C xs P calls =
    let Q = c_prepared raw b C P in
    whole_prepared stored stored_lawful raw b b' C (map exchange_of xs) Q.0 Q.1
    (trace_map (MachineStep stored) exchange_of (λ s s' x made. one_call_machine stored stored_lawful s s' x (called_one made)) calls)

-- .. and every run that answers 0
pub c_run_demand_3 : (raw b calls answers lists b' answers' lists' : List ℕ) (C : ℕ) → PreparedFromC raw (preparation_words (Ok C)) b
    → RunFromC b calls answers lists 0 b' answers' lists' → WholeRun C fresh calls answers lists b' answers' lists'
c_run_demand_3 raw b calls answers lists b' answers' lists' C P made =
    let Q = c_prepared raw b C P in
    ran_prepared b calls answers lists b' answers' lists' raw C Q.0 Q.1 (c_ran_made b calls answers lists 0 b' answers' lists' made refl)
