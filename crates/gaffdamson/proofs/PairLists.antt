-- Demands 1 and 3 of the C functions with lists of pairs: calls of `gaffdamson_call_pairs`, one after the other, on any buffer or on one that `gaffdamson_prepare` has prepared.
-- They rest on what these functions ensure by their own contracts (`Learnt`), so a weaker contract breaks them.
use mathlib.Core.List.{List, map}
use Prim.Native.Nat.{ℕ}
use contract.Lifetimes.{Lfts}
use borrow.Fn.Kinds.{Dens, res_t, ended_of}
use denote.Triple.Clauses.{AtExit}
use Rattle.std.specs.Prelude.{Result, Ok}
use Rattle.model.specs.declared.Answer.{Answer}
use Rattle.model.specs.declared.Refusal.{Refusal}
use Rattle.model.specs.Tuples.{fresh}
use Rattle.model.specs.Traces.{Trace}
use Rattle.model.specs.CallLists.{MeetsDemand1, WholeList}
use Rattle.layouts.specs.Stored.{stored}
use Rattle.layouts.proofs.Stored.{stored_lawful}
use Rattle.model.proofs.Traces.{trace_map}
use Rattle.model.proofs.CallLists.{MachineStep, whole_prepared}
use Rattle.pairs.specs.InPairs.{CallInPairs, PairsMade, OneInPairs, exchange_in_pairs}
use Rattle.pairs.proofs.Lists.{pairs_machine, pairs_meet_demand_1}
use Rattle.run.specs.Words.{call_of, answer_in}
use Rattle.gaffdamson.specs.Calls.{preparation_words}
use Rattle.gaffdamson.proofs.Lists.{PreparedFromC, c_prepared, read_in_words}
use Rattle.gaffdamson.proofs.gaffdamson_call_pairs.Kinds as kinds
use Rattle.gaffdamson.proofs.gaffdamson_call_pairs.Reads as reads

-- a call of `gaffdamson_call_pairs`, from a buffer to a buffer; of the words that it answers, the answer that a caller reads in them
pub data CalledInPairsFromC : List ℕ → PairsMade → List ℕ → Type 0 where
  called_from_c : (κs : Lfts 2) (a : Dens κs kinds.ps) (r : (res_t kinds.r κs).Denot) (e : AtExit (ended_of 2 kinds.ps kinds.r) κs)
      → reads.Learnt κs a r e
      → CalledInPairsFromC a.0.now
      (record {
        call = call_of a.1.0;
        lent = a.1.1.0.now;
        answer = answer_in r;
        left = e.1.1.0.now;
      })
      e.0.now

-- it is one call in pairs
pub called_in_pairs : {b b' : List ℕ} {x : PairsMade} → CalledInPairsFromC b x b' → OneInPairs b x b'
called_in_pairs {b} {b'} {x} (called_from_c κs a r e K) =
    read_in_words (λ (y : Result Answer Refusal). CallInPairs b x.lent x.call y b' x.left) _ r K.answer K.call

-- demand 1: of every call
pub c_pairs_demand_1 : (b b' : List ℕ) (x : PairsMade) → CalledInPairsFromC b x b' → MeetsDemand1 stored b x b'
c_pairs_demand_1 b b' x made = pairs_meet_demand_1 b b' x (called_in_pairs made)

-- demand 3: for every C that preparing answers, the buffer that it leaves and every list of calls with lists of pairs
pub c_pairs_demand_3 : (raw b b' : List ℕ) (C : ℕ) (xs : List PairsMade) → PreparedFromC raw (preparation_words (Ok C)) b → Trace CalledInPairsFromC b xs b'
    → WholeList stored C fresh (map exchange_in_pairs xs) b'
c_pairs_demand_3 raw b b' C xs P calls =
    let Q = c_prepared raw b C P in
    whole_prepared stored stored_lawful raw b b' C (map exchange_in_pairs xs) Q.0 Q.1
    (trace_map (MachineStep stored) exchange_in_pairs (λ s s' x made. pairs_machine s s' x (called_in_pairs made)) calls)
