-- Demands 1 and 3 of the entry: calls of `execute` and `execute_known` themselves, one after the other, on any buffer or on one that `prepare` has prepared.
-- They rest on what a caller of these functions learns from their own contracts (`Learnt`), so a weaker contract breaks them.
use mathlib.Core.Bool.{Bool, true, false}
use mathlib.Core.List.{List, ◌∷◌, ◌++◌, map, map-append}
use mathlib.Core.Path.{◌≡◌, refl, ap, ◌∙◌, subst}
use Prim.Native.Nat.{ℕ, ◌+◌, ◌*◌, ◌≤◌}
use native.Mathlib.Omega.{arith}
use lib.ListN.{length, replicate, length-replicate}
use contract.Lifetimes.{Lfts}
use borrow.Fn.Kinds.{Dens, res_t, ended_of}
use denote.Triple.Clauses.{AtExit}
use Rattle.std.specs.Prelude.{Result, Ok}
use Rattle.model.specs.declared.Refusal.{Refusal}
use Rattle.model.specs.Tuples.{fresh}
use Rattle.layouts.specs.Buffer.{head_words, record_words, fits_length, Preparing}
use Rattle.model.specs.Refusals.{selects_nothing}
use Rattle.model.specs.NoSelection.{WithoutEffect}
use Rattle.model.specs.Traces.{Trace}
use Rattle.model.specs.CallLists.{CallMade, OneMade, MeetsDemand1, Exchange, exchange_of, requests, WholeList}
use Rattle.layouts.proofs.Sizes.{fits_least, fits_most, some_record, few_records, length_fits, length_records}
use Rattle.layouts.specs.Stored.{stored}
use Rattle.layouts.proofs.Stored.{stored_lawful}
use Rattle.model.proofs.Bools.{clash}
use Rattle.model.proofs.Traces.{trace_each, trace_map}
use Rattle.model.proofs.CallLists.{MachineStep, whole_list, one_call_machine, demand_3}
use Rattle.model.proofs.Demand1.{one_call_demand_1}
use Rattle.model.proofs.NoSelection.{nothing_without_effect}
use Rattle.fresh.proofs.prepare.Kinds as prepare_kinds
use Rattle.fresh.proofs.prepare.Reads as prepare_reads
use Rattle.calls.proofs.execute.Kinds as kinds
use Rattle.calls.proofs.execute.Reads as reads
use Rattle.calls.proofs.execute_known.Kinds as known_kinds
use Rattle.calls.proofs.execute_known.Reads as known_reads

-- a call of `prepare`: the buffer before it, its answer, the buffer after it
pub data PreparedBy : List ℕ → Result ℕ Refusal → List ℕ → Type 0 where
  prepared : (κs : Lfts 1) (a : Dens κs prepare_kinds.ps) (r : (res_t prepare_kinds.r κs).Denot) (e : AtExit (ended_of 1 prepare_kinds.ps prepare_kinds.r) κs)
      → prepare_reads.Learnt κs a r e → PreparedBy a.0.now r e.0.now

pub prepared_preparing : {raw b : List ℕ} {r : Result ℕ Refusal} → PreparedBy raw r b → Preparing raw r b
prepared_preparing (prepared κs a r e P) = P.0

-- a call of `execute`, or of `execute_known` on a store, from a buffer to a buffer
pub data ExecutedBy : List ℕ → CallMade → List ℕ → Type 0 where
  executed : (κs : Lfts 2) (a : Dens κs kinds.ps) (r : (res_t kinds.r κs).Denot) (e : AtExit (ended_of 2 kinds.ps kinds.r) κs)
      → reads.Learnt κs a r e
      → ExecutedBy a.0.now (record { call = a.1.0; lent = a.1.1.0.now; answer = r; left = e.1.1.0.now }) e.0.now
  executed_known : (κs : Lfts 2) (a : Dens κs known_kinds.ps) (r : (res_t known_kinds.r κs).Denot) (e : AtExit (ended_of 2 known_kinds.ps known_kinds.r) κs)
      → stored.is_store a.0.now ≡ true → known_reads.Learnt κs a r e
      → ExecutedBy a.0.now (record { call = a.1.0; lent = a.1.1.0.now; answer = r; left = e.1.1.0.now }) e.0.now

-- it is one call as document 01 has it
pub executed_one : {b b' : List ℕ} {x : CallMade} → ExecutedBy b x b' → OneMade stored b x b'
executed_one (executed κs a r e one) = one
executed_one (executed_known κs a r e store one) = record { no_store = λ no. absurd (clash store no); on_store = λ yes. one }

-- calls one after the other, from a buffer to a buffer
abbrev pub Executed : List ℕ → List CallMade → List ℕ → Type 0
Executed b xs b' = Trace ExecutedBy b xs b'

executed_machine : (b b' : List ℕ) (x : CallMade) → ExecutedBy b x b' → MachineStep stored b (exchange_of x) b'
executed_machine b b' x made = one_call_machine stored stored_lawful b b' x (executed_one made)

-- ---- preparing

-- a buffer for which `prepare` answers C has that C, and C is 1 to 2,048
capacity_prepared : (raw b : List ℕ) (C : ℕ) → Preparing raw (Ok C) b → (stored.capacity_of raw ≡ C) × stored.Prepared raw b
capacity_prepared raw b C P = go (fits_length raw) refl
  where
    go : (f : Bool) → fits_length raw ≡ f → (stored.capacity_of raw ≡ C) × stored.Prepared raw b
    go false e = let z = (P.outside e).0 in let f : ◌≡◌ {A = ℕ} 0 1 = cc in absurd (omega (arith, f))
    go true e = let z = P.inside e in let y = z.0 in (cc, z.1)

-- where `prepare` answers C, the buffer has that C and is prepared
pub prepared_by : (raw b : List ℕ) (C : ℕ) → PreparedBy raw (Ok C) b → (stored.capacity_of raw ≡ C) × stored.Prepared raw b
prepared_by raw b C P = capacity_prepared raw b C (prepared_preparing P)

-- that C is 1 to 2,048 ..
pub capacity_bounds : (raw b : List ℕ) (C : ℕ) → PreparedBy raw (Ok C) b → (1 ≤ C) × (C ≤ 2048)
capacity_bounds raw b C P =
    let Q = prepared_by raw b C P in
    let low = fits_least raw Q.1.fits in
    let high = fits_most raw Q.1.fits in
    (omega (arith, Q.0, some_record raw low high), omega (arith, Q.0, few_records raw low high))

-- .. and `prepare` answers each of these for a buffer with room for C records and no more
pub every_capacity : (C : ℕ) → 1 ≤ C → C ≤ 2048 → (raw : List ℕ) × ((b : List ℕ) (r : Result ℕ Refusal) → PreparedBy raw r b → r ≡ Ok C)
every_capacity C least most =
    let words : ℕ = head_words + record_words * C in
    let raw : List ℕ = replicate words 0 in
    let size : length raw ≡ words = length-replicate words 0 in
    (raw, λ b r P. ((prepared_preparing P).inside (length_fits raw C least most size)).0 ∙ ap Ok (length_records raw C least most size))

-- ---- demands 1 and 3

-- demand 1: of every call of `execute` and `execute_known`
pub entry_demand_1 : (b b' : List ℕ) (x : CallMade) → ExecutedBy b x b' → MeetsDemand1 stored b x b'
entry_demand_1 b b' x made = one_call_demand_1 stored stored_lawful b x.lent x.call x.answer b' x.left (executed_one made)

-- demand 3: for every C that `prepare` answers, the buffer that it leaves and every list of calls
pub entry_demand_3 : (raw b b' : List ℕ) (C : ℕ) (xs : List CallMade) → PreparedBy raw (Ok C) b → Executed b xs b' → WholeList stored C fresh (map exchange_of xs) b'
entry_demand_3 raw b b' C xs P calls =
    let Q = prepared_by raw b C P in
    let C' = capacity_bounds raw b C P in
    demand_3 stored stored_lawful C raw b b' xs C'.0 C'.1 Q.0 Q.1 (trace_each (λ s s' x made. executed_one made) calls)

-- the same claim of a list of calls from any store, not only a fresh one
pub entry_any_store : (b b' : List ℕ) (xs : List CallMade) → stored.is_store b ≡ true → Executed b xs b'
    → WholeList stored (stored.capacity_of b) (stored.state_of b) (map exchange_of xs) b'
entry_any_store b b' xs store calls = whole_list stored stored_lawful (trace_map (MachineStep stored) exchange_of executed_machine calls) store

-- request 1: calls on one fresh store, and the same calls with one more among them that has no selection, wherever it stands:
-- all other answers and the tuples are the same
pub entry_nothing : (raw b b' b'' : List ℕ) (C : ℕ) (xs : List CallMade) (x : CallMade) (ys zs : List CallMade) → selects_nothing x.call ≡ true
    → requests (map exchange_of zs) ≡ requests (map exchange_of (xs ++ ys)) → PreparedBy raw (Ok C) b → Executed b (xs ++ (x ∷ ys)) b' → Executed b zs b''
    → WithoutEffect stored C fresh (map exchange_of xs) (exchange_of x) x.call (map exchange_of ys) b' (map exchange_of zs) b''
entry_nothing raw b b' b'' C xs x ys zs e same P with_it without_it_lem =
    nothing_without_effect stored C fresh (map exchange_of xs) (exchange_of x) (record { call = x.call; room = length x.lent }) (map exchange_of ys) b'
    (map exchange_of zs) b'' refl e
    (same ∙ ap requests (map-append exchange_of xs ys))
    (subst (λ (es : List Exchange). WholeList stored C fresh es b') (map-append exchange_of xs (x ∷ ys)) (entry_demand_3 raw b b' C (xs ++ (x ∷ ys)) P with_it))
    (entry_demand_3 raw b b'' C zs P without_it_lem)
