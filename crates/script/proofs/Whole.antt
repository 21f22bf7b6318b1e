-- A whole script: what `run_block` puts out block by block, on a buffer that `prepare` has prepared, is what document 01 has the script print.
-- It rests on what a caller of these functions learns from their own contracts (`Learnt`), so a weaker contract breaks it.
use mathlib.Core.Bool.{Bool, true, false, cond}
use mathlib.Core.List.{List, [], ◌++◌}
use mathlib.Core.Path.{◌≡◌, sym, ◌∙◌, ap, subst}
use Prim.Native.Nat.{ℕ, ◌+◌, ◌≤◌}
use lib.Dec.{leb}
use lib.ListN.{length, take, drop}
use lib.Seq.{drop-drop}
use contract.Lifetimes.{Lfts}
use borrow.Fn.Kinds.{Dens, res_t, ended_of}
use denote.Triple.Clauses.{AtExit}
use Rattle.std.specs.Prelude.{Result}
use Rattle.model.specs.declared.Refusal.{Refusal}
use Rattle.model.specs.declared.Refusal.TheVariants.{Unreadable}
use Rattle.model.specs.Steps.{refusal}
use Rattle.model.specs.Machine.{State}
use Rattle.model.specs.Traces.{Trace, end}
use Rattle.layouts.specs.Stored.{stored}
use Rattle.model.proofs.Traces.{trace_each, trace_append}
use Rattle.calls.proofs.Lists.{PreparedBy, prepared_preparing}
use Rattle.text.specs.Bytes.{Text}
use Rattle.lines.specs.Lines.{lines_of}
use Rattle.lines.proofs.LineLaws.{no_lines}
use Rattle.print.specs.Answers.{answer_line}
use Rattle.print.proofs.Puts.{front_text}
use Rattle.script.specs.declared.Block.{Block}
use Rattle.script.specs.Scripts.{lines_output, script_output, most_input, slips_output}
use Rattle.script.specs.Runs.{LineStep, Run, run_lines, BlockRun, LineDemand1}
use Rattle.script.proofs.LineRuns.{line_demand_1}
use Rattle.script.proofs.Blocks.{AsAll, run_as_all, block_text}
use Rattle.script.proofs.Fresh.{fresh_tuples}
use Rattle.script.proofs.run_block.Kinds as kinds
use Rattle.script.proofs.run_block.Reads as reads
use Rattle.script.proofs.accepted.Kinds as accepted_kinds
use Rattle.script.proofs.accepted.Reads as accepted_reads
use Rattle.script.proofs.refuse_input.Kinds as refuse_kinds
use Rattle.script.proofs.refuse_input.Reads as refuse_reads

-- calls of `run_block` one after the other, each with the store and the list as the call before left them and on the part of the script behind place `at`, where that call stopped,
-- until no line is left; what they put out, of each output its first `length` bytes; and the store and the list at the end
pub data Printed (script : Text) : List ℕ → List ℕ → ℕ → Text → List ℕ → List ℕ → Type 0 where
  no_more : {b l : List ℕ} {at : ℕ} → length script ≤ at → Printed script b l at [] b l
  block_then : {at : ℕ} {more : Text} {b'' l'' : List ℕ} (κs : Lfts 4) (a : Dens κs kinds.ps) (r : (res_t kinds.r κs).Denot) (e : AtExit (ended_of 4 kinds.ps kinds.r) κs)
      → a.1.1.0.now ≡ drop at script → reads.Learnt κs a r e → Printed script e.0.now e.1.0.now (at + r.consumed) more b'' l''
      → Printed script a.0.now a.1.0.now at (take r.length e.1.1.1.0.now ++ more) b'' l''

-- the lines of one block, and then those behind it
block_called : (b l : List ℕ) (script : Text) (out : Text) (r : Block) (b' l' : List ℕ) (out' : Text) (b'' l'' : List ℕ)
    → BlockRun (run_lines (length out) (stored.state_of b) l (lines_of script)) b l script out r b' l' out'
    → Trace LineStep (b', l') (lines_of (drop r.consumed script)) (b'', l'') → Trace LineStep (b, l) (lines_of script) (b'', l'')
block_called b l script out r b' l' out' b'' l'' B rest =
    let xs : List Text = lines_of script in
    let u : Run = run_lines (length out) (stored.state_of b) l xs in
    let A : AsAll (stored.state_of b) l xs u = run_as_all (length out) (stored.state_of b) l xs in
    subst (λ (ys : List Text). Trace LineStep (b, l) ys (b'', l'')) (sym A.split)
    (trace_append B.called (subst (λ (ys : List Text). Trace LineStep (b', l') ys (b'', l'')) B.rest rest))

-- what one call of `run_block` has said of its part of the script
abbrev BlockOf : Text → List ℕ → List ℕ → Text → Block → List ℕ → List ℕ → Text → Type 0
BlockOf s b l out r b' l' out' = BlockRun (run_lines (length out) (stored.state_of b) l (lines_of s)) b l s out r b' l' out'

-- line after line what is printed is what the machine answers
pub printed_output : {script out : Text} {b l b' l' : List ℕ} {at : ℕ} → Printed script b l at out b' l' → out ≡ lines_output (stored.state_of b) (lines_of (drop at script))
unfolding lines_output
printed_output {script} {out} {b} {l} {b'} {l'} {at} (no_more h) = ap (lines_output (stored.state_of b)) (sym (no_lines script at h))
printed_output {script} {out} {b} {l} {b'} {l'} {at} (block_then {more} κs a r e same L rest) =
    let B : BlockOf (drop at script) b l a.1.1.1.0.now r e.0.now e.1.0.now e.1.1.1.0.now
    = subst (λ (s : Text). BlockOf s b l a.1.1.1.0.now r e.0.now e.1.0.now e.1.1.1.0.now) same L in
    ap (λ (bs : Text). take r.length e.1.1.1.0.now ++ bs) (printed_output rest ∙ ap (λ (bs : Text). lines_output (stored.state_of e.0.now) (lines_of bs)) (sym (drop-drop r.consumed at script)))
    ∙ block_text b l (drop at script) a.1.1.1.0.now r e.0.now e.1.0.now e.1.1.1.0.now B

-- and each line was run, one after the other
pub printed_called : {script out : Text} {b l b' l' : List ℕ} {at : ℕ} → Printed script b l at out b' l' → Trace LineStep (b, l) (lines_of (drop at script)) (b', l')
printed_called {script} {out} {b} {l} {b'} {l'} {at} (no_more h) = subst (λ (xs : List Text). Trace LineStep (b, l) xs (b, l)) (sym (no_lines script at h)) end
printed_called {script} {out} {b} {l} {b'} {l'} {at} (block_then {more} κs a r e same L rest) =
    block_called b l (drop at script) a.1.1.1.0.now r e.0.now e.1.0.now e.1.1.1.0.now b' l'
    (subst (λ (s : Text). BlockOf s b l a.1.1.1.0.now r e.0.now e.1.0.now e.1.1.1.0.now) same L)
    (subst (λ (bs : Text). Trace LineStep (e.0.now, e.1.0.now) (lines_of bs) (b', l')) (sym (drop-drop r.consumed at script)) (printed_called rest))

-- demand 1: of each line of a script, from any store
pub script_demand_1 : (script out : Text) (b l b' l' : List ℕ) → Printed script b l 0 out b' l' → Trace LineDemand1 (b, l) (lines_of script) (b', l')
script_demand_1 script out b l b' l' printed = trace_each line_demand_1 (printed_called printed)

-- the whole script, on a fresh store
pub whole_script : (script out : Text) (raw b l b' l' : List ℕ) (r : Result ℕ Refusal) → length raw ≡ 12292 → PreparedBy raw r b → Printed script b l 0 out b' l'
    → out ≡ script_output script
unfolding script_output
whole_script script out raw b l b' l' r size P printed =
    printed_output printed ∙ ap (λ (ts : State). lines_output ts (lines_of script)) (fresh_tuples raw b r (prepared_preparing P) size)

-- ---- an input of any length

-- a call of `accepted`: its argument and its answer
pub data AcceptedBy : ℕ → Bool → Type 0 where
  accepted_by : (κs : Lfts 0) (a : Dens κs accepted_kinds.ps) (r : (res_t accepted_kinds.r κs).Denot) (e : AtExit (ended_of 0 accepted_kinds.ps accepted_kinds.r) κs)
      → accepted_reads.Learnt κs a r e → AcceptedBy a.0 r

accepted_is : {n : ℕ} {t : Bool} → AcceptedBy n t → t ≡ leb n most_input
accepted_is (accepted_by κs a r e L) = L

-- a call of `refuse_input`, and what it puts out: the first bytes, as many as it answers
pub data RefusedBy : Text → Type 0 where
  refused_by : (κs : Lfts 1) (a : Dens κs refuse_kinds.ps) (r : (res_t refuse_kinds.r κs).Denot) (e : AtExit (ended_of 1 refuse_kinds.ps refuse_kinds.r) κs)
      → refuse_reads.Learnt κs a r e → RefusedBy (take r e.0.now)

refused_is : {out : Text} → RefusedBy out → out ≡ answer_line (refusal Unreadable)
refused_is (refused_by κs a r e L) = front_text L

-- what is put out for an input: what its lines print on a fresh store where `accepted` says yes, else the refusal
pub data Answered (input : Text) : Text → Type 0 where
  run_lines_lem : {out : Text} (raw b l b' l' : List ℕ) (r : Result ℕ Refusal) → AcceptedBy (length input) true → length raw ≡ 12292 → PreparedBy raw r b → Printed input b l 0 out b' l'
      → Answered input out
  refuse_all : {out : Text} → AcceptedBy (length input) false → RefusedBy out → Answered input out

-- "It reads at most 65,536 bytes of standard input (more: the one line `R 11`)": what is put out for any input is what document 01 has `slips` print
pub slips_output_lem : (input out : Text) → Answered input out → out ≡ slips_output input
unfolding slips_output
slips_output_lem input out (run_lines_lem raw b l b' l' r said size P printed) =
    whole_script input out raw b l b' l' r size P printed ∙ ap (λ (t : Bool). cond t (script_output input) (answer_line (refusal Unreadable))) (accepted_is said)
slips_output_lem input out (refuse_all said refused) =
    refused_is refused ∙ ap (λ (t : Bool). cond t (script_output input) (answer_line (refusal Unreadable))) (accepted_is said)
