-- Lines that are run in blocks print what they print one after the other, and leave the same state.
use mathlib.Core.Bool.{Bool, true, false, cond}
use mathlib.Core.List.{List, [], ◌∷◌, ◌++◌, append_assoc, append-nil}
use mathlib.Core.Path.{◌≡◌, refl, sym, ◌∙◌, ap, ap₂, subst}
use Prim.Native.Nat.{ℕ, ◌-◌}
use lib.Dec.{leb}
use lib.ListN.{length, take, drop}
use Rattle.layouts.specs.Buffer.{tuples_of}
use Rattle.model.specs.Traces.{Trace, end}
use Rattle.model.proofs.Traces.{trace_append, trace_keeps}
use Rattle.model.specs.Machine.{State}
use Rattle.text.specs.Bytes.{Text}
use Rattle.lines.specs.Lines.{lines_of}
use Rattle.lines.specs.Calls.{read_line}
use Rattle.print.specs.Answers.{answer_line, most_line}
use Rattle.print.proofs.Puts.{front_text}
use Rattle.script.specs.declared.Block.{Block}
use Rattle.script.specs.Scripts.{line_outcome, lines_output, lines_final}
use Rattle.script.proofs.LineRuns.{line_size}
use Rattle.script.specs.Runs.{RunReady, LineStep, Run, unrun, line_list, lines_list, run_before, run_lines, BlockRun, ScriptRun}

-- a run of the first of some lines, and then the lines that are left
pub record AsAll (ts : State) (l : List ℕ) (xs : List Text) (r : Run) : Type 0 where
  pub split : xs ≡ r.lines ++ r.rest
  pub output : r.text ++ lines_output r.state r.rest ≡ lines_output ts xs
  pub final : lines_final r.state r.rest ≡ lines_final ts xs
  pub list : lines_list r.state r.list r.rest ≡ lines_list ts l xs

not_run : (ts : State) (l : List ℕ) (xs : List Text) → AsAll ts l xs (unrun ts l xs)
not_run ts l xs = record { split = refl; output = refl; final = refl; list = refl }

one_more : (ts : State) (l : List ℕ) (x : Text) (xs : List Text) (r : Run) → AsAll (line_outcome ts x).state (line_list ts (read_line x) l) xs r
    → AsAll ts l (x ∷ xs) (run_before (x ∷ []) (answer_line (line_outcome ts x).answer) r)
unfolding lines_output lines_final lines_list
one_more ts l x xs r R =
    record {
      split = ap (λ (ys : List Text). x ∷ ys) R.split;
      output = append_assoc (answer_line (line_outcome ts x).answer) r.text (lines_output r.state r.rest) ∙ ap (λ (bs : Text). answer_line (line_outcome ts x).answer ++ bs) R.output;
      final = R.final;
      list = R.list;
    }

either : (b : Bool) (ts : State) (l : List ℕ) (xs : List Text) (r s : Run) → AsAll ts l xs r → AsAll ts l xs s → AsAll ts l xs (cond b r s)
either true ts l xs r s R S = R
either false ts l xs r s R S = S

-- what a run prints, and then what the lines that are left print, is what all lines print; and so the state
pub run_as_all : (room : ℕ) (ts : State) (l : List ℕ) (xs : List Text) → AsAll ts l xs (run_lines room ts l xs)
unfolding run_lines
run_as_all room ts l [] = not_run ts l []
run_as_all room ts l (x ∷ xs) =
    either (leb most_line room) ts l (x ∷ xs) _ _
    (one_more ts l x xs _
    (run_as_all (room - length (answer_line (line_outcome ts x).answer)) (line_outcome ts x).state (line_list ts (read_line x) l) xs))
    (not_run ts l (x ∷ xs))

-- ---- block after block

-- what one block puts out, and then what the lines behind it print
pub block_text : (b l : List ℕ) (script : Text) (out : Text) (r : Block) (b' l' : List ℕ) (out' : Text)
    → BlockRun (run_lines (length out) (tuples_of b) l (lines_of script)) b l script out r b' l' out'
    → take r.length out' ++ lines_output (tuples_of b') (lines_of (drop r.consumed script)) ≡ lines_output (tuples_of b) (lines_of script)
block_text b l script out r b' l' out' B =
    let xs : List Text = lines_of script in
    let u : Run = run_lines (length out) (tuples_of b) l xs in
    let A : AsAll (tuples_of b) l xs u = run_as_all (length out) (tuples_of b) l xs in
    ap₂ (λ (bs cs : Text). bs ++ cs) (front_text B.put) (ap₂ lines_output B.state_left B.rest) ∙ A.output

-- all lines of a script but those of the part `rest`, which is left, run on a store
pub record Going (b₀ l₀ : List ℕ) (script : Text) (b l : List ℕ) (rest : Text) : Type 0 where
  pub ready : RunReady b l
  pub lines : List Text
  pub called : Trace LineStep (b₀, l₀) lines (b, l)
  pub split : lines_of script ≡ lines ++ lines_of rest
  pub final : lines_final (tuples_of b) (lines_of rest) ≡ lines_final (tuples_of b₀) (lines_of script)
  pub list : lines_list (tuples_of b) l (lines_of rest) ≡ lines_list (tuples_of b₀) l₀ (lines_of script)

module _ (b₀ l₀ : List ℕ) (script : Text) where
  pub blocks_start : RunReady b₀ l₀ → Going b₀ l₀ script b₀ l₀ script
  blocks_start R = record { ready = R; lines = []; called = end; split = refl; final = refl; list = refl }

  pub next_block : (b l b' l' : List ℕ) (rest : Text) (out : Text) (r : Block) (out' rest' : Text) → Going b₀ l₀ script b l rest
      → BlockRun (run_lines (length out) (tuples_of b) l (lines_of rest)) b l rest out r b' l' out' → rest' ≡ drop r.consumed rest → Going b₀ l₀ script b' l' rest'
  next_block b l b' l' rest out r out' rest' G B e =
      let xs : List Text = lines_of rest in
      let u : Run = run_lines (length out) (tuples_of b) l xs in
      let A : AsAll (tuples_of b) l xs u = run_as_all (length out) (tuples_of b) l xs in
      let left : lines_of rest' ≡ u.rest = ap lines_of e ∙ B.rest in
      record {
        ready = B.ready;
        lines = G.lines ++ u.lines;
        called = trace_append G.called B.called;
        split =
            G.split
            ∙ ap (λ (ys : List Text). G.lines ++ ys) (A.split ∙ ap (λ (ys : List Text). u.lines ++ ys) (sym left))
            ∙ sym (append_assoc G.lines u.lines (lines_of rest'));
        final = ap₂ lines_final B.state_left left ∙ A.final ∙ G.final;
        list =
            ap (λ (ts : State). lines_list ts l' (lines_of rest')) B.state_left
            ∙ ap₂ (lines_list u.state) B.list_left left
            ∙ A.list
            ∙ G.list;
      }

  -- the store keeps its length
  pub blocks_sized : (b l : List ℕ) (rest : Text) → Going b₀ l₀ script b l rest → length b ≡ length b₀
  blocks_sized b l rest G = trace_keeps (λ (s : List ℕ × List ℕ). length s.0) line_size G.called

  pub blocks_end : (b l : List ℕ) (rest : Text) → Going b₀ l₀ script b l rest → rest ≡ [] → ScriptRun b₀ l₀ script b l
  unfolding lines_of lines_final lines_list
  blocks_end b l rest G none =
      let all : G.lines ≡ lines_of script = sym (G.split ∙ ap (λ (bs : Text). G.lines ++ lines_of bs) none ∙ append-nil G.lines) in
      record {
        ready = G.ready;
        called = subst (λ (xs : List Text). Trace LineStep (b₀, l₀) xs (b, l)) all G.called;
        state_left = ap (λ (bs : Text). lines_final (tuples_of b) (lines_of bs)) (sym none) ∙ G.final;
        list_left = ap (λ (bs : Text). lines_list (tuples_of b) l (lines_of bs)) (sym none) ∙ G.list;
      }
