-- Line after line: what was printed so far, and what the run of the lines that are left gives, is the run of all lines.
use mathlib.Core.Bool.{Bool, true, false, cond}
use mathlib.Core.List.{List, [], ◌∷◌, ◌++◌, append_assoc, append-nil}
use mathlib.Core.Path.{◌≡◌, refl, sym, ◌∙◌, ap, ap₂, subst}
use Prim.Native.Nat.{ℕ, zero, suc, ◌+◌, ◌-◌, ◌≤◌, ◌<◌, min}
use native.Mathlib.Omega.{arith}
use borrow.Author.Tests.{le-leb, lt-leb, ltb-true, ltb-false}
use lib.Dec.{ltb}
use lib.ListN.{length, take, drop, length-drop}
use borrow.Rule.Slice.PartMut.{put_mid}
use Rattle.std.proofs.lemmas.List.{take_all, drop_all}
use Rattle.model.specs.Machine.{State}
use Rattle.layouts.specs.Buffer.{tuples_of}
use Rattle.model.specs.Traces.{Trace, end, then}
use Rattle.model.proofs.Traces.{trace_append}
use Rattle.text.specs.Bytes.{Text, line_feed, before as up_to}
use Rattle.lines.specs.Lines.{lines_of}
use Rattle.lines.specs.Calls.{read_line}
use Rattle.lines.proofs.LineLaws.{no_lines, next_line_lem, line_within}
use Rattle.print.specs.Answers.{answer_line, AtFront, most_line}
use Rattle.print.proofs.Puts.{front_none, front_length, front_then}
use Rattle.script.specs.Scripts.{line_outcome}
use Rattle.script.specs.Runs.{RunReady, LineStep, LineRun, Run, unrun, lines_length, line_list, run_before, run_lines, BlockRun}
use Rattle.script.proofs.LineRuns.{LineLeft, line_left}

-- the first line is run, and then those behind it
abbrev first_run : ℕ → State → List ℕ → Text → List Text → Run
first_run room ts l x xs =
    run_before (x ∷ []) (answer_line (line_outcome ts x).answer)
    (run_lines (room - length (answer_line (line_outcome ts x).answer)) (line_outcome ts x).state (line_list ts (read_line x) l) xs)

-- where there is no room for a line none is run, and none where there is no line
pub no_room_lem : (room : ℕ) (ts : State) (l : List ℕ) (xs : List Text) → room < most_line → run_lines room ts l xs ≡ unrun ts l xs
unfolding run_lines
no_room_lem room ts l [] h = refl
no_room_lem room ts l (x ∷ xs) h = ap (λ (b : Bool). cond b (first_run room ts l x xs) (unrun ts l (x ∷ xs))) (lt-leb most_line room h)

-- where there is room for a line, the first is run
one_line : (room : ℕ) (ts : State) (l : List ℕ) (x : Text) (xs : List Text) → most_line ≤ room → run_lines room ts l (x ∷ xs) ≡ first_run room ts l x xs
unfolding run_lines
one_line room ts l x xs h = ap (λ (b : Bool). cond b (first_run room ts l x xs) (unrun ts l (x ∷ xs))) (le-leb most_line room h)

-- lines before lines before a run
before_twice : (xs ys : List Text) (bs cs : Text) (r : Run) → run_before xs bs (run_before ys cs r) ≡ run_before (xs ++ ys) (bs ++ cs) r
before_twice xs ys bs cs r =
    ap₂ (λ (zs : List Text) (ds : Text). record { lines = zs; text = ds; state = r.state; list = r.list; rest = r.rest }) (sym (append_assoc xs ys r.lines))
    (sym (append_assoc bs cs r.text))

lines_length_one : (xs : List Text) (x : Text) → lines_length (xs ++ (x ∷ [])) ≡ lines_length xs + (length x + 1)
unfolding lines_length
lines_length_one [] x = omega arith
lines_length_one (y ∷ xs) x = omega (arith, lines_length_one xs x)

-- a run that has no room for a line, though the output had, has run one
moved : {whole : ℕ} (at size : ℕ) → whole - size < most_line → most_line ≤ whole → (at ≡ 0 → size ≡ 0) → 0 < at
moved zero size short room unmoved = absurd (omega (arith, unmoved refl))
moved (suc at) size short room unmoved = omega arith

-- the lines of a script up to place `at`, run on a store and printed to the first `size` bytes of an output
pub record Running (b₀ l₀ : List ℕ) (script : Text) (out₀ : Text) (b l : List ℕ) (at size : ℕ) (out : Text) : Type 0 where
  pub ready : RunReady b l
  pub within : at ≤ length script
  pub unmoved : at ≡ 0 → size ≡ 0
  pub fits : size ≤ length out₀
  -- the lines that were run, and what they printed
  pub lines : List Text
  pub done : Text
  pub called : Trace LineStep (b₀, l₀) lines (b, l)
  pub place : at ≡ min (lines_length lines) (length script)
  pub put : AtFront done out₀ size out
  pub run : run_lines (length out₀) (tuples_of b₀) l₀ (lines_of script)
      ≡ run_before lines done (run_lines (length out₀ - size) (tuples_of b) l (lines_of (drop at script)))

-- ---- the next line

-- the line at a place, and where the next one starts
pub record NextLine (script : Text) (at : ℕ) (line : Text) (next : ℕ) : Type 0 where
  pub onward : at < next
  pub within : next ≤ length script
  pub place : next ≡ min (at + (length line + 1)) (length script)
  pub split : lines_of (drop at script) ≡ line ∷ lines_of (drop next script)

pub next_of : (script : Text) (at : ℕ) (line : Text) (next : ℕ) → at < length script → line ≡ up_to line_feed (drop at script) → next ≡ min (at + length line + 1) (length script) → NextLine script at line next
next_of script at line next some e n =
    record {
      onward = omega (arith, n, line_within script at line (omega arith) e);
      within = omega (arith, n);
      place = omega (arith, n);
      split = next_line_lem script at line some e ∙ ap (λ (xs : List Text). line ∷ xs) (go (ltb (at + length line) (length script)) refl);
    }
  where
    -- with its line feed, or at the script's end, where no line follows
    go : (t : Bool) → ltb (at + length line) (length script) ≡ t → lines_of (drop (at + length line + 1) script) ≡ lines_of (drop next script)
    go true f =
        let e : at + length line + 1 ≡ next = omega (arith, n, ltb-true (at + length line) (length script) f) in
        ap (λ (k : ℕ). lines_of (drop k script)) e
    go false f =
        let h : length script ≤ at + length line = ltb-false (at + length line) (length script) f in
        no_lines script (at + length line + 1) (omega arith) ∙ sym (no_lines script next (omega (arith, n)))

-- ---- line after line

module _ (b₀ l₀ : List ℕ) (script : Text) (out₀ : Text) where
  pub run_start : RunReady b₀ l₀ → Running b₀ l₀ script out₀ b₀ l₀ 0 0 out₀
  unfolding lines_length
  run_start R =
      let whole : length out₀ ≡ length out₀ - 0 = omega arith in
      record {
        ready = R;
        within = omega arith;
        unmoved = λ e. refl;
        fits = omega arith;
        lines = [];
        done = [];
        called = end;
        place = omega arith;
        put = front_none out₀;
        run = ap (λ (n : ℕ). run_lines n (tuples_of b₀) l₀ (lines_of script)) whole;
      }

  -- the output keeps its length
  pub run_sized : (b l : List ℕ) (at size : ℕ) (out : Text) → Running b₀ l₀ script out₀ b l at size out → length out ≡ length out₀
  run_sized b l at size out S = front_length S.put S.fits

  -- one more line
  pub run_next_line : (b l : List ℕ) (at size : ℕ) (out line : Text) (b' l' : List ℕ) (count : ℕ) (part : Text) (next : ℕ)
      → Running b₀ l₀ script out₀ b l at size out → most_line ≤ length out - size
      → NextLine script at line next → LineRun b l line (drop size out) b' l' count part → Running b₀ l₀ script out₀ b' l' next (size + count) (take size out ++ part)
  run_next_line b l at size out line b' l' count part next S wide X L =
      let left : LineLeft b l line b' l' = line_left b l S.ready line (drop size out) b' l' count part L in
      let a : Text = answer_line (line_outcome (tuples_of b) line).answer in
      let sized : length out ≡ length out₀ = run_sized b l at size out S in
      let room : most_line ≤ length out₀ - size = omega arith in
      let room' : length out₀ - size - length a ≡ length out₀ - (size + count) = omega (arith, L.put.size) in
      let later : Run = run_lines (length out₀ - (size + count)) (tuples_of b') l' (lines_of (drop next script)) in
      let first : run_lines (length out₀ - size) (tuples_of b) l (lines_of (drop at script)) ≡ run_before (line ∷ []) a later
      = ap (run_lines (length out₀ - size) (tuples_of b) l) X.split
      ∙ one_line (length out₀ - size) (tuples_of b) l line (lines_of (drop next script)) room
      ∙ ap (λ (n : ℕ). run_before (line ∷ []) a (run_lines n (line_outcome (tuples_of b) line).state (line_list (tuples_of b) (read_line line) l) (lines_of (drop next script)))) room'
      ∙ ap (λ (ts : State). run_before (line ∷ []) a (run_lines (length out₀ - (size + count)) ts (line_list (tuples_of b) (read_line line) l) (lines_of (drop next script)))) (sym left.state)
      ∙ ap (λ (k : List ℕ). run_before (line ∷ []) a (run_lines (length out₀ - (size + count)) (tuples_of b') k (lines_of (drop next script)))) (sym left.list) in
      record {
        ready = left.ready;
        within = X.within;
        unmoved = λ e. absurd (omega (arith, X.onward, e));
        fits = omega (arith, L.within, length-drop size out, S.fits, sized);
        lines = S.lines ++ (line ∷ []);
        done = S.done ++ a;
        called = trace_append S.called (then L.called end);
        place = omega (arith, S.place, X.place, X.onward, X.within, lines_length_one S.lines line);
        put = front_then S.put L.put;
        run = S.run ∙ ap (run_before S.lines S.done) first ∙ before_twice S.lines (line ∷ []) S.done a later;
      }

  -- the same, in the form in which `&mut out[size..]` is lent and put back
  pub run_turn : (b l : List ℕ) (at size : ℕ) (out line : Text) (b' l' : List ℕ) (count : ℕ) (part : Text) (next : ℕ)
      → Running b₀ l₀ script out₀ b l at size out → most_line ≤ length out - size
      → NextLine script at line next → LineRun b l line (take (length out - size) (drop size out)) b' l' count part
      → Running b₀ l₀ script out₀ b' l' next (size + count) (put_mid size (length out - size) out part)
  run_turn b l at size out line b' l' count part next S wide X L =
      let rest : length (drop size out) ≤ length out - size = omega (arith, length-drop size out) in
      let back : take size out ++ part ≡ put_mid size (length out - size) out part
      = ap (λ (xs : Text). take size out ++ xs) (sym (ap (λ (xs : Text). part ++ xs) (drop_all (length out - size) (drop size out) rest) ∙ append-nil part)) in
      subst (λ (o : Text). Running b₀ l₀ script out₀ b' l' next (size + count) o) back
      (run_next_line b l at size out line b' l' count part next S wide X
      (subst (λ (o : Text). LineRun b l line o b' l' count part) (take_all (length out - size) (drop size out) rest) L))

  -- where no further line is run
  pub run_end : (b l : List ℕ) (at size : ℕ) (out : Text) → Running b₀ l₀ script out₀ b l at size out
      → run_lines (length out₀ - size) (tuples_of b) l (lines_of (drop at script)) ≡ unrun (tuples_of b) l (lines_of (drop at script))
      → (0 < length script → most_line ≤ length out₀ → 0 < at)
      → BlockRun (run_lines (length out₀) (tuples_of b₀) l₀ (lines_of script)) b₀ l₀ script out₀ (record { consumed = at; length = size }) b l out
  run_end b l at size out S e forward =
      let done : run_lines (length out₀) (tuples_of b₀) l₀ (lines_of script) ≡ run_before S.lines S.done (unrun (tuples_of b) l (lines_of (drop at script)))
      = S.run ∙ ap (run_before S.lines S.done) e in
      let all : S.lines ≡ (run_lines (length out₀) (tuples_of b₀) l₀ (lines_of script)).lines
      = sym (ap (λ (u : Run). u.lines) done ∙ append-nil S.lines) in
      record {
        ready = S.ready;
        called = subst (λ (xs : List Text). Trace LineStep (b₀, l₀) xs (b, l)) all S.called;
        state_left = sym (ap (λ (u : Run). u.state) done);
        list_left = sym (ap (λ (u : Run). u.list) done);
        put = subst (λ (bs : Text). AtFront bs out₀ size out) (sym (ap (λ (u : Run). u.text) done ∙ append-nil S.done)) S.put;
        fits = S.fits;
        consumed = omega (arith, S.place, ap lines_length all);
        rest = sym (ap (λ (u : Run). u.rest) done);
        forward = forward;
      }

  -- the run ends where there is no room for a line ..
  pub run_short : (b l : List ℕ) (at size : ℕ) (out : Text) → Running b₀ l₀ script out₀ b l at size out → length out - size < most_line
      → BlockRun (run_lines (length out₀) (tuples_of b₀) l₀ (lines_of script)) b₀ l₀ script out₀ (record { consumed = at; length = size }) b l out
  run_short b l at size out S h =
      let short : length out₀ - size < most_line = omega (arith, run_sized b l at size out S) in
      run_end b l at size out S (no_room_lem (length out₀ - size) (tuples_of b) l (lines_of (drop at script)) short)
      (λ some room. moved at size short room S.unmoved)
