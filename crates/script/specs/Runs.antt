-- The lines of a script run on a store: one line, and as many lines as a block of output has room for.
use Rattle.std.specs.Prelude.{true, cond, Ok, Err, List, [], ◌∷◌, ◌++◌, ◌≡◌, ℕ, ◌+◌, ◌-◌, ◌≤◌, ◌<◌, min, leb, length, drop}
use Rattle.model.specs.declared.Call.{Call}
use Rattle.model.specs.declared.Refusal.{Refusal}
use Rattle.model.specs.Machine.{State, machine}
use Rattle.model.specs.Traces.{Trace}
use Rattle.model.specs.OneCall.{answer_of, list_after, OnStore}
use Rattle.model.specs.Demand1.{Demand1}
use Rattle.layouts.specs.Stored.{stored}
use Rattle.text.specs.Bytes.{Text}
use Rattle.lines.specs.Lines.{lines_of}
use Rattle.lines.specs.Calls.{Reading, read_line}
use Rattle.print.specs.Answers.{answer_line, AtFront, most_line}
use Rattle.script.specs.declared.Block.{Block}
use Rattle.script.specs.Scripts.{script_records, script_places, line_outcome, lines_final}

-- a store and an answer list for a script: "a store with C = 2,048 and an answer list of 2,048 places"
pub record RunReady (b l : List ℕ) : Type 0 where
  pub store : stored.is_store b ≡ true
  pub records : stored.capacity_of b ≡ script_records
  pub places : length l ≡ script_places

-- ---- one line

-- a line that reads as a call is that call; one that does not makes none
pub data LineCalled (b l : List ℕ) (b' l' : List ℕ) : Reading → Type 0 where
  call : {c : Call} → stored.is_store b ≡ true → OnStore stored b l c (answer_of (machine (stored.capacity_of b) (stored.state_of b) c (length l)).answer) b' l' → LineCalled b l b' l' (Ok c)
  no_call : {condition : Refusal} → b' ≡ b → l' ≡ l → LineCalled b l b' l' (Err condition)

-- the same as a step from a store and a list to a store and a list
abbrev pub LineStep : List ℕ × List ℕ → Text → List ℕ × List ℕ → Type 0
LineStep s line s' = LineCalled s.0 s.1 s'.0 s'.1 (read_line line)

-- a line that is run on a store: what it leaves of the store and the list, and its answer of `count` bytes at the front of the output
pub record LineRun (b l : List ℕ) (line : Text) (out : Text) (b' l' : List ℕ) (count : ℕ) (out' : Text) : Type 0 where
  pub called : LineCalled b l b' l' (read_line line)
  pub places : length l' ≡ length l
  pub put : AtFront (answer_line (line_outcome (stored.state_of b) line).answer) out count out'
  pub within : count ≤ length out

-- ---- as many lines as there is room for

-- lines that are run, what they print and leave, and the lines that are left
pub record Run : Type 0 where
  pub lines : List Text
  pub text : Text
  pub state : State
  pub list : List ℕ
  pub rest : List Text

-- no line is run
abbrev pub unrun : State → List ℕ → List Text → Run
unrun ts l xs = record { lines = []; text = []; state = ts; list = l; rest = xs }

-- how many bytes lines take in a script, with their line feeds
unfoldable pub lines_length : List Text → ℕ
lines_length [] = 0
lines_length (x ∷ xs) = length x + 1 + lines_length xs

-- the answer list after a line
unfoldable pub line_list : State → Reading → List ℕ → List ℕ
line_list ts (Ok c) l = list_after (machine script_records ts c script_places).answer l
line_list ts (Err condition) l = l

-- the answer list after some lines
unfoldable pub lines_list : State → List ℕ → List Text → List ℕ
lines_list ts l [] = l
lines_list ts l (x ∷ xs) = lines_list (line_outcome ts x).state (line_list ts (read_line x) l) xs

-- lines that print a text, before a run
abbrev pub run_before : List Text → Text → Run → Run
run_before xs bs r = record { lines = xs ++ r.lines; text = bs ++ r.text; state = r.state; list = r.list; rest = r.rest }

-- lines are run as long as there is room for any line
unfoldable pub run_lines : ℕ → State → List ℕ → List Text → Run
run_lines room ts l [] = unrun ts l []
run_lines room ts l (x ∷ xs) =
    cond (leb most_line room)
    (run_before (x ∷ []) (answer_line (line_outcome ts x).answer)
    (run_lines (room - length (answer_line (line_outcome ts x).answer)) (line_outcome ts x).state (line_list ts (read_line x) l) xs))
    (unrun ts l (x ∷ xs))

-- the lines of a script, run on a store until the output has no room for a line; `r` says how many bytes of the script were run and how many bytes were put out
pub record BlockRun (u : Run) (b l : List ℕ) (script : Text) (out : Text) (r : Block) (b' l' : List ℕ) (out' : Text) : Type 0 where
  pub ready : RunReady b' l'
  -- the lines were run one after the other, so that all that holds of one call holds of each line that reads as one
  pub called : Trace LineStep (b, l) u.lines (b', l')
  pub state_left : stored.state_of b' ≡ u.state
  pub list_left : l' ≡ u.list
  pub put : AtFront u.text out r.length out'
  pub fits : r.length ≤ length out
  -- the lines that were run; the last line of the script may lack its line feed
  pub consumed : r.consumed ≡ min (lines_length u.lines) (length script)
  pub rest : lines_of (drop r.consumed script) ≡ u.rest
  -- at least one line is run, where there is one and the output is long enough
  pub forward : 0 < length script → most_line ≤ length out → 0 < r.consumed

-- ---- a whole script

-- what a script leaves of a store and a list when all its lines are run
pub record ScriptRun (b l : List ℕ) (script : Text) (b' l' : List ℕ) : Type 0 where
  pub ready : RunReady b' l'
  pub called : Trace LineStep (b, l) (lines_of script) (b', l')
  pub state_left : stored.state_of b' ≡ lines_final (stored.state_of b) (lines_of script)
  pub list_left : l' ≡ lines_list (stored.state_of b) l (lines_of script)

-- ---- demand 1

-- of a line, from a store and a list to a store and a list
pub record LineDemand1 (s : List ℕ × List ℕ) (line : Text) (s' : List ℕ × List ℕ) : Type 0 where
  -- "unreadable; no call is made": no word of the store or of the list changes
  pub unreadable : (condition : Refusal) → read_line line ≡ Err condition → (s'.0 ≡ s.0) × (s'.1 ≡ s.1)
  -- a line that reads as a call has demand 1 of that call
  pub call : (c : Call) → read_line line ≡ Ok c
      → Demand1 stored s.0 s.1 c (answer_of (machine (stored.capacity_of s.0) (stored.state_of s.0) c (length s.1)).answer) s'.0 s'.1
