-- Document 01, "The script program `slips`": what a whole script prints.
use Rattle.std.specs.Prelude.{cond, Ok, Err, List, [], ◌∷◌, ◌++◌, ℕ, leb, length}
use Rattle.model.specs.declared.Refusal.TheVariants.{Unreadable}
use Rattle.model.specs.Tuples.{fresh}
use Rattle.model.specs.Steps.{refusal}
use Rattle.model.specs.Machine.{State, Outcome, machine}
use Rattle.text.specs.Bytes.{Text}
use Rattle.lines.specs.Lines.{lines_of}
use Rattle.lines.specs.Calls.{Reading, read_line}
use Rattle.print.specs.Answers.{answer_line}

-- "a fresh store with C = 2,048 and an answer list of 2,048 places"
abbrev pub script_records : ℕ
script_records = 2048

abbrev pub script_places : ℕ
script_places = 2048

-- a line that reads as a call is the machine's step; one that does not is refused, and makes no call
unfoldable pub reading_outcome : State → Reading → Outcome
reading_outcome ts (Ok c) = machine script_records ts c script_places
reading_outcome ts (Err condition) = record { answer = refusal condition; state = ts }

unfoldable pub line_outcome : State → Text → Outcome
line_outcome ts line = reading_outcome ts (read_line line)

-- "runs the lines": what they print one after the other ..
unfoldable pub lines_output : State → List Text → Text
lines_output ts [] = []
lines_output ts (l ∷ ls) = answer_line (line_outcome ts l).answer ++ lines_output (line_outcome ts l).state ls

-- .. and the state after the last
unfoldable pub lines_final : State → List Text → State
lines_final ts [] = ts
lines_final ts (l ∷ ls) = lines_final (line_outcome ts l).state ls

-- what the lines of a script print on a fresh store; "Empty input prints nothing"
unfoldable pub script_output : Text → Text
script_output script = lines_output fresh (lines_of script)

-- "It reads at most 65,536 bytes of standard input (more: the one line `R 11`)"
abbrev pub most_input : ℕ
most_input = 65536

unfoldable pub slips_output : Text → Text
slips_output input = cond (leb (length input) most_input) (script_output input) (answer_line (refusal Unreadable))
