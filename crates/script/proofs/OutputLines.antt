-- "Output, a line each": a script prints one line for each of its lines, and that is the text of its answer.
use mathlib.Core.List.{List, [], ◌∷◌, append_assoc}
use mathlib.Core.Path.{◌≡◌, refl, ap, ◌∙◌}
use Prim.Native.Nat.{suc}
use lib.ListN.{length}
use Rattle.model.specs.Tuples.{fresh}
use Rattle.model.specs.Machine.{State}
use Rattle.text.specs.Bytes.{Text, line_feed}
use Rattle.lines.specs.Lines.{lines_of}
use Rattle.lines.proofs.Parting.{parted_off}
use Rattle.print.specs.Answers.{answer_text, answer_line}
use Rattle.print.proofs.OneLine.{feedless_answer}
use Rattle.script.specs.Scripts.{line_outcome, lines_output, script_output}

-- the texts of the answers, line after line
unfoldable pub answer_texts : State → List Text → List Text
answer_texts ts [] = []
answer_texts ts (l ∷ ls) = answer_text (line_outcome ts l).answer ∷ answer_texts (line_outcome ts l).state ls

pub output_lines : (ts : State) (ls : List Text) → lines_of (lines_output ts ls) ≡ answer_texts ts ls
unfolding lines_of lines_output answer_line answer_texts
output_lines ts [] = refl
output_lines ts (l ∷ ls) =
    let text : Text = answer_text (line_outcome ts l).answer in
    let rest : Text = lines_output (line_outcome ts l).state ls in
    ap lines_of (append_assoc text (line_feed ∷ []) rest)
    ∙ parted_off line_feed lines_of (λ b bs. refl) text (line_feed ∷ rest) (lines_of rest) (feedless_answer (line_outcome ts l).answer) refl
    ∙ ap (λ (xs : List Text). text ∷ xs) (output_lines (line_outcome ts l).state ls)

answers_counted : (ts : State) (ls : List Text) → length (answer_texts ts ls) ≡ length ls
unfolding answer_texts
answers_counted ts [] = refl
answers_counted ts (l ∷ ls) = ap suc (answers_counted (line_outcome ts l).state ls)

-- as many lines are printed as the script has
pub a_line_each : (script : Text) → length (lines_of (script_output script)) ≡ length (lines_of script)
unfolding script_output
a_line_each script = ap length (output_lines fresh (lines_of script)) ∙ answers_counted fresh (lines_of script)
