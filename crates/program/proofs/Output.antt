-- What is written block by block is what the lines of a script print, one after the other.
use Rattle.std.specs.Prelude.{Option, Result, Ok, Err, OnOk, List, [], ◌++◌, ◌≡◌, ℕ, length, take, drop}
use Rattle.std.proofs.Common.{refl, sym, ◌∙◌, ap, subst, append_assoc}
use Rattle.std.specs.Result.{result_and}
use Rattle.std.specs.Io.KnownBytes.{Appends}
use Rattle.std.proofs.KnownBytes.{Appends-nil, Appends-trans}
use Rattle.layouts.specs.Stored.{stored}
use Rattle.text.specs.Bytes.{Text}
use Rattle.lines.specs.Lines.{lines_of}
use Rattle.script.specs.declared.Block.{Block}
use Rattle.script.specs.Scripts.{lines_output}
use Rattle.script.specs.Runs.{run_lines, BlockRun}
use Rattle.script.proofs.Blocks.{block_text}

-- what the lines of a part of a script print
abbrev printed : List ℕ → Text → Text
printed b script = lines_output (stored.state_of b) (lines_of script)

-- the output has all that a script prints but what its part `rest` prints, whose lines are left
pub record Written (held held' : Option Text) (b₀ : List ℕ) (script : Text) (b : List ℕ) (rest : Text) : Type 0 where
  pub text : Text
  pub appended : Appends held held' text
  pub split : text ++ printed b rest ≡ printed b₀ script

pub nothing_written : (held : Option Text) (b₀ : List ℕ) (script : Text) → Written held held b₀ script b₀ script
nothing_written held b₀ script = record { text = []; appended = Appends-nil held; split = refl }

pub block_written : (held held' held'' : Option Text) (b₀ : List ℕ) (script : Text) (b l b' l' : List ℕ) (rest : Text) (out : Text) (r : Block) (out' rest' : Text)
    → Written held held' b₀ script b rest
    → BlockRun (run_lines (length out) (stored.state_of b) l (lines_of rest)) b l rest out r b' l' out'
    → rest' ≡ drop r.consumed rest
    → Appends held' held'' (take r.length out')
    → Written held held'' b₀ script b' rest'
block_written held held' held'' b₀ script b l b' l' rest out r out' rest' V B e more =
    record {
      text = V.text ++ take r.length out';
      appended = Appends-trans held held' held'' V.text (take r.length out') V.appended more;
      split =
          append_assoc V.text (take r.length out') (printed b' rest')
          ∙ ap (λ (bs : Text). V.text ++ (take r.length out' ++ printed b' bs)) e
          ∙ ap (λ (bs : Text). V.text ++ bs) (block_text b l rest out r b' l' out' B)
          ∙ V.split;
    }

-- of two results, the second of which counts where the first is good
pub both_good : {E P Q R : Type 0} (r s q : Result (Unit {0}) E) → q ≡ result_and r s → (P → Q → R) → OnOk r P → OnOk s Q → OnOk q R
both_good {E} {P} {Q} {R} r s q e both p o = subst (λ (x : Result (Unit {0}) E). OnOk x R) (sym e) (go r s p o)
  where
    go : (r s : Result (Unit {0}) E) → OnOk r P → OnOk s Q → OnOk (result_and r s) R
    go (Ok x) (Ok y) p o = both p o
    go (Ok x) (Err y) p o = tt
    go (Err x) s p o = tt
