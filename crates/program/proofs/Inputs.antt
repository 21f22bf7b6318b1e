-- What is printed for the bytes that were read is what is printed for the whole input; and how the bytes are read one read after the other.
use Rattle.std.specs.Prelude.{Option, None, Some, Bool, true, false, [], ◌++◌, ◌≡◌, ℕ, ◌+◌, ◌-◌, ◌≤◌, IfSome, leb, length, take, drop}
use Rattle.std.proofs.Common.{refl, sym, ◌∙◌, ap, ap₂, subst, arith, append-nil, length-append, length-take-le}
use Rattle.std.proofs.Math.Seq.{take-add}
use borrow.Rule.Slice.PartMut.{put_mid}
use lib.Seq.{take_at, drop_at, take-append-le}
use Rattle.std.proofs.lemmas.Bool.{leb-true, leb-false, lt-leb}
use Rattle.std.specs.Io.KnownBytes.{Consumes, Appends, IsAtEnd}
use Rattle.model.specs.declared.Refusal.TheVariants.{Unreadable}
use Rattle.model.specs.Steps.{refusal}
use Rattle.model.proofs.Bools.{cond_no}
use Rattle.text.specs.Bytes.{Text}
use Rattle.print.specs.Answers.{answer_line}
use Rattle.script.specs.Scripts.{script_output, most_input, slips_output}

-- an input that is longer than a script may be is refused, whatever stands behind the bytes that show it
module _ (front rest : Text) (ended : length front ≤ most_input → rest ≡ []) where
  by_length : (t : Bool) → leb (length front) most_input ≡ t → slips_output front ≡ slips_output (front ++ rest)
  unfolding slips_output
  by_length true e =
      ap slips_output (sym (ap (λ (bs : Text). front ++ bs) (ended (leb-true _ _ e)) ∙ append-nil front))
  by_length false e =
      sym (cond_no _ (script_output front) (answer_line (refusal Unreadable)) e)
      ∙ cond_no _ (script_output (front ++ rest)) (answer_line (refusal Unreadable))
      (lt-leb (length (front ++ rest)) most_input (omega (arith, leb-false (length front) most_input e, length-append front rest)))

  pub same_output : slips_output front ≡ slips_output (front ++ rest)
  same_output = by_length (leb (length front) most_input) refl

pub whole_input : (left left' held held' : Option Text) (front : Text) → Consumes left left' front → (length front ≤ most_input → IsAtEnd left')
    → Appends held held' (slips_output front) → IfSome left (λ bytes. Appends held held' (slips_output bytes))
whole_input None left' held held' front read ended printed = tt
whole_input (Some bytes) None held held' front read ended printed = elim read [ ]
whole_input (Some bytes) (Some rest) held held' front read ended printed =
    subst (λ (bs : Text). Appends held held' bs) (same_output front rest ended ∙ ap slips_output (sym read)) printed

-- what was read before, and what one more read puts behind it
pub more_read : (bytes more : Text) (done count : ℕ) → done ≤ length bytes → count ≤ length more
    → take (done + count) (put_mid done (length bytes - done) bytes more) ≡ take done bytes ++ take count more
more_read bytes more done count h k =
    let rest : Text = more ++ drop (length bytes - done) (drop done bytes) in
    take-add done count (take done bytes ++ rest)
    ∙ ap₂ (λ (xs ys : Text). xs ++ take count ys) (take_at (take done bytes) rest done (length-take-le done bytes h)) (drop_at (take done bytes) rest done (length-take-le done bytes h))
    ∙ ap (λ (xs : Text). take done bytes ++ xs) (take-append-le count more (drop (length bytes - done) (drop done bytes)) k)
