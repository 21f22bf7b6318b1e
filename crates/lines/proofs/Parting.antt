-- A text parted at a byte, into lines or into words: what stands before the first such byte is the first part.
use mathlib.Core.Bool.{Bool, true, cond}
use mathlib.Core.List.{List, [], ◌∷◌, ◌++◌}
use mathlib.Core.Path.{◌≡◌, ap, ◌∙◌}
use Prim.Native.Nat.{ℕ}
use lib.Dec.{eqb}
use Rattle.text.specs.Bytes.{Text}
use Rattle.text.proofs.Lacking.{lacks, lacks_first, lacks_rest}
use Rattle.lines.specs.Lines.{in_front}

-- a text without the byte, in front of one whose first part is empty
pub parted_off : (end : ℕ) (parts : Text → List Text)
    → ((b : ℕ) (bs : Text) → parts (b ∷ bs) ≡ cond (eqb b end) ([] ∷ parts bs) (in_front b (parts bs)))
    → (t rest : Text) (ps : List Text) → lacks end t ≡ true → parts rest ≡ [] ∷ ps → parts (t ++ rest) ≡ t ∷ ps
unfolding in_front
parted_off end parts law [] rest ps h e = e
parted_off end parts law (b ∷ bs) rest ps h e =
    law b (bs ++ rest)
    ∙ ap (λ (t : Bool). cond t ([] ∷ parts (bs ++ rest)) (in_front b (parts (bs ++ rest)))) (lacks_first end b bs h)
    ∙ ap (in_front b) (parted_off end parts law bs rest ps (lacks_rest end b bs h) e)
