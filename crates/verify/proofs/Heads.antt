-- Length and heads: what makes chains walkable.
use mathlib.Core.Bool.{Bool, true, false, not}
use mathlib.Core.List.{List}
use mathlib.Core.Path.{◌≡◌, sym, ◌∙◌}
use Prim.Native.Nat.{ℕ, ◌≤◌}
use native.Mathlib.Omega.{arith}
use lib.Dec.{eqb, leb}
use lib.ListN.{length}
use borrow.Author.Tests.{leb-true}
use Rattle.layouts.specs.Buffer.{word, head_words, fits_length, capacity_of}
use Rattle.model.proofs.Bools.{and_left, and_right, not_no}
use Rattle.layouts.proofs.Sizes.{fits_least, fits_most}
use Rattle.presence.specs.Presence.{Walkable}
use Rattle.verify.specs.Checks.{heads_fit}

-- ---- length and heads

-- words 0 to 3 are there
pub heads_there : (b : List ℕ) (t : Bool) → t ≡ fits_length b → not t ≡ false → head_words ≤ length b
heads_there b t e n = omega (arith, fits_least b (sym e ∙ not_no t n))

-- the test makes chains walkable
pub walkable : (b : List ℕ) → heads_fit b ≡ true → Walkable b
unfolding heads_fit
walkable b e =
    let C : ℕ = capacity_of b in
    let fits = and_left (fits_length b) _ e in
    let e₂ = and_right (fits_length b) _ e in
    let e₃ = and_right (eqb (word b 0) C) _ e₂ in
    record {
      least = fits_least b fits;
      most = fits_most b fits;
      used_head = leb-true (word b 1) C (and_left (leb (word b 1) C) (leb (word b 2) C) e₃);
      free_head = leb-true (word b 2) C (and_right (leb (word b 1) C) (leb (word b 2) C) e₃);
    }
