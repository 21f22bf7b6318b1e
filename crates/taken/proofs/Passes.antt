-- Which pairs pass where edge and node are asked for, or one of them (0: any).
use mathlib.Core.Bool.{Bool, true, ◌&&◌, ◌||◌, and-true}
use mathlib.Core.Logic.{◌≢◌}
use mathlib.Core.Path.{◌≡◌, refl, ap, ap₂, ◌∙◌}
use Prim.Native.Nat.{ℕ}
use lib.Dec.{eqb}
use borrow.Author.Tests.{ne_eqb}
use Rattle.model.specs.declared.Pair.{Pair}
use Rattle.model.specs.Pairs.{edge_of, node_of}
use Rattle.taken.specs.Selections.{passes}

-- a name that is not 0 is asked for
asked_name : (want name : ℕ) → want ≢ 0 → (eqb want 0 || eqb name want) ≡ eqb name want
asked_name want name h = ap (λ (b : Bool). b || eqb name want) (ne_eqb want 0 h)

pub passes_any : (p : Pair) → passes 0 0 p ≡ true
unfolding passes
passes_any p = refl

pub passes_edge : (g : ℕ) → g ≢ 0 → (p : Pair) → passes g 0 p ≡ eqb (edge_of p) g
unfolding passes
passes_edge g h p = and-true (eqb g 0 || eqb (edge_of p) g) ∙ asked_name g (edge_of p) h

pub passes_node : (m : ℕ) → m ≢ 0 → (p : Pair) → passes 0 m p ≡ eqb (node_of p) m
unfolding passes
passes_node m h p = asked_name m (node_of p) h

pub passes_both : (g m : ℕ) → g ≢ 0 → m ≢ 0 → (p : Pair) → passes g m p ≡ (eqb (edge_of p) g && eqb (node_of p) m)
unfolding passes
passes_both g m h k p = ap₂ ◌&&◌ (asked_name g (edge_of p) h) (asked_name m (node_of p) k)
