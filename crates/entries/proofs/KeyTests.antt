-- What the tests of a key say of it.
use mathlib.Core.Bool.{Bool, false, not, ◌||◌}
use mathlib.Core.Logic.{◌⊎◌, inl, inr}
use mathlib.Core.Path.{◌≡◌, refl, sym, ap, ◌∙◌}
use Prim.Native.Nat.{ℕ}
use lib.Dec.{eqb}
use borrow.Author.Tests.{eq-eqb, ne_eqb}
use Rattle.model.specs.declared.Direction.{Direction}
use Rattle.model.specs.declared.Direction.TheVariants.{Outpointing, Inpointing, Adjacent}
use Rattle.model.specs.declared.Key.{Key}
use Rattle.entries.specs.declared.PairQuery.{PairQuery}
use Rattle.entries.specs.declared.Query.TheVariants.{Pairs}
use Rattle.entries.specs.declared.NamesQuery.{NamesQuery}
use Rattle.entries.specs.declared.NamesQuery.TheVariants.{Nodes, Spaces, SpacesOf}
use Rattle.entries.specs.Queries.{names_outside, pairs_outside, outside}

-- ---- where the entries of a query can be

module _ (q : PairQuery) (k : Key) where
  by_direction : (d : Direction) → q.d ≡ d → (r : Bool) → r ≡ pairs_outside d q.s q.n k → r ≡ outside (Pairs q) k
  unfolding outside
  by_direction d e r er = er ∙ sym (ap (λ (x : Direction). pairs_outside x q.s q.n k) e)

  pub outside_space : q.d ≡ Outpointing → (k.s ≡ q.s → ⊥) → not (eqb k.s q.s) ≡ outside (Pairs q) k
  unfolding pairs_outside
  outside_space e d =
      let y = ne_eqb k.s q.s d in by_direction Outpointing e _ (ap not y ∙ sym (ap (λ (t : Bool). not t || not (eqb k.n q.n)) y))

  pub outside_node : q.d ≡ Outpointing → k.s ≡ q.s → not (eqb k.n q.n) ≡ outside (Pairs q) k
  unfolding pairs_outside
  outside_node e d = by_direction Outpointing e _ (sym (ap (λ (t : Bool). not t || not (eqb k.n q.n)) (eq-eqb k.s q.s d)))

  pub outside_other : (q.d ≡ Inpointing) ⊎ (q.d ≡ Adjacent) → not (eqb k.s q.s) ≡ outside (Pairs q) k
  unfolding pairs_outside
  outside_other (inl e) = by_direction Inpointing e _ refl
  outside_other (inr e) = by_direction Adjacent e _ refl

-- ---- names, by the variant that was tested

-- names that are not the nodes of a space are never outside
pub never_outside : (w : NamesQuery) (k : Key) → ((s : ℕ) → w ≡ Nodes s → ⊥) → false ≡ names_outside w k
unfolding names_outside
never_outside (Nodes s) k o = absurd (o s refl)
never_outside Spaces k o = refl
never_outside (SpacesOf n) k o = refl

pub nodes_outside : (w : NamesQuery) (s : ℕ) (k : Key) → w ≡ Nodes s → not (eqb k.s s) ≡ names_outside w k
unfolding names_outside
nodes_outside w s k e = ap (λ (x : NamesQuery). names_outside x k) (sym e)
