-- One removal with 0 for "any" is what each D operator takes (`destroyed`); the words that a removal works on.
use mathlib.Core.Bool.{Bool, true}
use mathlib.Core.Logic.{◌≢◌}
use mathlib.Core.Path.{◌≡◌, sym, ap, ◌∙◌, subst}
use mathlib.Core.List.{List}
use Prim.Native.Nat.{ℕ}
use Rattle.layouts.specs.Buffer.{tuples_of, is_store}
use Rattle.chain.specs.Links.{Edited}
use Rattle.edit.proofs.Built.{store_linked}
use Rattle.model.specs.declared.Fields.{Fields}
use Rattle.model.specs.declared.Direction.{Direction}
use Rattle.model.specs.declared.Pair.{Pair}
use Rattle.model.specs.declared.Removal.{Removal}
use Rattle.model.specs.Tuples.{Tuples, remove}
use Rattle.model.specs.Steps.{edges_taken, destroyed}
use Rattle.taken.specs.Selections.{passes}
use Rattle.taken.proofs.Passes.{passes_any, passes_edge, passes_node, passes_both}
use Rattle.taken.specs.declared.EdgesOf.{EdgesOf}
use Rattle.removals.specs.Collected.{edges_of, NamesIn, NamesRead, Removable}

-- the same test of pairs, the same tuples left
same_test : (d : Direction) (s n : ℕ) (p q : Pair → Bool) (ts : Tuples) → ((x : Pair) → p x ≡ q x)
    → remove (edges_taken d s n p) ts ≡ remove (edges_taken d s n q) ts
same_test d s n p q ts h = λ i. remove (edges_taken d s n (λ (x : Pair). h x i)) ts

-- what is left when these edges are removed
abbrev pub removed_by : EdgesOf → Tuples → Tuples
removed_by e ts = remove (edges_taken e.d e.s e.n (passes e.g e.m)) ts

-- what is left after each kind of removal; r is what the operator names
module _ (r : Removal) (f : Fields) (h : NamesRead r f) where
  names_of : {x : Removal} → r ≡ x → NamesIn x f
  names_of e = subst (λ (y : Removal). NamesIn y f) e h.named

  pub node_named : r ≡ Removal.UN → f.n ≢ 0
  node_named e = names_of e

  pub space_named : r ≡ Removal.US → f.s ≢ 0
  space_named e = names_of e

  pub edge_named : (d : Direction) → r ≡ Removal.NG d → f.g ≢ 0
  edge_named d e = names_of e

  module _ {b b' : List ℕ} where
    pub left_as : (x : Removal) → r ≡ x → Edited b b' (destroyed x f (tuples_of b)) → Edited b b' (destroyed r f (tuples_of b))
    left_as x e D = subst (λ (y : Removal). Edited b b' (destroyed y f (tuples_of b))) (sym e) D

    -- the same edges by another test
    by_test : (d : Direction) (e x : EdgesOf) (q : Pair → Bool) → e ≡ x → ((p : Pair) → passes x.g x.m p ≡ q p)
        → Edited b b' (removed_by e (tuples_of b)) → Edited b b' (remove (edges_taken x.d x.s x.n q) (tuples_of b))
    by_test d e x q E same D =
        subst (Edited b b') (ap (λ (y : EdgesOf). removed_by y (tuples_of b)) E ∙ same_test x.d x.s x.n (passes x.g x.m) q (tuples_of b) same) D

    pub pair_removed : (d : Direction) (e : EdgesOf) → r ≡ Removal.P d → e ≡ edges_of d f f.g f.m
        → Edited b b' (removed_by e (tuples_of b)) → Edited b b' (destroyed r f (tuples_of b))
    unfolding destroyed
    pair_removed d e is E D = left_as _ is (by_test d e (edges_of d f f.g f.m) _ E (passes_both f.g f.m (names_of is).0 (names_of is).1) D)

    pub edges_removed : (d : Direction) (e : EdgesOf) → r ≡ Removal.G d → e ≡ edges_of d f 0 0
        → Edited b b' (removed_by e (tuples_of b)) → Edited b b' (destroyed r f (tuples_of b))
    unfolding destroyed
    edges_removed d e is E D = left_as _ is (by_test d e (edges_of d f 0 0) _ E passes_any D)

    pub named_removed : (d : Direction) (e : EdgesOf) → r ≡ Removal.GG d → e ≡ edges_of d f f.g 0
        → Edited b b' (removed_by e (tuples_of b)) → Edited b b' (destroyed r f (tuples_of b))
    unfolding destroyed
    named_removed d e is E D = left_as _ is (by_test d e (edges_of d f f.g 0) _ E (passes_edge f.g (names_of is)) D)

    pub between_removed : (d : Direction) (e : EdgesOf) → r ≡ Removal.GN d → e ≡ edges_of d f 0 f.m
        → Edited b b' (removed_by e (tuples_of b)) → Edited b b' (destroyed r f (tuples_of b))
    unfolding destroyed
    between_removed d e is E D = left_as _ is (by_test d e (edges_of d f 0 f.m) _ E (passes_node f.m (names_of is)) D)

-- a store serves for every removal
pub store_removable : (r : Removal) (b : List ℕ) → is_store b ≡ true → Removable r b
store_removable r b e = record { linked = store_linked b e; nodes = λ d i. e; named_nodes = λ d i. e }
