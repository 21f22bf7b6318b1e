-- What a tuple names, sought in the used chain from its head; the ends of an edge are in EdgeEnds.antt.
use mathlib.Core.Bool.{Bool, false≢true}
use mathlib.Core.List.{List}
use mathlib.Core.Logic.{◌≢◌}
use mathlib.Core.Path.{◌≡◌, sym, ap, ◌∙◌, subst}
use Prim.Native.Nat.{ℕ}
use Rattle.model.specs.declared.Key.{Key}
use Rattle.model.specs.Ordered.{Ascending}
use Rattle.model.specs.Keys.{key_of, compare_keys}
use Rattle.model.specs.Tuples.{present}
use Rattle.layouts.specs.Buffer.{word, tuples_of}
use Rattle.model.proofs.Sound.{from_universe_yes}
use Rattle.presence.specs.Presence.{tuples_from, Seekable, Sorted}
use Rattle.presence.proofs.Rest.{used_from_head, on_head, ascends_empty}

-- ---- from the head

module _ (b : List ℕ) (h : ℕ) (S : Sorted b) (e : h ≡ word b 1) where
  pub from_head : Seekable b h
  from_head =
      record {
        walkable = S.used.walkable;
        on = on_head b h S.used e;
        ascends = subst (Ascending key_of compare_keys) (sym (used_from_head b h e)) (from_universe_yes (tuples_of b) S.ascends).0;
      }

  -- what a search from the head says
  pub head_says : (j k : Key) → j ≡ k → (r : Bool) → r ≡ present j (tuples_from b h) → r ≡ present k (tuples_of b)
  head_says j k g r f = f ∙ ap (present j) (used_from_head b h e) ∙ ap (λ (i : Key). present i (tuples_of b)) g

  -- the used chain is not empty
  pub head_some : h ≢ 0
  head_some z = false≢true (ascends_empty b S.used h e z ∙ S.ascends)
