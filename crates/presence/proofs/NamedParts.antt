-- What a tuple names in two parts: all but the ends of an edge, and these.
use mathlib.Core.Bool.{Bool, true, false, not, ◌&&◌, ◌||◌}
use mathlib.Core.List.{[], ◌∷◌}
use mathlib.Core.Path.{◌≡◌, refl, sym, ap, ap₂, ◌∙◌}
use Rattle.model.specs.declared.Key.{Key}
use Rattle.model.specs.Keys.{node_key, edge_key, is_edge}
use Rattle.model.specs.Tuples.{Tuples, present}
use Rattle.model.specs.Rules.{node_supported, edge_supported, every_key}
use Rattle.presence.specs.Presence.{supported, edge_in_universe, named_present, ends_present}

-- ---- tests

and_middle : (a b c d : Bool) → ((a && b) && (c && d)) ≡ ((a && c) && (b && d))
and_middle true true c d = refl
and_middle true false true d = refl
and_middle true false false d = refl
and_middle false b c d = refl

-- a test of both is both tests
pub every_and : (p q : Key → Bool) (ts : Tuples) → every_key (λ (k : Key). p k && q k) ts ≡ (every_key p ts && every_key q ts)
unfolding every_key
every_and p q [] = refl
every_and p q (t ∷ ts) =
    ap (λ (a : Bool). (p t.key && q t.key) && a) (every_and p q ts) ∙ and_middle (p t.key) (q t.key) (every_key p ts) (every_key q ts)

every_same : (p q : Key → Bool) → ((k : Key) → p k ≡ q k) → (ts : Tuples) → every_key p ts ≡ every_key q ts
unfolding every_key
every_same p q h [] = refl
every_same p q h (t ∷ ts) = ap₂ ◌&&◌ (h t.key) (every_same p q h ts)

-- ---- the two parts

-- what a tuple names: all but the ends of an edge, and these
supported_parts : (ts : Tuples) (k : Key) → supported ts k ≡ (named_present ts k && ends_present ts k)
unfolding supported edge_supported named_present edge_in_universe ends_present
supported_parts ts k =
    go (node_supported ts k) (not (is_edge k)) (present (node_key k.s k.n) ts) (present (node_key k.s k.m) ts)
    (present (edge_key 0 k.n k.g k.m) ts)
  where
    go : (d e n m u : Bool) → (d && (e || (n && (m && u)))) ≡ ((d && (e || u)) && (e || (n && m)))
    go false e n m u = refl
    go true true n m u = refl
    go true false true true true = refl
    go true false true true false = refl
    go true false true false true = refl
    go true false true false false = refl
    go true false false m true = refl
    go true false false m false = refl

module _ (ts : Tuples) (named : Bool) (m : named ≡ every_key (named_present ts) ts) where
  named_ends : every_key (supported ts) ts ≡ (named && every_key (ends_present ts) ts)
  named_ends =
      every_same (supported ts) (λ (k : Key). named_present ts k && ends_present ts k) (supported_parts ts) ts
      ∙ every_and (named_present ts) (ends_present ts) ts ∙ ap (λ (a : Bool). a && every_key (ends_present ts) ts) (sym m)

  pub named_no_all : named ≡ false → named ≡ every_key (supported ts) ts
  named_no_all f = f ∙ sym (named_ends ∙ ap (λ (a : Bool). a && every_key (ends_present ts) ts) f)

  pub named_yes_ends : named ≡ true → (r : Bool) → r ≡ every_key (ends_present ts) ts → r ≡ every_key (supported ts) ts
  named_yes_ends f r e = e ∙ sym (named_ends ∙ ap (λ (a : Bool). a && every_key (ends_present ts) ts) f)
