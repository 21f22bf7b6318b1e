-- The tests of the pair that a key gives.
use mathlib.Core.Bool.{Bool, true, false, ◌&&◌, ◌||◌, or-false, or_assoc}
use mathlib.Core.List.{List, [], ◌∷◌, ◌++◌}
use mathlib.Core.Path.{◌≡◌, refl, sym, ap, ◌∙◌}
use Prim.Native.Nat.{ℕ}
use lib.Dec.{eqb}
use Rattle.model.specs.declared.Key.{Key}
use Rattle.model.specs.declared.Pair.{Pair}
use Rattle.model.specs.Keys.{is_edge}
use Rattle.model.specs.Pairs.{pair, only_if, out_pair, in_pair, any_pair}
use Rattle.words.specs.Words.{reversed}

any_only_if : (p : Pair → Bool) (b : Bool) (q : Pair) → any_pair p (only_if b q) ≡ (b && p q)
unfolding any_pair
any_only_if p true q = or-false (p q)
any_only_if p false q = refl

module _ (p : Pair → Bool) (n : ℕ) (k : Key) where
  pub any_out : any_pair p (out_pair n k) ≡ ((is_edge k && eqb k.n n) && p (pair k.g k.m))
  unfolding out_pair
  any_out = any_only_if p (is_edge k && eqb k.n n) (pair k.g k.m)

  -- an edge to a node is one from it, seen the other way
  pub any_in : any_pair p (in_pair n k) ≡ any_pair p (out_pair n (reversed k))
  unfolding out_pair in_pair
  any_in = refl

pub any_append : (p : Pair → Bool) (xs ys : List Pair) → any_pair p (xs ++ ys) ≡ (any_pair p xs || any_pair p ys)
unfolding any_pair
any_append p [] ys = refl
any_append p (x ∷ xs) ys = ap (λ (b : Bool). p x || b) (any_append p xs ys) ∙ sym (or_assoc (p x) (any_pair p xs) (any_pair p ys))
