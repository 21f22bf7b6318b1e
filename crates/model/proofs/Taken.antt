-- What each D operator takes is fair: with a tuple it takes all that names it (specs/Steps.antt).
use mathlib.Core.Bool.{Bool, true, false, ◌&&◌, ◌||◌, and-false}
use mathlib.Core.List.{List, [], ◌∷◌}
use mathlib.Core.Logic.{⊎_elim, ◌≢◌}
use mathlib.Core.Path.{◌≡◌, refl, sym, ap, ◌∙◌}
use Prim.Native.Nat.{ℕ}
use lib.Dec.{eqb}
use borrow.Author.Tests.{eqb-true, eq-eqb, ne_eqb}
use Rattle.model.specs.declared.Pair.{Pair}
use Rattle.model.specs.declared.Key.{Key}
use Rattle.model.specs.Keys.{space_key, node_key, edge_key}
use Rattle.model.specs.Tuples.{Tuples, remove}
use Rattle.model.specs.declared.Direction.{Direction}
use Rattle.model.specs.declared.Direction.TheVariants.{Outpointing, Inpointing, Adjacent}
use Rattle.model.specs.Pairs.{node_of, out_pair, in_pair, pairs_at, any_pair, EveryPair}
use Rattle.model.specs.Steps.{reaches, edges_taken, node_taken, remove_nodes, space_taken}
use Rattle.model.specs.Rules.{TupleRules}
use Rattle.model.proofs.Bools.{or_cases, or_left, or_right, and_left, and_right, and_both, neither, clash}
use Rattle.model.proofs.Rules.{Fair, remove_rules}

-- a removal that reaches a key in UNIVERSE is one from UNIVERSE, and reaches every key
reaches_all : (s : ℕ) (j k : Key) → j.s ≡ 0 → reaches s j ≡ true → reaches s k ≡ true
unfolding reaches
reaches_all s j k z e =
    ⊎_elim (λ f. or_left (eqb s 0) (eqb k.s s) f)
    (λ f. or_left (eqb s 0) (eqb k.s s) (eq-eqb s 0 (sym (eqb-true j.s s f) ∙ z)))
    (or_cases (eqb s 0) (eqb j.s s) e)

-- ---- edges

-- only edges give pairs
no_pairs : (d : Direction) (n s x : ℕ) → pairs_at d n (node_key s x) ≡ []
unfolding pairs_at out_pair in_pair
no_pairs Outpointing n s x = refl
no_pairs Inpointing n s x = refl
no_pairs Adjacent n s x = refl

-- the pairs that a key gives do not depend on its space
pairs_anywhere : (d : Direction) (n : ℕ) (k : Key) → pairs_at d n (edge_key 0 k.n k.g k.m) ≡ pairs_at d n k
unfolding pairs_at out_pair in_pair
pairs_anywhere Outpointing n k = refl
pairs_anywhere Inpointing n k = refl
pairs_anywhere Adjacent n k = refl

node_not_taken : (d : Direction) (s n : ℕ) (p : Pair → Bool) (x y : ℕ) → edges_taken d s n p (node_key x y) ≡ false
unfolding edges_taken any_pair
node_not_taken d s n p x y =
    ap (λ (ps : List Pair). reaches s (node_key x y) && any_pair p ps) (no_pairs d n x y) ∙ and-false (reaches s (node_key x y))

pub edges_fair : (d : Direction) (s n : ℕ) (p : Pair → Bool) → Fair (edges_taken d s n p)
unfolding edges_taken
edges_fair d s n p =
    record {
      universe = node_not_taken d s n p 0 0;
      node =
          λ k a b.
          (λ t. absurd (clash t (node_not_taken d s n p k.s 0)), λ t. absurd (clash t (node_not_taken d s n p 0 k.n)));
      edge =
          λ k a. (
            λ t. absurd (clash t (node_not_taken d s n p k.s k.n)),
            λ t. absurd (clash t (node_not_taken d s n p k.s k.m)),
            λ t.
                let j : Key = edge_key 0 k.n k.g k.m in
                and_both (reaches s k) (any_pair p (pairs_at d n k))
                (reaches_all s j k refl (and_left (reaches s j) (any_pair p (pairs_at d n j)) t))
                (ap (any_pair p) (sym (pairs_anywhere d n k)) ∙ and_right (reaches s j) (any_pair p (pairs_at d n j)) t),
          );
    }

-- ---- nodes

-- node n is not 0, so no space is taken with it
space_not_taken : (s n x : ℕ) → n ≢ 0 → node_taken s n (space_key x) ≡ false
unfolding node_taken
space_not_taken s n x h =
    let e : eqb 0 n ≡ false = ne_eqb 0 n (λ q. h (sym q)) in
    ap (λ (b : Bool). reaches s (space_key x) && b) (neither (eqb 0 n) (eqb 0 n) e e) ∙ and-false (reaches s (space_key x))

-- a node tuple that is taken is that of n
taken_is_n : (s n x y : ℕ) → n ≢ 0 → node_taken s n (node_key x y) ≡ true → eqb y n ≡ true
unfolding node_taken
taken_is_n s n x y h t =
    ⊎_elim (λ e. e) (λ e. absurd (h (sym (eqb-true 0 n e))))
    (or_cases (eqb y n) (eqb 0 n) (and_right (reaches s (node_key x y)) (eqb y n || eqb 0 n) t))

pub node_fair : (s n : ℕ) → n ≢ 0 → Fair (node_taken s n)
unfolding node_taken reaches
node_fair s n h =
    record {
      universe = space_not_taken s n 0 h;
      node =
          λ k a b. (
            λ t. absurd (clash t (space_not_taken s n k.s h)),
            λ t.
                let j : Key = node_key 0 k.n in
                and_both (reaches s k) (eqb k.n n || eqb k.m n)
                (reaches_all s j k refl (and_left (reaches s j) (eqb j.n n || eqb j.m n) t))
                (or_left (eqb k.n n) (eqb k.m n) (taken_is_n s n 0 k.n h t)),
          );
      edge =
          λ k a. (
            λ t.
                and_both (reaches s k) (eqb k.n n || eqb k.m n)
                (and_left (reaches s k) (eqb k.n n || eqb 0 n) t)
                (or_left (eqb k.n n) (eqb k.m n) (taken_is_n s n k.s k.n h t)),
            λ t.
                and_both (reaches s k) (eqb k.n n || eqb k.m n)
                (and_left (reaches s k) (eqb k.m n || eqb 0 n) t)
                (or_right (eqb k.n n) (eqb k.m n) (taken_is_n s n k.s k.m h t)),
            λ t.
                let j : Key = edge_key 0 k.n k.g k.m in
                and_both (reaches s k) (eqb k.n n || eqb k.m n)
                (reaches_all s j k refl (and_left (reaches s j) (eqb k.n n || eqb k.m n) t))
                (and_right (reaches s j) (eqb k.n n || eqb k.m n) t),
          );
    }

abbrev pub NodeNamed : Pair → Type 0
NodeNamed p = node_of p ≢ 0

pub remove_nodes_rules : (s : ℕ) (ps : List Pair) (ts : Tuples) → EveryPair NodeNamed ps → TupleRules ts → TupleRules (remove_nodes s ps ts)
unfolding remove_nodes
remove_nodes_rules s [] ts h R = R
remove_nodes_rules s (p ∷ ps) ts h R =
    remove_nodes_rules s ps (remove (node_taken s (node_of p)) ts) h.1 (remove_rules (node_taken s (node_of p)) ts (node_fair s (node_of p) h.0) R)

-- ---- spaces

pub space_fair : (s : ℕ) → s ≢ 0 → Fair (space_taken s)
unfolding space_taken
space_fair s h =
    let zero : eqb 0 s ≡ false = ne_eqb 0 s (λ q. h (sym q)) in
    record {
      universe = zero;
      node = λ k a b. (λ t. t, λ t. absurd (clash t zero));
      edge = λ k a. (λ t. t, λ t. t, λ t. absurd (clash t zero));
    }
