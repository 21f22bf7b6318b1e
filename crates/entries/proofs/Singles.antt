-- A key gives at most one first and one second entry.
use mathlib.Core.Bool.{Bool, true, false, cond, ◌&&◌}
use mathlib.Core.List.{List, [], ◌∷◌, ◌++◌}
use mathlib.Core.Logic.{◌⊎◌, inl, inr}
use mathlib.Core.Path.{◌≡◌, refl, sym, ap, subst}
use Prim.Native.Nat.{ℕ}
use lib.Dec.{eqb}
use Rattle.model.specs.declared.Direction.{Direction}
use Rattle.model.specs.declared.Direction.TheVariants.{Outpointing, Inpointing, Adjacent}
use Rattle.model.specs.declared.Key.{Key}
use Rattle.model.specs.declared.Pair.{Pair}
use Rattle.model.specs.Keys.{is_node, is_edge}
use Rattle.model.specs.Pairs.{pair, only_if, out_pair, in_pair, space_entry}
use Rattle.taken.specs.Selections.{passes}
use Rattle.entries.specs.declared.PairQuery.{PairQuery}
use Rattle.entries.specs.declared.Query.{Query}
use Rattle.entries.specs.declared.Query.TheVariants.{Pairs, Names}
use Rattle.entries.specs.declared.NamesQuery.{NamesQuery}
use Rattle.entries.specs.declared.NamesQuery.TheVariants.{Nodes, Spaces, SpacesOf}
use Rattle.entries.specs.Queries.{name_at, part_of, chosen, first_pairs, second_pairs, first_at, second_at}

-- ---- a key gives at most one first and one second entry

abbrev pub Single : List Pair → Type 0
Single ps = (ps ≡ []) ⊎ ((p : Pair) × (ps ≡ p ∷ []))

single_only_if : (b : Bool) (p : Pair) → Single (only_if b p)
single_only_if true p = inr (p, refl)
single_only_if false p = inl refl

single_cond : (b : Bool) (ps : List Pair) → Single ps → Single (cond b ps [])
single_cond true ps h = h
single_cond false ps h = inl refl

single_chosen : (q : PairQuery) (ps : List Pair) → Single ps → Single (chosen q ps)
unfolding chosen
single_chosen q ps (inl e) = inl (ap (chosen q) e)
single_chosen q ps (inr h) =
    subst (λ (xs : List Pair). Single (chosen q xs)) (sym h.1) (go (passes q.g q.m h.0))
  where
    go : (t : Bool) → Single (cond t (part_of q.part h.0 ∷ []) [])
    go true = inr (part_of q.part h.0, refl)
    go false = inl refl

single_first_pairs : (d : Direction) (n : ℕ) (k : Key) → Single (first_pairs d n k)
unfolding first_pairs out_pair in_pair
single_first_pairs Outpointing n k = single_only_if (is_edge k && eqb k.n n) (pair k.g k.m)
single_first_pairs Inpointing n k = single_only_if (is_edge k && eqb k.m n) (pair k.g k.n)
single_first_pairs Adjacent n k = single_only_if (is_edge k && eqb k.n n) (pair k.g k.m)

single_second_pairs : (d : Direction) (n : ℕ) (k : Key) → Single (second_pairs d n k)
unfolding second_pairs in_pair
single_second_pairs Outpointing n k = inl refl
single_second_pairs Inpointing n k = inl refl
single_second_pairs Adjacent n k = single_only_if (is_edge k && eqb k.m n) (pair k.g k.n)

single_name : (w : NamesQuery) (k : Key) → Single (name_at w k)
unfolding name_at
single_name (Nodes s) k = single_only_if (is_node k && eqb k.s s) (pair 0 k.n)
single_name Spaces k = single_cond (eqb k.n 0) (space_entry k.s) (inr (pair 0 k.s, refl))
single_name (SpacesOf n) k = single_cond (is_node k && eqb k.n n) (space_entry k.s) (inr (pair 0 k.s, refl))

pub single_first : (q : Query) (k : Key) → Single (first_at q k)
unfolding first_at
single_first (Pairs q) k = single_cond (eqb k.s q.s) _ (single_chosen q (first_pairs q.d q.n k) (single_first_pairs q.d q.n k))
single_first (Names w) k = single_name w k

pub single_second : (q : Query) (k : Key) → Single (second_at q k)
unfolding second_at
single_second (Pairs q) k = single_cond (eqb k.s q.s) _ (single_chosen q (second_pairs q.d q.n k) (single_second_pairs q.d q.n k))
single_second (Names w) k = inl refl

-- ---- all keys

abbrev pub entries_at : Query → Key → List Pair
entries_at q k = first_at q k ++ second_at q k
