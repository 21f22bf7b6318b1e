-- Document 01, "Pairs of n in s", and the lists that S operators answer.
use Rattle.std.specs.Prelude.{Bool, false, cond, ◌&&◌, ◌||◌, List, [], ◌∷◌, ◌++◌, map, eqb}
use Prim.Native.Nat.{ℕ, compare, Ordering}
use Rattle.model.specs.declared.Pair.{Pair}
use Rattle.model.specs.Ordered.{holds, put, then_by}
use Rattle.model.specs.declared.Key.{Key}
use Rattle.model.specs.Keys.{is_node, is_edge, edge_key}
use Rattle.model.specs.Tuples.{Tuples}
use Rattle.model.specs.declared.Direction.{Direction}
use Rattle.model.specs.declared.Direction.TheVariants.{Outpointing, Inpointing, Adjacent}

-- "pairs (edge, node)"
abbrev pub pair : ℕ → ℕ → Pair
pair g m = record { edge = record { 0 = g }; node = record { 0 = m } }

abbrev pub edge_of : Pair → ℕ
edge_of p = p.edge.0

abbrev pub node_of : Pair → ℕ
node_of p = p.node.0

-- "ascending by edge, then node"
unfoldable pub compare_pairs : Pair → Pair → Ordering
compare_pairs p q = then_by (compare (edge_of p) (edge_of q)) (compare (node_of p) (node_of q))

abbrev pub itself : Pair → Pair
itself p = p

-- does a list hold a pair
abbrev pub member : Pair → List Pair → Bool
member p ps = holds itself compare_pairs p ps

-- ".. each once": the pairs of a list, ascending, each once
unfoldable pub ascending : List Pair → List Pair
ascending [] = []
ascending (p ∷ ps) = put itself compare_pairs p (ascending ps)

-- what each tuple's key gives, one after the other
unfoldable pub gather : (Key → List Pair) → Tuples → List Pair
gather f [] = []
gather f (t ∷ ts) = f t.key ++ gather f ts

abbrev pub only_if : Bool → Pair → List Pair
only_if b p = cond b (p ∷ []) []

-- "outpointing, each (g,m) with (s,n,g,m) present": the pair that a key gives n, in whatever space the key is
unfoldable pub out_pair : ℕ → Key → List Pair
out_pair n k = only_if (is_edge k && eqb k.n n) (pair k.g k.m)

-- "inpointing, each (g,m) with (s,m,g,n) present"
unfoldable pub in_pair : ℕ → Key → List Pair
in_pair n k = only_if (is_edge k && eqb k.m n) (pair k.g k.n)

-- "adjacent, either"
unfoldable pub pairs_at : Direction → ℕ → Key → List Pair
pairs_at Outpointing n k = out_pair n k
pairs_at Inpointing n k = in_pair n k
pairs_at Adjacent n k = out_pair n k ++ in_pair n k

-- "Pairs of n in s"
unfoldable pub pairs_of : Direction → ℕ → ℕ → Tuples → List Pair
pairs_of d s n ts = ascending (gather (λ (k : Key). cond (eqb k.s s) (pairs_at d n k) []) ts)

-- "an edge name [fills] the edge place with node 0"
unfoldable pub edge_names : List Pair → List Pair
edge_names ps = ascending (map (λ (p : Pair). pair (edge_of p) 0) ps)

-- "A node or space name fills the node place with edge 0"
unfoldable pub node_names : List Pair → List Pair
node_names ps = ascending (map (λ (p : Pair). pair 0 (node_of p)) ps)

-- "pairs with edge g", "pairs with node m"
unfoldable pub only : (Pair → Bool) → List Pair → List Pair
only p [] = []
only p (q ∷ qs) = cond (p q) (q ∷ only p qs) (only p qs)

abbrev pub with_edge : ℕ → List Pair → List Pair
with_edge g = only (λ (p : Pair). eqb (edge_of p) g)

abbrev pub with_node : ℕ → List Pair → List Pair
with_node m = only (λ (p : Pair). eqb (node_of p) m)

-- "list the nodes of s"
unfoldable pub nodes_in : ℕ → Tuples → List Pair
nodes_in s ts = ascending (gather (λ (k : Key). only_if (is_node k && eqb k.s s) (pair 0 k.n)) ts)

-- a space as a list has it: UNIVERSE too, as 0:0 (docs/DECISIONS.md: SUS lists UNIVERSE)
abbrev pub space_entry : ℕ → List Pair
space_entry s = pair 0 s ∷ []

-- "all spaces"
unfoldable pub spaces_in : Tuples → List Pair
spaces_in ts = ascending (gather (λ (k : Key). cond (eqb k.n 0) (space_entry k.s) []) ts)

-- "the spaces that hold n"
unfoldable pub spaces_with : ℕ → Tuples → List Pair
spaces_with n ts = ascending (gather (λ (k : Key). cond (is_node k && eqb k.n n) (space_entry k.s) []) ts)

-- "A pair's edge is that tuple (for A, each of the two ..)": the keys in s of the edges of the pair (g,m) of n
abbrev pub pair_keys : Direction → ℕ → ℕ → ℕ → ℕ → List Key
pair_keys Outpointing s n g m = edge_key s n g m ∷ []
pair_keys Inpointing s n g m = edge_key s m g n ∷ []
pair_keys Adjacent s n g m = edge_key s n g m ∷ edge_key s m g n ∷ []

-- does a test hold of one of the pairs
unfoldable pub any_pair : (Pair → Bool) → List Pair → Bool
any_pair p [] = false
any_pair p (q ∷ qs) = p q || any_pair p qs

-- each of the pairs has such a property
abbrev pub EveryPair : (Pair → Type 0) → List Pair → Type 0
EveryPair P [] = Unit {0}
EveryPair P (p ∷ ps) = P p × EveryPair P ps
