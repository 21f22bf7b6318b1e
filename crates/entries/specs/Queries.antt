-- What a list holds, as one value: the entries that S operators list.
use Rattle.std.specs.Prelude.{Bool, false, cond, not, ◌&&◌, ◌||◌, List, [], ◌∷◌, ◌++◌, map, ℕ, eqb, length, drop}
use Rattle.model.specs.declared.Direction.{Direction}
use Rattle.model.specs.declared.Direction.TheVariants.{Outpointing, Inpointing, Adjacent}
use Rattle.model.specs.declared.Key.{Key}
use Rattle.model.specs.declared.Pair.{Pair}
use Rattle.model.specs.Keys.{is_node, space_key, node_key}
use Rattle.model.specs.Tuples.{Tuples}
use Rattle.model.specs.Pairs.{pair, edge_of, node_of, ascending, gather, only_if, out_pair, in_pair, space_entry}
use Rattle.model.specs.OneCall.{pack}
use Rattle.layouts.specs.Buffer.{key_at, used_of, tuples_of}
use Rattle.model.specs.Rules.{Has, Small}
use Rattle.chain.specs.Links.{both_ways, Linked, place_in}
use Rattle.taken.specs.Selections.{passes}
use Rattle.entries.specs.declared.Part.{Part}
use Rattle.entries.specs.declared.Part.TheVariants.{Both, Edge, Node}
use Rattle.entries.specs.declared.PairQuery.{PairQuery}
use Rattle.entries.specs.declared.Query.{Query}
use Rattle.entries.specs.declared.Query.TheVariants.{Pairs, Names}
use Rattle.entries.specs.declared.NamesQuery.{NamesQuery}
use Rattle.entries.specs.declared.NamesQuery.TheVariants.{Nodes, Spaces, SpacesOf}

-- the part of a pair that is listed: the pair, its edge name, its node
unfoldable pub part_of : Part → Pair → Pair
part_of Both p = p
part_of Edge p = pair (edge_of p) 0
part_of Node p = pair 0 (node_of p)

-- of some pairs those with the edge and node that are asked for, of each the part that is listed
unfoldable pub chosen : PairQuery → List Pair → List Pair
chosen q [] = []
chosen q (p ∷ ps) =
    cond (passes q.g q.m p) (part_of q.part p ∷ chosen q ps) (chosen q ps)

-- the pair that an edge between two ends gives n, where the first end is n; edge 0 is none
unfoldable pub end_pair : ℕ → ℕ → ℕ → ℕ → List Pair
end_pair n edge first second = only_if (not (eqb edge 0) && eqb first n) (pair edge second)

-- a key gives node n at most two pairs: the first, and for adjacent pairs a second
unfoldable pub first_pairs : Direction → ℕ → Key → List Pair
first_pairs Outpointing n k = out_pair n k
first_pairs Inpointing n k = in_pair n k
first_pairs Adjacent n k = out_pair n k

unfoldable pub second_pairs : Direction → ℕ → Key → List Pair
second_pairs Outpointing n k = []
second_pairs Inpointing n k = []
second_pairs Adjacent n k = in_pair n k

-- the name that a key gives: of a node, or of a space
unfoldable pub name_at : NamesQuery → Key → List Pair
name_at (Nodes s) k = only_if (is_node k && eqb k.s s) (pair 0 k.n)
name_at Spaces k = cond (eqb k.n 0) (space_entry k.s) []
name_at (SpacesOf n) k = cond (is_node k && eqb k.n n) (space_entry k.s) []

-- the entries that a key gives: at most one first, at most one second
unfoldable pub first_at : Query → Key → List Pair
first_at (Pairs q) k = cond (eqb k.s q.s) (chosen q (first_pairs q.d q.n k)) []
first_at (Names w) k = name_at w k

unfoldable pub second_at : Query → Key → List Pair
second_at (Pairs q) k = cond (eqb k.s q.s) (chosen q (second_pairs q.d q.n k)) []
second_at (Names w) k = []

-- the list: the entries of all keys, ascending, each once
unfoldable pub queried : Query → Tuples → List Pair
queried q ts = ascending (gather (λ (k : Key). first_at q k ++ second_at q k) ts)

-- ---- the part of the chain that can give entries

-- no key below this one gives an entry
unfoldable pub pairs_start : Direction → ℕ → ℕ → Key
pairs_start Outpointing s n = node_key s n
pairs_start Inpointing s n = space_key s
pairs_start Adjacent s n = space_key s

unfoldable pub names_start : NamesQuery → Key
names_start (Nodes s) = space_key s
names_start Spaces = space_key 0
names_start (SpacesOf n) = space_key 0

unfoldable pub start_key : Query → Key
start_key (Pairs q) = pairs_start q.d q.s q.n
start_key (Names w) = names_start w

-- the first record that can give an entry; 0 for none
unfoldable pub start_in : List ℕ → Query → ℕ
start_in b q = (place_in (key_at b) (start_key q) 0 (used_of b)).at

-- a key outside the space or the node that is asked for: behind the start neither it nor a later one gives an entry
unfoldable pub pairs_outside : Direction → ℕ → ℕ → Key → Bool
pairs_outside Outpointing s n k = not (eqb k.s s) || not (eqb k.n n)
pairs_outside Inpointing s n k = not (eqb k.s s)
pairs_outside Adjacent s n k = not (eqb k.s s)

unfoldable pub names_outside : NamesQuery → Key → Bool
names_outside (Nodes s) k = not (eqb k.s s)
names_outside Spaces k = false
names_outside (SpacesOf n) k = false

unfoldable pub outside : Query → Key → Bool
outside (Pairs q) k = pairs_outside q.d q.s q.n k
outside (Names w) k = names_outside w k

-- is a node one of the two ends of an edge
unfoldable pub ends_at : ℕ → Key → Bool
ends_at n k = eqb k.n n || eqb k.m n

-- ---- what is written, and what is asked of a buffer

-- what the functions that list ask of a buffer: chains, and names that fit half a word
pub record Readable (b : List ℕ) : Type 0 where
  pub linked : Linked b
  pub small : (k : Key) → Has k (tuples_of b) → Small k

-- the answer list with the entries in its first places; "the rest stays"
unfoldable pub written_pairs : List Pair → List ℕ → List ℕ
written_pairs ps l = map pack ps ++ drop (length ps) l

-- for adjacent pairs a key can give a second
unfoldable pub gives_two : Query → Bool
gives_two (Pairs q) = both_ways q.d
gives_two (Names w) = false
