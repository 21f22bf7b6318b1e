-- The edges that a D operator means; nodes removed one after the other, from a list of their names as words; what a removal requires.
use Rattle.std.specs.Prelude.{true, List, [], ◌∷◌, ◌≢◌, ◌≡◌, ℕ, ◌<◌, length, get_or}
use Rattle.model.specs.declared.Direction.{Direction}
use Rattle.model.specs.declared.Fields.{Fields}
use Rattle.model.specs.declared.Pair.{Pair}
use Rattle.model.specs.declared.Removal.{Removal}
use Rattle.taken.specs.declared.EdgesOf.{EdgesOf}
use Rattle.model.specs.Pairs.{edge_of, node_of, EveryPair}
use Rattle.model.specs.Tuples.{Tuples, remove}
use Rattle.layouts.specs.Buffer.{is_store}
use Rattle.model.specs.Steps.{node_taken}
use Rattle.chain.specs.Links.{Linked}

-- the edges that a D operator means: those of the pairs of node n with edge g and node m (0: any)
abbrev pub edges_of : Direction → Fields → ℕ → ℕ → EdgesOf
edges_of d f g m = record { d = d; s = f.s; n = f.n; g = g; m = m }

-- "each is removed as by DUN" (`remove_nodes`, of words)
unfoldable pub remove_each : ℕ → List ℕ → Tuples → Tuples
remove_each s [] ts = ts
remove_each s (n ∷ ns) ts = remove_each s ns (remove (node_taken s n) ts)

-- the words of a list are names
abbrev pub Named : List ℕ → Type 0
Named ns = (i : ℕ) → i < length ns → get_or ns i 0 ≢ 0

-- an entry for a node: edge 0 and the name of a node
abbrev pub NodeEntry : Pair → Type 0
NodeEntry p = (edge_of p ≡ 0) × (node_of p ≢ 0)

-- a list of nodes
abbrev pub NodesListed : List Pair → Type 0
NodesListed ps = EveryPair NodeEntry ps

-- names that a removal reads are not 0
abbrev pub NamesIn : Removal → Fields → Type 0
NamesIn (Removal.P d) f = (f.g ≢ 0) × (f.m ≢ 0)
NamesIn (Removal.G d) f = Unit {0}
NamesIn (Removal.GG d) f = f.g ≢ 0
NamesIn (Removal.GN d) f = f.m ≢ 0
NamesIn (Removal.N d) f = Unit {0}
NamesIn (Removal.NG d) f = f.g ≢ 0
NamesIn Removal.UN f = f.n ≢ 0
NamesIn Removal.US f = f.s ≢ 0

pub record NamesRead (r : Removal) (f : Fields) : Type 0 where
  pub named : NamesIn r f

-- the words that a removal works on: linked records, and where nodes are collected, by any pair or by the edge's name, a store
pub record Removable (r : Removal) (b : List ℕ) : Type 0 where
  pub linked : Linked b
  pub nodes : (d : Direction) → r ≡ Removal.N d → is_store b ≡ true
  pub named_nodes : (d : Direction) → r ≡ Removal.NG d → is_store b ≡ true
