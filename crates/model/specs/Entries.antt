-- What each S operator lists, said by what is present and not by how a list is made: the statement that proofs/Entries.antt proves of `listed`.
use Rattle.std.specs.Prelude.{◌⊎◌, ◌≢◌, ◌≡◌, ℕ}
use Rattle.model.specs.declared.Fields.{Fields}
use Rattle.model.specs.declared.Pair.{Pair}
use Rattle.model.specs.Keys.{space_key, node_key, edge_key}
use Rattle.model.specs.Tuples.{Tuples}
use Rattle.model.specs.declared.Direction.{Direction}
use Rattle.model.specs.declared.Direction.TheVariants.{Outpointing, Inpointing, Adjacent}
use Rattle.model.specs.declared.Listing.{Listing}
use Rattle.model.specs.Pairs.{pair, edge_of, node_of}
use Rattle.model.specs.Rules.{Has}

-- "outpointing, each (g,m) with (s,n,g,m) present"
abbrev pub PointsOut : ℕ → ℕ → Tuples → Pair → Type 0
PointsOut s n ts p = (edge_of p ≢ 0) × Has (edge_key s n (edge_of p) (node_of p)) ts

-- "inpointing, each (g,m) with (s,m,g,n) present"
abbrev pub PointsIn : ℕ → ℕ → Tuples → Pair → Type 0
PointsIn s n ts p = (edge_of p ≢ 0) × Has (edge_key s (node_of p) (edge_of p) n) ts

-- "Pairs of n in s": "adjacent, either"
abbrev pub IsPair : Direction → ℕ → ℕ → Tuples → Pair → Type 0
IsPair Outpointing s n ts p = PointsOut s n ts p
IsPair Inpointing s n ts p = PointsIn s n ts p
IsPair Adjacent s n ts p = PointsOut s n ts p ⊎ PointsIn s n ts p

-- is q an entry of the list that the operator answers
abbrev pub Entry : Listing → Fields → Tuples → Pair → Type 0
Entry (Listing.P d) f ts q = IsPair d f.s f.n ts q
Entry (Listing.G d) f ts q = (p : Pair) × IsPair d f.s f.n ts p × (q ≡ pair (edge_of p) 0)
Entry (Listing.GN d) f ts q = (p : Pair) × IsPair d f.s f.n ts p × (node_of p ≡ f.m) × (q ≡ pair (edge_of p) 0)
Entry (Listing.N d) f ts q = (p : Pair) × IsPair d f.s f.n ts p × (q ≡ pair 0 (node_of p))
Entry (Listing.NG d) f ts q = (p : Pair) × IsPair d f.s f.n ts p × (edge_of p ≡ f.g) × (q ≡ pair 0 (node_of p))
Entry Listing.UN f ts q = (n : ℕ) × (n ≢ 0) × Has (node_key f.s n) ts × (q ≡ pair 0 n)
Entry Listing.US f ts q = (s : ℕ) × Has (space_key s) ts × (q ≡ pair 0 s)
Entry Listing.USn f ts q = (s : ℕ) × (f.n ≢ 0) × Has (node_key s f.n) ts × (q ≡ pair 0 s)
