-- The query of each S operator, and what it asks of the call's names.
use Rattle.std.specs.Prelude.{◌≢◌, ℕ}
use Rattle.model.specs.declared.Fields.{Fields}
use Rattle.model.specs.declared.Direction.{Direction}
use Rattle.model.specs.declared.Listing.{Listing}
use Rattle.entries.specs.declared.Part.{Part}
use Rattle.entries.specs.declared.Part.TheVariants.{Both, Edge, Node}
use Rattle.entries.specs.declared.PairQuery.{PairQuery}
use Rattle.entries.specs.declared.Query.{Query}
use Rattle.entries.specs.declared.Query.TheVariants.{Pairs, Names}
use Rattle.entries.specs.declared.NamesQuery.TheVariants.{Nodes, Spaces, SpacesOf}
use Rattle.model.specs.declared.Direction.TheVariants.{Outpointing, Inpointing, Adjacent}
use Rattle.located.specs.declared.Near.{Near}

-- the pairs of n in s with edge g and node m (0: any), of each the part that is listed
abbrev pub pair_query : Direction → ℕ → ℕ → ℕ → ℕ → Part → PairQuery
pair_query d s n g m part = record { d = d; s = s; n = n; g = g; m = m; part = part }

-- the query of each S operator
unfoldable pub query_of : Listing → Fields → Query
query_of (Listing.P d) f = Pairs (pair_query d f.s f.n 0 0 Both)
query_of (Listing.G d) f = Pairs (pair_query d f.s f.n 0 0 Edge)
query_of (Listing.GN d) f = Pairs (pair_query d f.s f.n 0 f.m Edge)
query_of (Listing.N d) f = Pairs (pair_query d f.s f.n 0 0 Node)
query_of (Listing.NG d) f = Pairs (pair_query d f.s f.n f.g 0 Node)
query_of Listing.UN f = Names (Nodes f.s)
query_of Listing.US f = Names Spaces
query_of Listing.USn f = Names (SpacesOf f.n)

-- the edge or node that a pair must have is a name: in a query 0 stands for any
abbrev pub NamesAsked : Listing → Fields → Type 0
NamesAsked (Listing.P d) f = Unit {0}
NamesAsked (Listing.G d) f = Unit {0}
NamesAsked (Listing.GN d) f = f.m ≢ 0
NamesAsked (Listing.N d) f = Unit {0}
NamesAsked (Listing.NG d) f = f.g ≢ 0
NamesAsked Listing.UN f = Unit {0}
NamesAsked Listing.US f = Unit {0}
NamesAsked Listing.USn f = Unit {0}

-- where the walk of an S operator starts: behind node n where its edges from n are asked for, behind the space's place, or at the first record
unfoldable pub pairs_hint : Direction → Near → ℕ
pairs_hint Outpointing near = near.node
pairs_hint Inpointing near = near.space
pairs_hint Adjacent near = near.space

unfoldable pub list_hint : Listing → Near → ℕ
list_hint (Listing.P d) near = pairs_hint d near
list_hint (Listing.G d) near = pairs_hint d near
list_hint (Listing.GN d) near = pairs_hint d near
list_hint (Listing.N d) near = pairs_hint d near
list_hint (Listing.NG d) near = pairs_hint d near
list_hint Listing.UN near = near.space
list_hint Listing.US near = 0
list_hint Listing.USn near = 0
