-- The list of each S operator's query (`queried`) is the list of document 01 (`listed`).
use mathlib.Core.Bool.{Bool, true, false, cond}
use mathlib.Core.List.{List, [], ◌∷◌, ◌++◌, map, append-nil}
use mathlib.Core.Logic.{◌⊎◌, inl, inr}
use mathlib.Core.Path.{◌≡◌, refl, sym, ap, ap₂, ◌∙◌, subst}
use Prim.Native.Nat.{ℕ, ◌≤◌}
use native.Mathlib.Omega.{arith}
use lib.Dec.{eqb, leb, ltb}
use borrow.Author.Tests.{leb-true, le-ltb}
use lib.ListN.{length}
use Rattle.model.specs.declared.Fields.{Fields}
use Rattle.model.specs.declared.Direction.{Direction}
use Rattle.model.specs.declared.Direction.TheVariants.{Outpointing, Inpointing, Adjacent}
use Rattle.model.specs.declared.Key.{Key}
use Rattle.model.specs.declared.Listing.{Listing}
use Rattle.model.specs.declared.Pair.{Pair}
use Rattle.model.specs.Tuples.{Tuples}
use Rattle.model.specs.Pairs.{compare_pairs, itself, member, ascending, gather, out_pair, in_pair, pairs_at, pairs_of, edge_names, node_names, only, nodes_in, spaces_in, spaces_with}
use Rattle.model.specs.Steps.{listed}
use Rattle.model.proofs.Bools.{equal}
use Rattle.model.proofs.Order.{pairs}
use Rattle.model.proofs.Ordered.{same_members}
use Rattle.model.proofs.Entries.{Member, ascending_ascends, member_ascending, map_sound, map_complete, only_sound, only_complete}
use Rattle.entries.specs.declared.Part.{Part}
use Rattle.entries.specs.declared.Part.TheVariants.{Both, Edge, Node}
use Rattle.entries.specs.declared.PairQuery.{PairQuery}
use Rattle.entries.specs.declared.Query.{Query}
use Rattle.entries.specs.declared.Query.TheVariants.{Pairs, Names}
use Rattle.entries.specs.declared.NamesQuery.TheVariants.{Nodes, Spaces, SpacesOf}
use Rattle.entries.specs.Queries.{part_of, chosen, first_pairs, second_pairs, first_at, name_at, second_at, queried, written_pairs}
use Rattle.model.proofs.Counts.{listed_within}
use Rattle.taken.specs.Selections.{passes}
use Rattle.located.specs.declared.Near.{Near}
use Rattle.located.specs.Located.{NearIn}
use Rattle.chain.specs.Links.{Hint}
use Rattle.chain.proofs.Hints.{no_hint}
use Rattle.taken.proofs.Passes.{passes_any, passes_edge, passes_node}
use Rattle.listings.specs.Lists.{pairs_hint, list_hint, pair_query, query_of, NamesAsked}

-- ---- sorting again

-- lists with the same members have one ascending list
same_ascending : (ps rs : List Pair) → ((q : Pair) → Member q ps → Member q rs) → ((q : Pair) → Member q rs → Member q ps)
    → ascending ps ≡ ascending rs
same_ascending ps rs f g =
    same_members itself compare_pairs pairs (λ a b e. e) (ascending ps) (ascending rs) (ascending_ascends ps) (ascending_ascends rs)
    (λ q. member_ascending q ps ∙ equal (member q ps) (member q rs) (f q) (g q) ∙ sym (member_ascending q rs))

-- sorting before nothing changes what is sorted after
sorted_twice : (ps : List Pair) → ascending (ascending ps) ≡ ascending ps
sorted_twice ps = same_ascending (ascending ps) ps (λ q e. sym (member_ascending q ps) ∙ e) (λ q e. member_ascending q ps ∙ e)

-- the parts of those of some pairs that pass a test
abbrev parts_of : Part → (Pair → Bool) → List Pair → List Pair
parts_of part p ps = map (part_of part) (only p ps)

parts_kept : (part : Part) (p : Pair → Bool) (ps rs : List Pair) → ((q : Pair) → Member q ps → Member q rs)
    → (q : Pair) → Member q (parts_of part p ps) → Member q (parts_of part p rs)
parts_kept part p ps rs f q e =
    let r = map_sound (part_of part) (only p ps) q e in
    let i = only_sound p ps r.0 r.1 in
    subst (λ (x : Pair). Member x (parts_of part p rs)) (sym r.2)
    (map_complete (part_of part) (only p rs) r.0 (only_complete p rs r.0 (f r.0 i.0) i.1))

sorted_parts : (part : Part) (p : Pair → Bool) (ps : List Pair)
    → ascending (parts_of part p ps) ≡ ascending (parts_of part p (ascending ps))
sorted_parts part p ps =
    same_ascending (parts_of part p ps) (parts_of part p (ascending ps))
    (parts_kept part p ps (ascending ps) (λ q e. member_ascending q ps ∙ e))
    (parts_kept part p (ascending ps) ps (λ q e. sym (member_ascending q ps) ∙ e))

-- ---- what is chosen of pairs

chosen_parts : (q : PairQuery) (ps : List Pair) → chosen q ps ≡ parts_of q.part (passes q.g q.m) ps
unfolding chosen only
chosen_parts q [] = refl
chosen_parts q (p ∷ ps) = go (passes q.g q.m p) (chosen_parts q ps)
  where
    go : (b : Bool) → chosen q ps ≡ parts_of q.part (passes q.g q.m) ps
        → cond b (part_of q.part p ∷ chosen q ps) (chosen q ps)
        ≡ map (part_of q.part) (cond b (p ∷ only (passes q.g q.m) ps) (only (passes q.g q.m) ps))
    go true ih = ap (λ (rs : List Pair). part_of q.part p ∷ rs) ih
    go false ih = ih

chosen_append : (q : PairQuery) (ps rs : List Pair) → chosen q (ps ++ rs) ≡ chosen q ps ++ chosen q rs
unfolding chosen
chosen_append q [] rs = refl
chosen_append q (p ∷ ps) rs = go (passes q.g q.m p) (chosen_append q ps rs)
  where
    go : (b : Bool) → chosen q (ps ++ rs) ≡ chosen q ps ++ chosen q rs
        → cond b (part_of q.part p ∷ chosen q (ps ++ rs)) (chosen q (ps ++ rs))
        ≡ cond b (part_of q.part p ∷ chosen q ps) (chosen q ps) ++ chosen q rs
    go true ih = ap (λ (xs : List Pair). part_of q.part p ∷ xs) ih
    go false ih = ih

-- a key's two entries are chosen of its pairs
chosen_pairs : (q : PairQuery) (d : Direction) (n : ℕ) (k : Key)
    → chosen q (first_pairs d n k) ++ chosen q (second_pairs d n k) ≡ chosen q (pairs_at d n k)
unfolding chosen first_pairs second_pairs pairs_at
chosen_pairs q Outpointing n k = append-nil (chosen q (out_pair n k))
chosen_pairs q Inpointing n k = append-nil (chosen q (in_pair n k))
chosen_pairs q Adjacent n k = sym (chosen_append q (out_pair n k) (in_pair n k))

-- the pairs that a key gives n in s
abbrev pairs_from : PairQuery → Key → List Pair
pairs_from q k = cond (eqb k.s q.s) (pairs_at q.d q.n k) []

chosen_at : (q : PairQuery) (k : Key) → first_at (Pairs q) k ++ second_at (Pairs q) k ≡ chosen q (pairs_from q k)
unfolding first_at second_at chosen
chosen_at q k = go (eqb k.s q.s)
  where
    go : (b : Bool) → cond b (chosen q (first_pairs q.d q.n k)) [] ++ cond b (chosen q (second_pairs q.d q.n k)) []
        ≡ chosen q (cond b (pairs_at q.d q.n k) [])
    go true = chosen_pairs q q.d q.n k
    go false = refl

chosen_gathered : (q : PairQuery) (ts : Tuples)
    → gather (λ (k : Key). first_at (Pairs q) k ++ second_at (Pairs q) k) ts ≡ chosen q (gather (pairs_from q) ts)
unfolding gather chosen
chosen_gathered q [] = refl
chosen_gathered q (t ∷ ts) =
    ap₂ ◌++◌ (chosen_at q t.key) (chosen_gathered q ts) ∙ sym (chosen_append q (pairs_from q t.key) (gather (pairs_from q) ts))

-- ---- the lists

-- a query for pairs lists the parts of those that pass
pairs_queried : (q : PairQuery) (ts : Tuples)
    → queried (Pairs q) ts ≡ ascending (parts_of q.part (passes q.g q.m) (pairs_of q.d q.s q.n ts))
unfolding queried pairs_of
pairs_queried q ts =
    ap ascending (chosen_gathered q ts ∙ chosen_parts q (gather (pairs_from q) ts))
    ∙ sorted_parts q.part (passes q.g q.m) (gather (pairs_from q) ts)

-- the same test, the same pairs
same_only : (p r : Pair → Bool) (ps : List Pair) → ((x : Pair) → p x ≡ r x) → only p ps ≡ only r ps
same_only p r ps h = λ i. only (λ (x : Pair). h x i) ps

only_all : (ps : List Pair) → only (λ (p : Pair). true) ps ≡ ps
unfolding only
only_all [] = refl
only_all (p ∷ ps) = ap (λ (rs : List Pair). p ∷ rs) (only_all ps)

any_passes : (ps : List Pair) → only (passes 0 0) ps ≡ ps
any_passes ps = same_only (passes 0 0) (λ (p : Pair). true) ps passes_any ∙ only_all ps

whole_pairs : (ps : List Pair) → map (part_of Both) ps ≡ ps
unfolding part_of
whole_pairs [] = refl
whole_pairs (p ∷ ps) = ap (λ (rs : List Pair). p ∷ rs) (whole_pairs ps)

pairs_listed : (d : Direction) (s n : ℕ) (ts : Tuples) → queried (Pairs (pair_query d s n 0 0 Both)) ts ≡ pairs_of d s n ts
unfolding pairs_of
pairs_listed d s n ts =
    pairs_queried (pair_query d s n 0 0 Both) ts
    ∙ ap ascending (whole_pairs (only (passes 0 0) (pairs_of d s n ts)) ∙ any_passes (pairs_of d s n ts))
    ∙ sorted_twice _

edges_listed : (d : Direction) (s n g m : ℕ) (ts : Tuples)
    → queried (Pairs (pair_query d s n g m Edge)) ts ≡ edge_names (only (passes g m) (pairs_of d s n ts))
unfolding edge_names part_of
edges_listed d s n g m ts = pairs_queried (pair_query d s n g m Edge) ts

nodes_listed : (d : Direction) (s n g m : ℕ) (ts : Tuples)
    → queried (Pairs (pair_query d s n g m Node)) ts ≡ node_names (only (passes g m) (pairs_of d s n ts))
unfolding node_names part_of
nodes_listed d s n g m ts = pairs_queried (pair_query d s n g m Node) ts

-- a query that takes one entry of a key
gather_first : (f : Key → List Pair) (ts : Tuples) → gather (λ (k : Key). f k ++ []) ts ≡ gather f ts
gather_first f ts = λ i. gather (λ (k : Key). append-nil (f k) i) ts

-- the theorem: a query lists what its operator does
pub asked_listed : (l : Listing) (f : Fields) (ts : Tuples) → NamesAsked l f → queried (query_of l f) ts ≡ listed l f ts
unfolding query_of listed queried nodes_in spaces_in spaces_with first_at name_at second_at
asked_listed (Listing.P d) f ts h = pairs_listed d f.s f.n ts
asked_listed (Listing.G d) f ts h =
    edges_listed d f.s f.n 0 0 ts ∙ ap edge_names (any_passes (pairs_of d f.s f.n ts))
asked_listed (Listing.GN d) f ts h =
    edges_listed d f.s f.n 0 f.m ts
    ∙ ap edge_names (same_only (passes 0 f.m) _ (pairs_of d f.s f.n ts) (passes_node f.m h))
asked_listed (Listing.N d) f ts h =
    nodes_listed d f.s f.n 0 0 ts ∙ ap node_names (any_passes (pairs_of d f.s f.n ts))
asked_listed (Listing.NG d) f ts h =
    nodes_listed d f.s f.n f.g 0 ts
    ∙ ap node_names (same_only (passes f.g 0) _ (pairs_of d f.s f.n ts) (passes_edge f.g h))
asked_listed Listing.UN f ts h = ap ascending (gather_first (first_at (Names (Nodes f.s))) ts)
asked_listed Listing.US f ts h = ap ascending (gather_first (first_at (Names Spaces)) ts)
asked_listed Listing.USn f ts h = ap ascending (gather_first (first_at (Names (SpacesOf f.n))) ts)

-- ---- the list of the query that a function learnt

told_listed : (l : Listing) (f : Fields) (q : Query) (ts : Tuples) → NamesAsked l f → q ≡ query_of l f → queried q ts ≡ listed l f ts
told_listed l f q ts h e = ap (λ (x : Query). queried x ts) e ∙ asked_listed l f ts h

pub told_count : (l : Listing) (f : Fields) (q : Query) (ts : Tuples) (k : ℕ) → NamesAsked l f → q ≡ query_of l f → k ≡ length (queried q ts)
    → k ≡ length (listed l f ts)
told_count l f q ts k h e K = K ∙ ap (λ (ps : List Pair). length ps) (told_listed l f q ts h e)

pub told_room : (l : Listing) (f : Fields) (q : Query) (ts : Tuples) (room : ℕ) → NamesAsked l f → q ≡ query_of l f
    → length (listed l f ts) ≤ room → length (queried q ts) ≤ room
told_room l f q ts room h e = subst (λ (ps : List Pair). length ps ≤ room) (sym (told_listed l f q ts h e))

pub told_written : (l : Listing) (f : Fields) (q : Query) (ts : Tuples) (list list' : List ℕ) → NamesAsked l f → q ≡ query_of l f
    → list' ≡ written_pairs (queried q ts) list → list' ≡ written_pairs (listed l f ts) list
told_written l f q ts list list' h e W = W ∙ ap (λ (ps : List Pair). written_pairs ps list) (told_listed l f q ts h e)

-- ---- what a function answers once it knows which operator it has

pub no_place : (l : Listing) (near : Near) → (l ≡ Listing.US) ⊎ (l ≡ Listing.USn) → 0 ≡ list_hint l near
unfolding list_hint
no_place l near (inl e) = ap (λ (x : Listing). list_hint x near) (sym e)
no_place l near (inr e) = ap (λ (x : Listing). list_hint x near) (sym e)

-- ---- hints

pub list_hint_lem : (b : List ℕ) (l : Listing) (near : Near) (h : ℕ) → NearIn b near → h ≡ list_hint l near → Hint b h
unfolding list_hint pairs_hint
list_hint_lem b l near h N e = subst (Hint b) (sym e) (go l)
  where
    pairs : (d : Direction) → Hint b (pairs_hint d near)
    pairs Outpointing = N.node
    pairs Inpointing = N.space
    pairs Adjacent = N.space

    go : (l : Listing) → Hint b (list_hint l near)
    go (Listing.P d) = pairs d
    go (Listing.G d) = pairs d
    go (Listing.GN d) = pairs d
    go (Listing.N d) = pairs d
    go (Listing.NG d) = pairs d
    go Listing.UN = N.space
    go Listing.US = no_hint b
    go Listing.USn = no_hint b

-- ---- the most entries

-- where there are places for as many entries as tuples, the list is not short
pub surely_not_short : (l : Listing) (f : Fields) (ts : Tuples) (room : ℕ) (t : Bool) → t ≡ leb (length ts) room → t ≡ true → false ≡ ltb room (length (listed l f ts))
surely_not_short l f ts room t T e =
    let most : length ts ≤ room = leb-true _ room (sym T ∙ e) in
    sym (le-ltb room (length (listed l f ts)) (omega (arith, most, listed_within ts l f)))
