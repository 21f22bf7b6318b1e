-- Nodes removed one after the other (specs/Collected.antt).
use mathlib.Core.Bool.{true}
use mathlib.Core.List.{List, [], ◌∷◌, ◌++◌, map}
use mathlib.Core.Logic.{◌≢◌}
use mathlib.Core.Path.{◌≡◌, refl, sym, ap, ap₂, ◌∙◌, subst}
use Prim.Native.Nat.{ℕ, zero, suc, ◌+◌, ◌*◌, ◌≤◌, ◌<◌}
use native.Mathlib.Omega.{arith}
use lib.Seq.{length-take-le, take-append_seam}
use lib.ListN.{length, take, drop, get_or, length-append, length-map}
use Rattle.model.specs.declared.Fields.{Fields}
use Rattle.model.specs.declared.Direction.{Direction}
use Rattle.model.specs.declared.Listing.{Listing}
use Rattle.model.specs.declared.Pair.{Pair}
use Rattle.model.specs.Pairs.{edge_of, node_of, pairs_of, node_names, with_edge}
use Rattle.model.specs.OneCall.{name_count, pack}
use Rattle.model.specs.Tuples.{Tuples, remove}
use Rattle.layouts.specs.Buffer.{tuples_of, is_store}
use Rattle.model.specs.Rules.{TupleRules}
use Rattle.model.specs.Steps.{node_taken, remove_nodes, listed}
use Rattle.model.proofs.Entries.{Member, pairs_sound, nodes_sound, only_sound}
use Rattle.model.proofs.Steps.{every_member, pair_named}
use Rattle.chain.specs.Links.{Edited}
use Rattle.edit.proofs.Built.{store_tuples}
use Rattle.entries.specs.Queries.{Readable, written_pairs}
use Rattle.entries.specs.declared.lists.TheConstants.{MOST_LISTED}
use Rattle.entries.proofs.Counted.{entries_most}
use Rattle.model.specs.declared.Fields.{Fields}
use Rattle.steps.proofs.Named.{edited_twice}
use Rattle.listings.specs.Lists.{query_of, NamesAsked}
use Rattle.listings.proofs.Asked.{asked_listed}
use Rattle.removals.specs.Collected.{remove_each, Named, NodeEntry, NodesListed}

-- one more word of a list
take_next : (i : ℕ) (ns : List ℕ) → i < length ns → take (suc i) ns ≡ take i ns ++ (get_or ns i 0 ∷ [])
take_next zero [] h = absurd (omega (arith, h))
take_next zero (n ∷ ns) h = refl
take_next (suc i) [] h = absurd (omega (arith, h))
take_next (suc i) (n ∷ ns) h = ap (λ (xs : List ℕ). n ∷ xs) (take_next i ns (omega (arith, h)))

remove_each_last : (s : ℕ) (ns : List ℕ) (n : ℕ) (ts : Tuples) → remove_each s (ns ++ (n ∷ [])) ts ≡ remove (node_taken s n) (remove_each s ns ts)
unfolding remove_each
remove_each_last s [] n ts = refl
remove_each_last s (x ∷ ns) n ts = remove_each_last s ns n (remove (node_taken s x) ts)

-- the first i nodes are removed
pub record Removing (b₀ : List ℕ) (s : ℕ) (ns : List ℕ) (b : List ℕ) (i : ℕ) : Type 0 where
  pub low : i ≤ length ns
  pub done : Edited b₀ b (remove_each s (take i ns) (tuples_of b₀))

module _ (b₀ : List ℕ) (s : ℕ) (ns : List ℕ) where
  module _ (b : List ℕ) (i : ℕ) (R : Removing b₀ s ns b i) where
    pub removing_next : (b' : List ℕ) → i < length ns → Edited b b' (remove (node_taken s (get_or ns i 0)) (tuples_of b)) → Removing b₀ s ns b' (i + 1)
    removing_next b' h E =
        record {
          low = omega (arith, h);
          done =
              subst (Edited b₀ b')
              (sym (ap (λ (xs : List ℕ). remove_each s xs (tuples_of b₀)) (ap (λ (n : ℕ). take n ns) next ∙ take_next i ns h)
              ∙ remove_each_last s (take i ns) (get_or ns i 0) (tuples_of b₀)))
              (edited_twice (remove (node_taken s (get_or ns i 0))) R.done E);
        }
      where
        next : i + 1 ≡ suc i
        next = omega arith

-- ---- the nodes of a list

-- a node's entry is packed as its name
pack_node : (p : Pair) → edge_of p ≡ 0 → pack p ≡ node_of p
unfolding pack
pack_node p e = ap (λ (g : ℕ). g * name_count + node_of p) e ∙ none_before (node_of p)
  where
    none_before : (x : ℕ) → 0 * name_count + x ≡ x
    none_before x = omega arith

nodes_named : (ps : List Pair) → NodesListed ps → Named (map pack ps)
nodes_named [] h i low = absurd (omega (arith, low))
nodes_named (p ∷ ps) h zero low = λ e. h.0.1 (sym (pack_node p h.0.0) ∙ e)
nodes_named (p ∷ ps) h (suc i) low = nodes_named ps h.1 i (omega (arith, low))

each_node : (s : ℕ) (ps : List Pair) (ts : Tuples) → NodesListed ps → remove_each s (map pack ps) ts ≡ remove_nodes s ps ts
unfolding remove_each remove_nodes
each_node s [] ts h = refl
each_node s (p ∷ ps) ts h =
    each_node s ps (remove (node_taken s (pack p)) ts) h.1
    ∙ ap (λ (n : ℕ). remove_nodes s ps (remove (node_taken s n) ts)) (pack_node p h.0.0)

module _ (ps : List Pair) (l₀ l : List ℕ) (count : ℕ) (e : l ≡ written_pairs ps l₀) (n : count ≡ length ps) where
  pub collected_fits : count ≤ length l
  unfolding written_pairs
  collected_fits =
      let long : length l ≡ length (map pack ps) + length (drop (length ps) l₀) = ap length e ∙ length-append (map pack ps) (drop (length ps) l₀) in
      omega (arith, long, length-map ps pack, n)

  pub collected_count : count ≡ length (take count l)
  collected_count = sym (length-take-le count l collected_fits)

  -- the first words are those of the nodes
  collected : take count l ≡ map pack ps
  unfolding written_pairs
  collected =
      ap₂ (λ (k : ℕ) (xs : List ℕ). take k xs) (n ∙ sym (length-map ps pack)) e
      ∙ take-append_seam (map pack ps) (drop (length ps) l₀)

  pub collected_named : NodesListed ps → Named (take count l)
  collected_named h = subst Named (sym collected) (nodes_named ps h)

  pub collected_removed : {b b' : List ℕ} (s : ℕ) → NodesListed ps → Edited b b' (remove_each s (take count l) (tuples_of b))
      → Edited b b' (remove_nodes s ps (tuples_of b))
  collected_removed {b} {b'} s h E =
      subst (Edited b b') (ap (λ (xs : List ℕ). remove_each s xs (tuples_of b)) collected ∙ each_node s ps (tuples_of b) h) E

pub listed_most : {b : List ℕ} (l : Listing) (f : Fields) → Readable b → NamesAsked l f → length (listed l f (tuples_of b)) ≤ MOST_LISTED
listed_most {b} l f R asked = subst (λ (ps : List Pair). length ps ≤ MOST_LISTED) (asked_listed l f (tuples_of b) asked) (entries_most b (query_of l f) R)

-- ---- the nodes of pairs

names_listed : (ps : List Pair) → ((p : Pair) → Member p ps → node_of p ≢ 0) → NodesListed (node_names ps)
names_listed ps h =
    every_member NodeEntry (node_names ps)
    (λ q e.
    let r = nodes_sound ps q e in (ap edge_of r.2, subst (λ (p : Pair). node_of p ≢ 0) (sym r.2) (h r.0 r.1)))

pub neighbours_listed : (d : Direction) (f : Fields) (ts : Tuples) → TupleRules ts → NodesListed (listed (Listing.N d) f ts)
unfolding listed
neighbours_listed d f ts R =
    names_listed (pairs_of d f.s f.n ts) (λ p e. pair_named d f.s f.n ts R p (pairs_sound d f.s f.n ts p e))

pub neighbours_by_edge : (d : Direction) (f : Fields) (ts : Tuples) → TupleRules ts → NodesListed (listed (Listing.NG d) f ts)
unfolding listed
neighbours_by_edge d f ts R =
    names_listed (with_edge f.g (pairs_of d f.s f.n ts))
    (λ p e. pair_named d f.s f.n ts R p (pairs_sound d f.s f.n ts p (only_sound _ (pairs_of d f.s f.n ts) p e).0))

-- what a D operator that collects finds on a store
pub nodes_of_store : (b : List ℕ) (d : Direction) (f : Fields) → is_store b ≡ true → NodesListed (listed (Listing.N d) f (tuples_of b))
nodes_of_store b d f e = neighbours_listed d f (tuples_of b) (store_tuples b e)

pub nodes_by_edge_of_store : (b : List ℕ) (d : Direction) (f : Fields) → is_store b ≡ true → NodesListed (listed (Listing.NG d) f (tuples_of b))
nodes_by_edge_of_store b d f e = neighbours_by_edge d f (tuples_of b) (store_tuples b e)
