-- The parts of the check (specs/Checks.antt) together are the test of a store.
use mathlib.Core.Bool.{Bool, true, false, ◌&&◌, and-false, false≢true}
use mathlib.Core.List.{List}
use mathlib.Core.Path.{◌≡◌, refl, sym, ap, ap₂, ◌∙◌}
use Prim.Native.Nat.{ℕ}
use lib.Dec.{eqb, leb}
use lib.ListN.{length}
use Rattle.model.specs.declared.Key.{Key}
use Rattle.model.specs.Tuples.{Tuples}
use Rattle.layouts.specs.Buffer.{word, fits_length, capacity_of, size_word, ends, used_chain, free_chain, used_of, tuples_of, is_store}
use Rattle.model.specs.Rules.{ascends_from_universe, small_key, no_edge_without_node, edge_has_end, node_supported, edge_supported, every_key, sound}
use Rattle.model.proofs.Bools.{and_left, and_right}
use Rattle.presence.specs.Presence.{Walkable, ends_within, shaped_key, good_key, Sorted, supported}
use Rattle.verify.specs.Checks.{heads_fit, nexts_within, met_once, chains_right, links_right, walked_from, keys_right, used_walk}
use Rattle.verify.specs.declared.keys.Used.{Used}
use Rattle.presence.proofs.NamedParts.{every_and}
use Rattle.std.specs.Prelude.{Option, Some, None, option_map}
use Rattle.std.proofs.lemmas.Option.{none-some}
use Rattle.verify.proofs.Heads.{walkable}
use Rattle.verify.proofs.Walks.{links_no_end, found_ends}

-- ---- the tuples

good_parts : (ts : Tuples) → every_key good_key ts ≡ (every_key small_key ts && (every_key no_edge_without_node ts && every_key edge_has_end ts))
unfolding good_key shaped_key
good_parts ts =
    every_and small_key (λ (k : Key). no_edge_without_node k && edge_has_end k) ts
    ∙ ap (λ (a : Bool). every_key small_key ts && a) (every_and no_edge_without_node edge_has_end ts)

keys_parts : (ts : Tuples)
    → keys_right ts ≡ (ascends_from_universe ts && (every_key small_key ts && (every_key no_edge_without_node ts && every_key edge_has_end ts)))
unfolding keys_right
keys_parts ts = ap (λ (a : Bool). ascends_from_universe ts && a) (good_parts ts)

support_parts : (ts : Tuples) → every_key (supported ts) ts ≡ (every_key (node_supported ts) ts && every_key (edge_supported ts) ts)
unfolding supported
support_parts ts = every_and (node_supported ts) (edge_supported ts) ts

-- the rules on the tuples
pub sound_parts : (ts : Tuples) → sound ts ≡ (keys_right ts && every_key (supported ts) ts)
unfolding sound
sound_parts ts =
    regroup (ascends_from_universe ts) (every_key small_key ts) (every_key no_edge_without_node ts) (every_key edge_has_end ts) _
    ∙ sym (ap₂ ◌&&◌ (keys_parts ts) (support_parts ts))
  where
    regroup : (o a b c d : Bool) → (o && (a && (b && (c && d)))) ≡ ((o && (a && (b && c))) && d)
    regroup true true true c d = refl
    regroup true true false c d = refl
    regroup true false b c d = refl
    regroup false a b c d = refl

-- the rules on the buffer
pub store_parts : (b : List ℕ) → is_store b ≡ (heads_fit b && (links_right b && sound (tuples_of b)))
unfolding is_store heads_fit links_right nexts_within chains_right met_once
store_parts b =
    regroup (fits_length b) (eqb (word b 0) (size_word b)) (leb (word b 1) (capacity_of b)) (leb (word b 2) (capacity_of b)) _
    ∙ ap (λ (a : Bool). heads_fit b && (nexts_within b && a))
    (regroup (ends (used_chain b)) (ends (free_chain b)) (met_once b) (eqb (word b 3) (length (used_of b))) (sound (tuples_of b)))
    ∙ ap (λ (a : Bool). heads_fit b && a) (join (nexts_within b) (chains_right b) (sound (tuples_of b)))
  where
    join : (a b c : Bool) → (a && (b && c)) ≡ ((a && b) && c)
    join true b c = refl
    join false b c = refl

    regroup : (a b c d e : Bool) → (a && (b && (c && (d && e)))) ≡ ((a && (b && (c && d))) && e)
    regroup true true true d e = refl
    regroup true true false d e = refl
    regroup true false c d e = refl
    regroup false b c d e = refl

-- ---- one after another

module _ (b : List ℕ) (heads : Bool) (h : heads ≡ heads_fit b) where
  pub store_no_heads : heads ≡ false → heads ≡ is_store b
  store_no_heads f = f ∙ sym (store_parts b ∙ simp (sym h ∙ f))

  module _ (h_yes : heads ≡ true) where
    pub store_walkable : Walkable b
    store_walkable = walkable b (sym h ∙ h_yes)

    pub store_rest : (r : Bool) → r ≡ (links_right b && sound (tuples_of b)) → r ≡ is_store b
    store_rest r e = e ∙ sym (store_parts b ∙ simp (sym h ∙ h_yes))

module _ (b : List ℕ) (w : Walkable b) (r : Option Used) (a : option_map (λ (u : Used). u.walked) r ≡ used_walk b) where
  within : Bool
  within = ends_within (capacity_of b) (used_chain b)

  pub right_no_walk : r ≡ None → false ≡ (links_right b && sound (tuples_of b))
  unfolding within used_walk
  right_no_walk f = go within (keys_right (tuples_of b)) refl refl
    where
      go : (e k : Bool) → within ≡ e → keys_right (tuples_of b) ≡ k → false ≡ (links_right b && sound (tuples_of b))
      go false k x y =
          ap (λ (t : Bool). t && sound (tuples_of b))
          (links_no_end b (word b 1) w.used_head (unfold used_chain in x) (λ z. unfold chains_right used_chain in simp z))
      go true false x y = sym (ap (λ (t : Bool). links_right b && t) (sound_parts (tuples_of b) ∙ simp y) ∙ and-false (links_right b))
      go true true x y =
          let u : None ≡ walked_from b (word b 1) = sym (ap (option_map (λ (u : Used). u.walked)) f) ∙ a ∙ simp (x, y) in
          absurd (false≢true (found_ends b (word b 1) _ u ∙ (unfold used_chain in x)))

  module _ (used : Used) (a_some : r ≡ Some used) where
    found : Some used.walked ≡ used_walk b
    found = sym (ap (option_map (λ (u : Used). u.walked)) a_some) ∙ a

    both : (within && keys_right (tuples_of b)) ≡ true
    unfolding within used_walk
    both = go (within && keys_right (tuples_of b)) refl
      where
        go : (t : Bool) → (within && keys_right (tuples_of b)) ≡ t → t ≡ true
        go true x = refl
        go false x = let u : Some used.walked ≡ None = found ∙ simp x in absurd (none-some used.walked (sym u))

    right_ends : ends_within (capacity_of b) (used_chain b) ≡ true
    unfolding within
    right_ends = and_left within _ both

    pub right_walk : Some used.walked ≡ walked_from b (word b 1)
    unfolding within used_walk
    right_walk = found ∙ simp both

    pub right_sorted : Sorted b
    unfolding keys_right
    right_sorted =
        record { used = record { walkable = w; ended = right_ends }; ascends = and_left (ascends_from_universe (tuples_of b)) _ (and_right within _ both) }

    module _ (chains : Bool) (c : chains ≡ links_right b) where
      pub right_named : chains ≡ true → (r : Bool) → r ≡ every_key (supported (tuples_of b)) (tuples_of b) → r ≡ (links_right b && sound (tuples_of b))
      right_named f r e =
          e ∙ sym (ap (λ (t : Bool). t && sound (tuples_of b)) (sym c ∙ f) ∙ sound_parts (tuples_of b) ∙ simp (and_right within _ both))
