-- Document 01, "nothing named is missing": whether all that the tuples of the used chain name is there, as the check of a store looks for it.
use Rattle.std.specs.Prelude.{Bool, true, false, cond, not, ◌&&◌, ◌||◌, List, [], ◌∷◌, map, ◌≢◌, ◌≡◌, ℕ}
use Rattle.std.specs.Prelude.{zero, suc, ◌+◌, ◌-◌, ◌*◌, ◌/◌, ◌%◌, ◌≤◌, ◌<◌, eqb, leb, ltb, length, get_or, set, replicate}
use Rattle.std.proofs.Math.Option.{Option, none, some}
use Rattle.model.specs.declared.Key.{Key}
use Rattle.model.specs.Ordered.{is_less, Ascending}
use Rattle.model.specs.Keys.{most_name, key_of, node_key, edge_key, is_edge, compare_keys, same_key}
use Rattle.model.specs.Tuples.{Tuples, present}
use Rattle.layouts.specs.Buffer.{word, least_length, most_length, capacity_of, next, key_at, tuple_at, walk, or_nothing, used_chain, tuples_of}
use Rattle.model.specs.Numbers.{every_up_to}
use Rattle.model.specs.OneCall.{name_count}
use Rattle.model.specs.Rules.{ascends_from_universe, small_key, no_edge_without_node, edge_has_end, node_supported, edge_supported, every_key}
use Rattle.layouts.specs.Chains.{Rest}
use Rattle.presence.specs.declared.kept.KeptRecords.{KeptRecords}

-- ---- a chain that ends

-- the length fits, and both heads are at most C
pub record Walkable (b : List ℕ) : Type 0 where
  pub least : least_length ≤ length b
  pub most : length b ≤ most_length
  pub used_head : word b 1 ≤ capacity_of b
  pub free_head : word b 2 ≤ capacity_of b

-- are the records of a list at most C
unfoldable pub all_within : ℕ → List ℕ → Bool
all_within C [] = true
all_within C (i ∷ is) = leb i C && all_within C is

-- does a chain end, with records of at most C
unfoldable pub ends_within : ℕ → Option (List ℕ) → Bool
ends_within C none = false
ends_within C (some is) = all_within C is

-- ---- the used chain, once it is known to end

-- the used chain ends, with records of at most C
pub record UsedEnds (b : List ℕ) : Type 0 where
  pub walkable : Walkable b
  pub ended : ends_within (capacity_of b) (used_chain b) ≡ true

-- the records of a chain from a record on
unfoldable pub records_from : List ℕ → ℕ → List ℕ
records_from b i = or_nothing (walk (next b) (capacity_of b) i)

-- their tuples
unfoldable pub tuples_from : List ℕ → ℕ → Tuples
tuples_from b i = map (tuple_at b) (records_from b i)

-- ---- keys

-- "n = 0 makes g and m 0; g is 0 exactly when m is"
unfoldable pub shaped_key : Key → Bool
shaped_key k = no_edge_without_node k && edge_has_end k

-- that, and "key words are at most 65,535"
unfoldable pub good_key : Key → Bool
good_key k = small_key k && shaped_key k

-- ---- a key in a chain whose keys ascend

-- a record from which the chain ends and its keys ascend
pub record Seekable (b : List ℕ) (i : ℕ) : Type 0 where
  pub walkable : Walkable b
  pub on : Rest b i
  pub ascends : Ascending key_of compare_keys (tuples_from b i)

-- does record i have the key; record 0, the chain's end, has none
unfoldable pub is_at : List ℕ → ℕ → Key → Bool
is_at b i k = not (eqb i 0) && same_key (key_at b i) k

-- does record i have a key below the key
unfoldable pub is_before : List ℕ → ℕ → Key → Bool
is_before b i k = not (eqb i 0) && is_less (compare_keys (key_at b i) k)

-- ---- "nothing named is missing"

-- the used chain ends and its keys ascend from (0,0,0,0)
pub record Sorted (b : List ℕ) : Type 0 where
  pub used : UsedEnds b
  pub ascends : ascends_from_universe (tuples_of b) ≡ true

-- all that a tuple names
unfoldable pub supported : Tuples → Key → Bool
supported ts k = node_supported ts k && edge_supported ts k

-- "each edge tuple has .. its tuple in 0"
unfoldable pub edge_in_universe : Tuples → Key → Bool
edge_in_universe ts k = not (is_edge k) || present (edge_key 0 k.n k.g k.m) ts

-- all that a tuple names but the ends of an edge
unfoldable pub named_present : Tuples → Key → Bool
named_present ts k = node_supported ts k && edge_in_universe ts k

-- "each edge tuple has its two node tuples in s"
unfoldable pub ends_present : Tuples → Key → Bool
ends_present ts k = not (is_edge k) || (present (node_key k.s k.n) ts && present (node_key k.s k.m) ts)

-- the first record of the space of record i, where `first` is that of the record before it
unfoldable pub space_start : List ℕ → ℕ → ℕ → ℕ
space_start b first i = cond (eqb (key_at b first).s (key_at b i).s) first i

-- ---- marks: words that name the tuples that other tuples may name

-- 0, or a record whose key is in the used chain
pub record Held (b : List ℕ) (i : ℕ) : Type 0 where
  pub high : i ≤ capacity_of b
  pub has : i ≢ 0 → present (key_at b i) (tuples_of b) ≡ true

-- places for marks; how many of them are looked at for one mark, and how far the next one is
abbrev pub mark_count : ℕ
mark_count = 4096

abbrev pub mark_tries : ℕ
mark_tries = 64

abbrev pub mark_step : ℕ
mark_step = 1021

-- what the words of a key are multiplied by for the place that is looked at first: s of a node, g and m of an edge
abbrev pub space_factor : ℕ
space_factor = 5003

abbrev pub edge_factor : ℕ
edge_factor = 3571

abbrev pub second_factor : ℕ
second_factor = 2741

-- no mark at any place
abbrev pub no_marks : List ℕ
no_marks = replicate mark_count 0

-- the mark of node n in s; n is not 0
unfoldable pub node_mark : ℕ → ℕ → ℕ
node_mark s n = s * name_count + n

-- the mark of the edge tuple of 0 in record i
unfoldable pub edge_mark : ℕ → ℕ
edge_mark i = i * name_count

-- the record of an edge tuple's mark; 0 for no mark and for the mark of a node
unfoldable pub edge_record : ℕ → ℕ
edge_record w = cond (eqb (w % name_count) 0) (w / name_count) 0

-- what is known of a mark: the record of an edge tuple is held, and what marks a node is the mark of a node tuple
pub record Marked (b : List ℕ) (w : ℕ) : Type 0 where
  pub edge : Held b (edge_record w)
  pub node : (s n : ℕ) → n ≢ 0 → n ≤ most_name → w ≡ node_mark s n → present (node_key s n) (tuples_of b) ≡ true

-- what is known of marks
pub record MarksHold (b marks : List ℕ) : Type 0 where
  pub held : (j : ℕ) → Marked b (get_or marks j 0)

-- the places where the marks of a node and of an edge tuple of 0 are sought first
unfoldable pub node_slot : ℕ → ℕ → ℕ
node_slot s n = (space_factor * s + n) % mark_count

unfoldable pub edge_slot : Key → ℕ
edge_slot k = (k.n + edge_factor * k.g + second_factor * k.m) % mark_count

-- the marks with a mark put at the first place without one, of so many from a place on
unfoldable pub with_mark : ℕ → List ℕ → ℕ → ℕ → List ℕ
with_mark zero marks at w = marks
with_mark (suc left) marks at w = cond (eqb (get_or marks at 0) 0) (set marks at w) (with_mark left marks ((at + mark_step) % mark_count) w)

-- with the mark of a key without g, where it is a node's
unfoldable pub with_node_mark : List ℕ → Key → List ℕ
with_node_mark marks k = cond (eqb k.n 0) marks (with_mark mark_tries marks (node_slot k.s k.n) (node_mark k.s k.n))

-- with the mark of an edge tuple, where it is one of 0
unfoldable pub with_edge_mark : List ℕ → Key → ℕ → List ℕ
with_edge_mark marks k i = cond (eqb k.s 0) (with_mark mark_tries marks (edge_slot k) (edge_mark i)) marks

-- with the mark of a tuple in record i that other tuples may name
unfoldable pub with_named : List ℕ → Key → ℕ → List ℕ
with_named marks k i = cond (eqb k.g 0) (with_node_mark marks k) (with_edge_mark marks k i)

-- marks whose records are records, whatever their keys
pub record MarksFit (b marks : List ℕ) : Type 0 where
  pub low : (j : ℕ) → edge_record (get_or marks j 0) ≤ capacity_of b

-- does one of the marks at so many places from a place on pass a test, up to one that is 0
unfoldable pub look_from : (ℕ → Bool) → ℕ → List ℕ → ℕ → Bool
look_from p zero marks at = false
look_from p (suc left) marks at =
    p (get_or marks at 0) || (not (eqb (get_or marks at 0) 0) && look_from p left marks ((at + mark_step) % mark_count))

-- the answers of a call at each of the marks are those of a test; `told w r` is what is known of its answer r at mark w
abbrev pub Tells : (ℕ → Bool → Type 0) → List ℕ → (ℕ → Bool) → Type 0
Tells told marks p = (j : ℕ) (r : Bool) → told (get_or marks j 0) r → r ≡ p (get_or marks j 0)

-- whether one of the marks from a place on passes the test that such a call decides
abbrev pub LooksFor : (ℕ → Bool → Type 0) → List ℕ → ℕ → Bool → Type 0
LooksFor told marks from result = (p : ℕ → Bool) → Tells told marks p → result ≡ look_from p mark_tries marks from

-- do the marks show node n in s
unfoldable pub node_shown : List ℕ → ℕ → ℕ → Bool
node_shown marks s n = look_from (λ (w : ℕ). eqb w (node_mark s n)) mark_tries marks (node_slot s n)

-- do they show the edge tuple of 0 with the n, g, m of a key
unfoldable pub edge_shown : List ℕ → List ℕ → Key → Bool
edge_shown b marks k = look_from (λ (w : ℕ). is_at b (edge_record w) (edge_key 0 k.n k.g k.m)) mark_tries marks (edge_slot k)

-- ---- what a tuple names, looked for while the used chain is walked

-- is all there that a key without g names, as far as the key before it and the marks show: its space, and its tuple in 0
unfoldable pub node_settled : List ℕ → Key → Key → Bool
node_settled marks j k = eqb k.n 0 || (eqb k.s j.s && (eqb k.s 0 || node_shown marks 0 k.n))

-- the same of an edge's key, but its second end: its first end, and its tuple in 0
unfoldable pub edge_settled : List ℕ → List ℕ → Key → Key → Bool
edge_settled b marks j k = eqb k.s j.s && (eqb k.n j.n && (eqb k.s 0 || edge_shown b marks k))

-- the same of any key
unfoldable pub settled : List ℕ → List ℕ → Key → Key → Bool
settled b marks j k = cond (eqb k.g 0) (node_settled marks j k) (edge_settled b marks j k)

-- is the second end there; other keys have none
unfoldable pub end_there : Tuples → Key → Bool
end_there ts k = not (is_edge k) || present (node_key k.s k.m) ts

-- is an edge's, as far as the marks show; a node after the first end is not marked yet
unfoldable pub end_shown : List ℕ → Key → Bool
end_shown marks k = not (ltb k.n k.m) && node_shown marks k.s k.m

-- is nothing kept for later: no edge, or a second end that the marks show
unfoldable pub nothing_kept : List ℕ → Key → Bool
nothing_kept marks k = eqb k.g 0 || end_shown marks k

-- most records whose second ends are kept for later
abbrev pub kept_count : ℕ
kept_count = 2048

-- no records kept
abbrev pub none_kept : KeptRecords
none_kept = record { records = replicate kept_count 0; count = 0 }

-- the kept records with one more
unfoldable pub pushed : KeptRecords → ℕ → KeptRecords
pushed kept i = record { records = set kept.records kept.count i; count = suc kept.count }

-- with that of an edge, where its second end is not shown
unfoldable pub kept_unless_shown : List ℕ → KeptRecords → Key → ℕ → KeptRecords
kept_unless_shown marks kept k i = cond (end_shown marks k) kept (pushed kept i)

-- with that of any key
unfoldable pub kept_with : List ℕ → KeptRecords → Key → ℕ → KeptRecords
kept_with marks kept k i = cond (nothing_kept marks k) kept (pushed kept i)

-- ---- after the walk

-- are the second ends there of the kept records
unfoldable pub every_end : List ℕ → KeptRecords → Bool
every_end b kept = every_up_to (λ (j : ℕ). end_there (tuples_of b) (key_at b (get_or kept.records (j - 1) 0))) kept.count

-- the kept records are records with good keys
pub record KeptHold (b : List ℕ) (kept : KeptRecords) : Type 0 where
  pub size : length kept.records ≡ kept_count
  pub few : kept.count ≤ kept_count
  pub named : (j : ℕ) → j < kept.count
      → (get_or kept.records j 0 ≢ 0) × (get_or kept.records j 0 ≤ capacity_of b) × (good_key (key_at b (get_or kept.records j 0)) ≡ true)

-- what a walk of the used chain finds of the tuples: marks, and records whose second ends decide where it is sure
pub record Decided (b marks : List ℕ) (kept : KeptRecords) (sure : Bool) : Type 0 where
  pub shows : MarksHold b marks
  pub listed : KeptHold b kept
  pub decided : sure ≡ true → every_key (supported (tuples_of b)) (tuples_of b) ≡ every_end b kept
