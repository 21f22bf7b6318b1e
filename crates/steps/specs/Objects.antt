-- The keys of what C, B, V and X work on, one by one, and where they are to be sought.
use Rattle.std.specs.Prelude.{Bool, true, false, List, [], ◌∷◌, ◌≡◌, ℕ, ◌+◌, ◌≤◌, length}
use Rattle.model.specs.declared.Fields.{Fields}
use Rattle.model.specs.declared.Direction.{Direction}
use Rattle.model.specs.declared.Direction.TheVariants.{Outpointing, Inpointing, Adjacent}
use Rattle.model.specs.declared.Key.{Key}
use Rattle.model.specs.declared.Object.{Object}
use Rattle.model.specs.Keys.{Value, space_key, node_key, edge_key}
use Rattle.model.specs.Tuples.{missing, assign_all}
use Rattle.layouts.specs.Buffer.{capacity_of, tuples_of}
use Rattle.located.specs.declared.Near.{Near}
use Rattle.chain.specs.Links.{both_ways, Edited}
use Rattle.edit.specs.Edits.{assign_in}

-- ---- hints

-- the hint for the first of a pair's keys
unfoldable pub pair_hint : Direction → Near → ℕ
pair_hint Outpointing near = near.node
pair_hint Inpointing near = near.second
pair_hint Adjacent near = near.node

-- the hint for the first of an object's keys
unfoldable pub main_hint : Object → Near → ℕ
main_hint (Object.P d) near = pair_hint d near
main_hint Object.UN near = near.node
main_hint Object.US near = near.space

-- ---- keys

-- the first of a pair's keys in space s (`pair_keys`)
unfoldable pub pair_key : Direction → ℕ → Fields → Key
pair_key Outpointing s f = edge_key s f.n f.g f.m
pair_key Inpointing s f = edge_key s f.m f.g f.n
pair_key Adjacent s f = edge_key s f.n f.g f.m

-- the first of an object's keys in space s (`object_keys`)
unfoldable pub main_key : Object → ℕ → Fields → Key
main_key (Object.P d) s f = pair_key d s f
main_key Object.UN s f = node_key s f.n
main_key Object.US s f = space_key s

-- has an object a second key: that of the edge from m to n
unfoldable pub is_adjacent : Object → Bool
is_adjacent (Object.P d) = both_ways d
is_adjacent Object.UN = false
is_adjacent Object.US = false

-- C 51 adds s alone; all other C add to s and to 0 (`created`)
unfoldable pub is_space : Object → Bool
is_space (Object.P d) = false
is_space Object.UN = false
is_space Object.US = true

-- the records suffice for the tuples with these keys added: not "tuples present + tuples to add > C"
abbrev pub Room : List ℕ → List Key → Type 0
Room b ks = length (tuples_of b) + length (missing ks (tuples_of b)) ≤ capacity_of b

-- ---- B

-- the buffer with the value words of the records that hold these keys written, and no other word
unfoldable pub assign_all_in : List Key → Value → List ℕ → List ℕ
assign_all_in [] v b = b
assign_all_in (k ∷ ks) v b = assign_all_in ks v (assign_in b k v)

-- the values of these keys are set, where they are present: every word of the buffer, and the tuples
pub record Bound (b : List ℕ) (ks : List Key) (v : Value) (b' : List ℕ) : Type 0 where
  pub words : b' ≡ assign_all_in ks v b
  pub edited : Edited b b' (assign_all ks v (tuples_of b))
