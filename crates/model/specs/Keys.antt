-- Document 01, "Names and tuples": keys, tuples and their order.
-- Names are numbers here and have no upper bound: the bound of 65,535 is a rule of the store (Rules.antt), so the order below serves names of any width.
use Rattle.std.specs.Prelude.{Bool, not, ◌&&◌, eqb}
use Prim.Native.Nat.{ℕ, compare, Ordering}
use Rattle.std.proofs.Math.Dec.{compare_is_eq}
use Rattle.model.specs.declared.Key.{Key}
use Rattle.model.specs.Ordered.{then_by}

-- "Nodes, edges and spaces are named by 1 to 65,535 (16 bits), separately."
abbrev pub most_name : ℕ
most_name = 65535

-- "A value is a 32-bit word; 0 is NIL."
abbrev pub Value : Type 0
Value = ℕ

abbrev pub NIL : Value
NIL = 0

-- "A tuple has a key (s, n, g, m) [the struct Key] and a value"
pub record Tuple : Type 0 where
  pub key : Key
  pub value : Value

abbrev pub key_of : Tuple → Key
key_of t = t.key

-- "(s,0,0,0) is space s"; "in tuples and answers UNIVERSE is written 0"
abbrev pub space_key : ℕ → Key
space_key s = record { s = s; n = 0; g = 0; m = 0 }

-- "(s,n,0,0) is node n in s"
abbrev pub node_key : ℕ → ℕ → Key
node_key s n = record { s = s; n = n; g = 0; m = 0 }

-- "(s,n,g,m) is edge g from n to m in s"
abbrev pub edge_key : ℕ → ℕ → ℕ → ℕ → Key
edge_key s n g m = record { s = s; n = n; g = g; m = m }

-- which of the three a key is
abbrev pub is_node : Key → Bool
is_node k = not (eqb k.n 0) && eqb k.g 0

abbrev pub is_edge : Key → Bool
is_edge k = not (eqb k.g 0)

-- "used keys strictly ascend, s first"
unfoldable pub compare_keys : Key → Key → Ordering
compare_keys a b =
    then_by (compare a.s b.s) (then_by (compare a.n b.n) (then_by (compare a.g b.g) (compare a.m b.m)))

abbrev pub same_key : Key → Key → Bool
same_key a b = compare_is_eq (compare_keys a b)
