-- Document 01, the rules of a store that are about its tuples: as tests that compute, and as statements.
-- proofs/Sound.antt proves that the tests say yes exactly when the statements hold.
use Rattle.std.specs.Prelude.{Bool, true, false, cond, not, ◌&&◌, ◌||◌, [], ◌∷◌, ◌↔◌, ◌≢◌, ◌≡◌, ◌≤◌, eqb, leb}
use Rattle.std.proofs.Math.Option.{Option, none, some}
use Rattle.model.specs.Ordered.{ascends_from, Ascending}
use Rattle.model.specs.declared.Key.{Key}
use Rattle.model.specs.Keys.{most_name, key_of, space_key, node_key, edge_key, is_node, is_edge, compare_keys, same_key}
use Rattle.model.specs.Tuples.{Tuples, present}

-- ---- tests

-- "used keys strictly ascend, s first; the first is (0,0,0,0)"
unfoldable pub ascends_from_universe : Tuples → Bool
ascends_from_universe [] = false
ascends_from_universe (t ∷ ts) = same_key t.key (space_key 0) && ascends_from key_of compare_keys t.key ts

-- "key words are at most 65,535"
unfoldable pub small_key : Key → Bool
small_key k = leb k.s most_name && (leb k.n most_name && (leb k.g most_name && leb k.m most_name))

-- "n = 0 makes g and m 0"
unfoldable pub no_edge_without_node : Key → Bool
no_edge_without_node k = not (eqb k.n 0) || (eqb k.g 0 && eqb k.m 0)

-- "g is 0 exactly when m is"
unfoldable pub edge_has_end : Key → Bool
edge_has_end k = cond (eqb k.g 0) (eqb k.m 0) (not (eqb k.m 0))

-- "each node tuple has its space and its tuple in 0"
unfoldable pub node_supported : Tuples → Key → Bool
node_supported ts k = not (is_node k) || (present (space_key k.s) ts && present (node_key 0 k.n) ts)

-- "each edge tuple has its two node tuples in s and its tuple in 0"
unfoldable pub edge_supported : Tuples → Key → Bool
edge_supported ts k =
    not (is_edge k)
    || (present (node_key k.s k.n) ts && (present (node_key k.s k.m) ts && present (edge_key 0 k.n k.g k.m) ts))

unfoldable pub every_key : (Key → Bool) → Tuples → Bool
every_key p [] = true
every_key p (t ∷ ts) = p t.key && every_key p ts

-- the rules on the tuples together
unfoldable pub sound : Tuples → Bool
sound ts =
    ascends_from_universe ts
    && (every_key small_key ts
    && (every_key no_edge_without_node ts && (every_key edge_has_end ts && (every_key (node_supported ts) ts && every_key (edge_supported ts) ts))))

-- ---- statements

abbrev pub Has : Key → Tuples → Type 0
Has k ts = present k ts ≡ true

-- "each node tuple has its space and its tuple in 0, each edge tuple has its two node tuples in s and its tuple in 0"
pub record Supported (ts : Tuples) (k : Key) : Type 0 where
  pub node : k.n ≢ 0 → k.g ≡ 0 → Has (space_key k.s) ts × Has (node_key 0 k.n) ts
  pub edge : k.g ≢ 0 → Has (node_key k.s k.n) ts × Has (node_key k.s k.m) ts × Has (edge_key 0 k.n k.g k.m) ts

-- "That nothing named is missing means: .."
abbrev pub NothingMissing : Tuples → Type 0
NothingMissing ts = (k : Key) → Has k ts → Supported ts k

-- "key words are at most 65,535"
pub record Small (k : Key) : Type 0 where
  pub s : k.s ≤ most_name
  pub n : k.n ≤ most_name
  pub g : k.g ≤ most_name
  pub m : k.m ≤ most_name

-- "n = 0 makes g and m 0; g is 0 exactly when m is"
pub record Shaped (k : Key) : Type 0 where
  pub named : k.n ≡ 0 → (k.g ≡ 0) × (k.m ≡ 0)
  pub ends : (k.g ≡ 0) ↔ (k.m ≡ 0)

abbrev pub first_key : Tuples → Option Key
first_key [] = none
first_key (t ∷ ts) = some t.key

pub record TupleRules (ts : Tuples) : Type 0 where
  -- "used keys strictly ascend, s first"
  pub ascends : Ascending key_of compare_keys ts
  -- "the first is (0,0,0,0)"
  pub first : first_key ts ≡ some (space_key 0)
  pub small : (k : Key) → Has k ts → Small k
  pub shaped : (k : Key) → Has k ts → Shaped k
  pub nothing_missing : NothingMissing ts
