-- Where what a call names is to be sought. Answers do not depend on it: these are hints that spare walks.
use Rattle.std.specs.Prelude.{Bool, true, false, cond, not, List, ◌≡◌, ℕ, eqb, leb}
use Rattle.model.specs.declared.Decoded.{Decoded}
use Rattle.model.specs.declared.Fields.{Fields}
use Rattle.model.specs.declared.Key.{Key}
use Rattle.model.specs.Keys.{space_key, node_key}
use Rattle.model.specs.Tuples.{present}
use Rattle.layouts.specs.Buffer.{key_at, used_of, tuples_of}
use Rattle.chain.specs.Links.{Hint, place_in}
use Rattle.located.specs.declared.Near.{Near}
use Rattle.located.specs.declared.Sought.{Sought}
use Rattle.located.specs.declared.Located.{Located}

-- each place is a hint
pub record NearIn (b : List ℕ) (near : Near) : Type 0 where
  pub space : Hint b near.space
  pub node : Hint b near.node
  pub second : Hint b near.second

-- the last used record whose key is below k; 0 for none
abbrev pub before_key : List ℕ → Key → ℕ
before_key b k = (place_in (key_at b) k 0 (used_of b)).before

abbrev pub near : ℕ → ℕ → ℕ → Near
near space node second = record { space = space; node = node; second = second }

-- near nodes n and m of space s
abbrev pub near_nodes : List ℕ → ℕ → ℕ → ℕ → ℕ → Near
near_nodes b space s n m = near space (before_key b (node_key s n)) (before_key b (node_key s m))

-- a C in a numbered space adds in UNIVERSE besides, but for 51
unfoldable pub near_universe : List ℕ → Decoded → Near
near_universe b d =
    cond (eqb d.fields.s 0) (near 0 0 0) (cond d.row.both (near_nodes b 0 0 d.fields.n d.fields.m) (near 0 0 0))

unfoldable pub also_in : Near → Near → ℕ → Near
also_in here universe s = cond (eqb s 0) here universe

unfoldable pub farther_of : Near → Fields → ℕ
farther_of universe f = cond (leb f.n f.m) universe.second universe.node

-- the place of a key, and whether it is there
unfoldable pub sought_in : List ℕ → Key → Sought
sought_in b k = record { before = before_key b k; there = present k (tuples_of b) }

-- a space without its nodes; a space that is there, with node n, or with nodes n and m
abbrev pub located_space : ℕ → Bool → Located
located_space before there = record { near = near before 0 0; space = there; node = false; second = false }

abbrev pub located_node : ℕ → Sought → Located
located_node space node =
    record { near = near space node.before 0; space = true; node = node.there; second = false }

abbrev pub located_nodes : ℕ → Sought → Sought → Located
located_nodes space node second =
    record { near = near space node.before second.before; space = true; node = node.there; second = second.there }

-- the space of the call and, if it is there, its nodes, as far as the operator reads them
unfoldable pub located_in : List ℕ → Decoded → Located
located_in b d =
    let reads = d.row.reads in
    let f = d.fields in
    let space = sought_in b (node_key f.s 0) in
    let node = sought_in b (node_key f.s f.n) in
    cond (not reads.s) (located_space 0 false)
    (cond (not space.there) (located_space space.before false)
    (cond reads.m (located_nodes space.before node (sought_in b (node_key f.s f.m)))
    (cond reads.n (located_node space.before node) (located_space space.before true))))

-- what is told of a call's space and nodes is so, as far as its operator reads them; of nodes only where the space is there
pub record Told (b : List ℕ) (d : Decoded) (l : Located) : Type 0 where
  pub near : NearIn b l.near
  pub space : d.row.reads.s ≡ true → l.space ≡ present (space_key d.fields.s) (tuples_of b)
  pub node : d.row.reads.n ≡ true → l.space ≡ true → l.node ≡ present (node_key d.fields.s d.fields.n) (tuples_of b)
  pub second : d.row.reads.m ≡ true → l.space ≡ true → l.second ≡ present (node_key d.fields.s d.fields.m) (tuples_of b)
