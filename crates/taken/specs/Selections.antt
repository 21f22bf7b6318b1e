-- Which tuples a removal takes, as one value: what D operators 12 to 23, 49 and 55 remove in one walk.
use Rattle.std.specs.Prelude.{Bool, false, cond, ◌&&◌, ◌||◌, ℕ, eqb, ltb}
use Rattle.model.specs.declared.Direction.{Direction}
use Rattle.model.specs.declared.Direction.TheVariants.{Outpointing, Inpointing, Adjacent}
use Rattle.model.specs.declared.Key.{Key}
use Rattle.model.specs.declared.Pair.{Pair}
use Rattle.model.specs.Keys.{node_key}
use Rattle.model.specs.Pairs.{edge_of, node_of}
use Rattle.model.specs.Steps.{edges_taken, node_taken, space_taken}
use Rattle.taken.specs.declared.Selection.{Selection}
use Rattle.taken.specs.declared.Selection.TheVariants.{Edges, Node, Space}
use Rattle.taken.specs.declared.Span.{Span}

-- a pair with edge g and node m, where 0 asks for none in particular
unfoldable pub passes : ℕ → ℕ → Pair → Bool
passes g m p = (eqb g 0 || eqb (edge_of p) g) && (eqb m 0 || eqb (node_of p) m)

unfoldable pub taken_by : Selection → Key → Bool
taken_by (Edges e) k = edges_taken e.d e.s e.n (passes e.g e.m) k
taken_by (Node x) k = node_taken x.s x.n k
taken_by (Space s) k = space_taken s k

-- the node that all edges of a direction start at; 0 for none in particular
unfoldable pub from_node : Direction → ℕ → ℕ
from_node Outpointing n = n
from_node Inpointing n = 0
from_node Adjacent n = 0

-- the span in which all keys lie that a selection takes
unfoldable pub span_of : Selection → Span
span_of (Edges e) = record { s = e.s; n = from_node e.d e.n }
span_of (Node x) = record { s = x.s; n = 0 }
span_of (Space s) = record { s = s; n = 0 }

-- does a key lie in a span
unfoldable pub in_span : Span → Key → Bool
in_span a k = (eqb a.s 0 || eqb k.s a.s) && (eqb a.n 0 || eqb k.n a.n)

-- no key below this one lies in the span
abbrev pub span_start : Span → Key
span_start a = node_key a.s a.n

-- neither this key nor any above it lies in the span
unfoldable pub beyond : Span → Key → Bool
beyond a k = cond (eqb a.s 0) false (cond (eqb k.s a.s) (cond (eqb a.n 0) false (ltb a.n k.n)) (ltb a.s k.s))
