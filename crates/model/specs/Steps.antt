-- Document 01, the column "step" of the table of operators: what each operator adds, sets, removes and answers; and what it answers with nothing as its space (request 1).
use Rattle.std.specs.Prelude.{Bool, true, false, cond, ◌&&◌, ◌||◌, List, [], ◌∷◌, ◌++◌, ℕ, ◌-◌, eqb, length}
use Rattle.model.specs.declared.Call.{Call}
use Rattle.model.specs.declared.Decoded.{Decoded}
use Rattle.model.specs.declared.Fields.{Fields}
use Rattle.model.specs.declared.Space.{Space}
use Rattle.model.specs.declared.Space.TheVariants.{Universe, Numbered, Nothing}
use Rattle.model.specs.declared.Pair.{Pair}
use Rattle.model.specs.declared.Refusal.{Refusal}
use Rattle.model.specs.declared.Key.{Key}
use Rattle.model.specs.Keys.{Value, NIL, space_key, node_key}
use Rattle.model.specs.Tuples.{Tuples, any_present, value_at, add_all, assign_all, remove}
use Rattle.model.specs.declared.Direction.{Direction}
use Rattle.model.specs.declared.Listing.{Listing}
use Rattle.model.specs.declared.Object.{Object}
use Rattle.model.specs.declared.Operator.{Operator}
use Rattle.model.specs.declared.Operator.TheVariants.{Create, Bind, Value as Values, Exists, Destroy, List as Lists}
use Rattle.model.specs.declared.Removal.{Removal}
use Rattle.model.specs.Operators.{operator_of, row_of}
use Rattle.model.specs.Pairs.{edge_of, node_of, pairs_at, pairs_of, edge_names, node_names, with_edge, with_node, nodes_in, spaces_in, spaces_with, pair_keys, any_pair}

-- "In tuples and answers UNIVERSE is written 0." No tuple and no answer is made with nothing; what stands here for it has no effect.
unfoldable pub space_number : Space → ℕ
space_number Universe = 0
space_number (Numbered s) = s.0
space_number Nothing = 0

-- the call's fields as numbers
abbrev pub n_of : Call → ℕ
n_of c = c.n.0

abbrev pub g_of : Call → ℕ
g_of c = c.g.0

abbrev pub m_of : Call → ℕ
m_of c = c.m.0

abbrev pub v_of : Call → Value
v_of c = c.v

abbrev pub s_of : Call → ℕ
s_of c = space_number c.s

-- the call's fields as numbers, together
abbrev pub fields_of : Call → Fields
fields_of c = record { n = n_of c; g = g_of c; m = m_of c; v = v_of c; s = s_of c }

-- what is read of a call: the row of its number, its operator, its fields
abbrev pub decoded : Call → Decoded
decoded c = record { row = row_of c.operator; operator = operator_of c.operator; fields = fields_of c }

-- the keys in space s that C, B, V and X work on
unfoldable pub object_keys : Object → ℕ → Fields → List Key
object_keys (Object.P d) s f = pair_keys d s f.n f.g f.m
object_keys Object.UN s f = node_key s f.n ∷ []
object_keys Object.US s f = space_key s ∷ []

-- C: "add the edge .. in s and in 0"; "add n to s and to 0"; "add s"
unfoldable pub created : Object → Fields → List Key
created (Object.P d) f = object_keys (Object.P d) f.s f ++ object_keys (Object.P d) 0 f
created Object.UN f = object_keys Object.UN f.s f ++ object_keys Object.UN 0 f
created Object.US f = object_keys Object.US f.s f

-- the value of the first of some keys
unfoldable pub first_value : List Key → Tuples → Value
first_value [] ts = NIL
first_value (k ∷ ks) ts = value_at k ts

-- "Removing an edge from a numbered s takes its tuple in s; from UNIVERSE, its tuples in all spaces": does removing from s reach the key's space
unfoldable pub reaches : ℕ → Key → Bool
reaches s k = eqb s 0 || eqb k.s s

-- "remove the edges of" the pairs of n in s of which p holds
unfoldable pub edges_taken : Direction → ℕ → ℕ → (Pair → Bool) → Key → Bool
edges_taken d s n p k = reaches s k && any_pair p (pairs_at d n k)

-- "Removing a node from s takes its edges, those from it and those to it, in s too; from UNIVERSE, all in all spaces."
unfoldable pub node_taken : ℕ → ℕ → Key → Bool
node_taken s n k = reaches s k && (eqb k.n n || eqb k.m n)

-- "the nodes of such pairs are collected first, then each is removed as by DUN"
unfoldable pub remove_nodes : ℕ → List Pair → Tuples → Tuples
remove_nodes s [] ts = ts
remove_nodes s (p ∷ ps) ts = remove_nodes s ps (remove (node_taken s (node_of p)) ts)

-- "remove s and all tuples in it"
unfoldable pub space_taken : ℕ → Key → Bool
space_taken s k = eqb k.s s

-- D: what is left
unfoldable pub destroyed : Removal → Fields → Tuples → Tuples
destroyed (Removal.P d) f ts =
    remove (edges_taken d f.s f.n (λ (p : Pair). eqb (edge_of p) f.g && eqb (node_of p) f.m)) ts
destroyed (Removal.G d) f ts = remove (edges_taken d f.s f.n (λ (p : Pair). true)) ts
destroyed (Removal.GG d) f ts = remove (edges_taken d f.s f.n (λ (p : Pair). eqb (edge_of p) f.g)) ts
destroyed (Removal.GN d) f ts = remove (edges_taken d f.s f.n (λ (p : Pair). eqb (node_of p) f.m)) ts
destroyed (Removal.N d) f ts = remove_nodes f.s (node_names (pairs_of d f.s f.n ts)) ts
destroyed (Removal.NG d) f ts = remove_nodes f.s (node_names (with_edge f.g (pairs_of d f.s f.n ts))) ts
destroyed Removal.UN f ts = remove (node_taken f.s f.n) ts
destroyed Removal.US f ts = remove (space_taken f.s) ts

-- S: the pairs that it lists
unfoldable pub listed : Listing → Fields → Tuples → List Pair
listed (Listing.P d) f ts = pairs_of d f.s f.n ts
listed (Listing.G d) f ts = edge_names (pairs_of d f.s f.n ts)
listed (Listing.GN d) f ts = edge_names (with_node f.m (pairs_of d f.s f.n ts))
listed (Listing.N d) f ts = node_names (pairs_of d f.s f.n ts)
listed (Listing.NG d) f ts = node_names (with_edge f.g (pairs_of d f.s f.n ts))
listed Listing.UN f ts = nodes_in f.s ts
listed Listing.US f ts = spaces_in ts
listed Listing.USn f ts = spaces_with f.n ts

-- "C, B and D return the first argument (51, 52, 55: the space)"
unfoldable pub first_argument : Decoded → ℕ
first_argument d = cond d.row.first d.fields.s d.fields.n

-- "Answers are equal when they are of the same kind (refusal, name, value, yes or no, list) and carry the same; a list carries k and its k pairs in order."
-- Request 2, "The machine's answers gain the same number": of C the tuples added, of D the tuples removed.
pub data Reply : Type 0 where
  refusal : Refusal → Reply
  name : ℕ → Reply
  added : ℕ → ℕ → Reply
  removed : ℕ → ℕ → Reply
  valued : Value → Reply
  yes_no : Bool → Reply
  pairs : ℕ → List Pair → Reply

-- "k (how many pairs the step would list)": the pairs; none but for S
unfoldable pub would_list : Operator → Fields → Tuples → List Pair
would_list (Create o) f ts = []
would_list (Bind o) f ts = []
would_list (Values o) f ts = []
would_list (Exists o) f ts = []
would_list (Destroy r) f ts = []
would_list (Lists l) f ts = listed l f ts

-- "the keys that the step would add": none but for C
unfoldable pub would_add : Operator → Fields → List Key
would_add (Create o) f = created o f
would_add (Bind o) f = []
would_add (Values o) f = []
would_add (Exists o) f = []
would_add (Destroy r) f = []
would_add (Lists l) f = []

-- the state after the step; "set the pair's value in s to v; A sets whichever are present"
unfoldable pub after : Operator → Fields → Tuples → Tuples
after (Create o) f ts = add_all (created o f) ts
after (Bind o) f ts = assign_all (object_keys o f.s f) f.v ts
after (Values o) f ts = ts
after (Exists o) f ts = ts
after (Destroy r) f ts = destroyed r f ts
after (Lists l) f ts = ts

-- what the step answers; `first` is the call's first argument.
-- Request 2: "The number is the difference of the tuple counts before and after." (`-` ends at 0; `counts_the_difference` in proofs/Changes.antt shows that nothing is cut off.)
unfoldable pub reply : Operator → ℕ → Fields → Tuples → Reply
reply (Create o) first f ts = added first (length (after (Create o) f ts) - length ts)
reply (Bind o) first f ts = name first
reply (Values o) first f ts = valued (first_value (object_keys o f.s f) ts)
reply (Exists o) first f ts = yes_no (any_present (object_keys o f.s f) ts)
reply (Destroy r) first f ts = removed first (length ts - length (after (Destroy r) f ts))
reply (Lists l) first f ts = pairs (length (listed l f ts)) (listed l f ts)

-- request 1, what a call with nothing answers: "C, B and D change nothing and return the first argument; X says no; S, SUN included, answers an empty list."
-- Request 2: the number is "0 where nothing changed". A V operator with nothing is stopped by condition 12; what stands here for it has no effect.
unfoldable pub idle_reply : Operator → ℕ → Reply
idle_reply (Create o) first = added first 0
idle_reply (Bind o) first = name first
idle_reply (Values o) first = valued NIL
idle_reply (Exists o) first = yes_no false
idle_reply (Destroy r) first = removed first 0
idle_reply (Lists l) first = pairs 0 []
