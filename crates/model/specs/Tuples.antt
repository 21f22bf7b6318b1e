-- Document 01, "The tuple machine": its state, and what a step can do to it.
-- "Its state is a set of tuples, one value per key": a list of tuples whose keys strictly ascend. The state itself is named in Machine.antt.
use Rattle.std.specs.Prelude.{Bool, false, cond, ◌||◌, List, [], ◌∷◌}
use Rattle.model.specs.Ordered.{holds, put}
use Rattle.model.specs.declared.Key.{Key}
use Rattle.model.specs.Keys.{Value, NIL, Tuple, key_of, space_key, compare_keys, same_key}

abbrev pub Tuples : Type 0
Tuples = List Tuple

-- "at first only (0,0,0,0) with NIL"
abbrev pub fresh : Tuples
fresh = record { key = space_key 0; value = NIL } ∷ []

-- is there a tuple with this key
abbrev pub present : Key → Tuples → Bool
present k ts = holds key_of compare_keys k ts

-- is one of these keys present
unfoldable pub any_present : List Key → Tuples → Bool
any_present [] ts = false
any_present (k ∷ ks) ts = present k ts || any_present ks ts

-- the value at a key; NIL where the key is missing
unfoldable pub value_at : Key → Tuples → Value
value_at k [] = NIL
value_at k (t ∷ ts) = cond (same_key k t.key) t.value (value_at k ts)

-- "add .., NIL where missing; a present one keeps its value"
abbrev pub add : Key → Tuples → Tuples
add k ts = put key_of compare_keys (record { key = k; value = NIL }) ts

unfoldable pub add_all : List Key → Tuples → Tuples
add_all [] ts = ts
add_all (k ∷ ks) ts = add_all ks (add k ts)

-- "the tuples to add (the keys that the step would add and that are missing)": each key that is missing when its turn comes, so each once
unfoldable pub missing : List Key → Tuples → List Key
missing [] ts = []
missing (k ∷ ks) ts = cond (present k ts) (missing ks ts) (k ∷ missing ks (add k ts))

-- "set the value .. to v"; a key that is missing stays so
unfoldable pub assign : Key → Value → Tuples → Tuples
assign k v [] = []
assign k v (t ∷ ts) = cond (same_key k t.key) (record { key = t.key; value = v }) t ∷ assign k v ts

-- "sets whichever are present"
unfoldable pub assign_all : List Key → Value → Tuples → Tuples
assign_all [] v ts = ts
assign_all (k ∷ ks) v ts = assign_all ks v (assign k v ts)

-- "remove": the tuples whose keys are taken go, all others stay
unfoldable pub remove : (Key → Bool) → Tuples → Tuples
remove takes [] = []
remove takes (t ∷ ts) = cond (takes t.key) (remove takes ts) (t ∷ remove takes ts)
