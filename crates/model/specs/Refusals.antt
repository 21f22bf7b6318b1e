-- Document 01, "Where a call is stopped": conditions 2 to 10 in their order, with request 1's condition 12 between 3 and 4.
-- "The first that applies wins; nothing is changed."
-- Condition 1 is about the buffer (OneCall.antt), condition 11 about a script's line; neither arises in the machine.
use Rattle.std.specs.Prelude.{Bool, true, false, cond, not, ◌&&◌, ◌||◌, List, [], ◌∷◌, ◌++◌, ℕ, ◌+◌, eqb, ltb, length}
use Rattle.std.proofs.Math.Option.{Option, none, some}
use Rattle.model.specs.declared.Call.{Call}
use Rattle.model.specs.declared.Decoded.{Decoded}
use Rattle.model.specs.declared.Fields.{Fields}
use Rattle.model.specs.declared.Refusal.{Refusal}
use Rattle.model.specs.declared.Refusal.TheVariants.{NoOperator, ZeroName, UniverseDestroyed, SpaceAbsent, NodeAbsent, SecondAbsent, EdgeAbsent, ListTooShort, Full, NoSelection}
use Rattle.model.specs.declared.Space.{Space}
use Rattle.model.specs.declared.Space.TheVariants.{Universe, Numbered, Nothing}
use Rattle.model.specs.declared.Key.{Key}
use Rattle.model.specs.Keys.{space_key, node_key}
use Rattle.model.specs.Tuples.{Tuples, present, any_present, missing}
use Rattle.model.specs.declared.Operator.{Operator}
use Rattle.model.specs.declared.Operator.TheVariants.{Create, Bind, Value as Values, Exists, Destroy, List as Lists}
use Rattle.model.specs.Operators.{within, row_of}
use Rattle.model.specs.Steps.{n_of, g_of, m_of, decoded, object_keys, would_list, would_add}

-- a condition, and whether it applies
pub record Stop : Type 0 where
  pub condition : Refusal
  pub applies : Bool

abbrev pub stop : Refusal → Bool → Stop
stop condition applies = record { condition = condition; applies = applies }

-- "The first that applies wins."
unfoldable pub first : List Stop → Option Refusal
first [] = none
first (x ∷ xs) = cond x.applies (some x.condition) (first xs)

-- the space of the call is a number, and that is 0
unfoldable pub zero_space : Space → Bool
zero_space Universe = false
zero_space (Numbered s) = eqb s.0 0
zero_space Nothing = false

-- the space of the call is UNIVERSE
unfoldable pub is_universe : Space → Bool
is_universe Universe = true
is_universe (Numbered s) = false
is_universe Nothing = false

-- the space of the call is nothing
unfoldable pub is_nothing : Space → Bool
is_nothing Universe = false
is_nothing (Numbered s) = false
is_nothing Nothing = true

-- request 1, "a row that selects nothing": the space of the call is read, and it is nothing
unfoldable pub selects_nothing : Call → Bool
selects_nothing c = (row_of c.operator).reads.s && is_nothing c.s

-- 2, operator: "not 1 to 57"
unfoldable pub no_operator : Call → Bool
no_operator c = not (within 1 57 c.operator)

-- 3, names: "a name that is read is 0"
unfoldable pub zero_name : Call → Bool
zero_name c =
    let r = (row_of c.operator).reads in
    (r.n && eqb (n_of c) 0) || (r.g && eqb (g_of c) 0) || (r.m && eqb (m_of c) 0) || (r.s && zero_space c.s)

-- 12, space: "a V operator, or any of 51–55, with `-`; tested after 3 and before 4"
unfoldable pub lacks_space : Call → Bool
lacks_space c = selects_nothing c && (row_of c.operator).asks.selection

-- 4, space: "55 on UNIVERSE"
unfoldable pub destroys_universe : Call → Bool
destroys_universe c = (row_of c.operator).asks.number && is_universe c.s

-- 5, space: "s absent (not for 51, 54, 55)"
unfoldable pub space_absent : Decoded → Tuples → Bool
space_absent d ts = d.row.asks.space && not (present (space_key d.fields.s) ts)

-- 6, node: "n absent from s (1–44, 46, 47), or from 0 (57)"
unfoldable pub node_absent : Decoded → Tuples → Bool
node_absent d ts =
    (d.row.asks.node && not (present (node_key d.fields.s d.fields.n) ts))
    || (d.row.asks.universe && not (present (node_key 0 d.fields.n) ts))

-- 7, node: "m, where it is read, absent from s"
unfoldable pub second_absent : Decoded → Tuples → Bool
second_absent d ts = d.row.reads.m && not (present (node_key d.fields.s d.fields.m) ts)

-- the keys in s that C, B, V and X work on
unfoldable pub worked_on : Operator → Fields → List Key
worked_on (Create o) f = object_keys o f.s f
worked_on (Bind o) f = object_keys o f.s f
worked_on (Values o) f = object_keys o f.s f
worked_on (Exists o) f = object_keys o f.s f
worked_on (Destroy r) f = []
worked_on (Lists l) f = []

-- 8, pair: "4–8: no such edge; 6 only if both are absent"
unfoldable pub edge_absent : Decoded → Tuples → Bool
edge_absent d ts = d.row.asks.edge && not (any_present (worked_on d.operator d.fields) ts)

-- 9, answer list: "shorter than k"
unfoldable pub list_short : Decoded → Tuples → ℕ → Bool
list_short d ts room = ltb room (length (would_list d.operator d.fields ts))

-- 10, records: "full: tuples present + tuples to add > C"
unfoldable pub full : ℕ → Decoded → Tuples → Bool
full C d ts = ltb C (length ts + length (missing (would_add d.operator d.fields) ts))

-- the conditions on the call alone
unfoldable pub of_call : Call → List Stop
of_call c = stop NoOperator (no_operator c) ∷ stop ZeroName (zero_name c) ∷ stop NoSelection (lacks_space c) ∷ stop UniverseDestroyed (destroys_universe c) ∷ []

-- the conditions on what is present; room is the length of the call's answer list
unfoldable pub of_tuples : Tuples → Decoded → ℕ → List Stop
of_tuples ts d room =
    stop SpaceAbsent (space_absent d ts)
    ∷ stop NodeAbsent (node_absent d ts)
    ∷ stop SecondAbsent (second_absent d ts)
    ∷ stop EdgeAbsent (edge_absent d ts)
    ∷ stop ListTooShort (list_short d ts room)
    ∷ []

-- request 1: "nothing is looked up in the graph, so conditions 5 to 10 are not tested"
unfoldable pub if_looked_up : Call → List Stop → List Stop
if_looked_up c xs = cond (selects_nothing c) [] xs

-- conditions 2 to 9 and 12, those earlier than "full", in their order
unfoldable pub earlier : Tuples → Call → ℕ → List Stop
earlier ts c room = of_call c ++ if_looked_up c (of_tuples ts (decoded c) room)

-- the refusal, or none where the call is not stopped
unfoldable pub refusal_of : ℕ → Tuples → Call → ℕ → Option Refusal
refusal_of C ts c room = first (earlier ts c room ++ if_looked_up c (stop Full (full C (decoded c) ts) ∷ []))
