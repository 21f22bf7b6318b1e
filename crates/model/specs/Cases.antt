-- Examples: document 01's cases (a) to (j), "Marked for proof", in one conjunction; its table of sixteen script lines; which refusal wins.
-- proofs/Cases.antt proves them by computation.
use Rattle.std.specs.Prelude.{false, List, [], ◌∷◌, ◌≡◌, ℕ, length}
use Rattle.model.specs.declared.Space.{Space}
use Rattle.model.specs.declared.Space.TheVariants.{Universe, Numbered}
use Rattle.model.specs.declared.Key.{Key}
use Rattle.model.specs.Numbered.{refusal_in}
use Rattle.model.specs.Keys.{Value, NIL, Tuple, space_key, node_key, edge_key}
use Rattle.model.specs.Tuples.{fresh}
use Rattle.model.specs.Pairs.{pair}
use Rattle.model.specs.Steps.{Reply, refusal, name, added, removed, valued, yes_no, pairs}
use Rattle.model.specs.Machine.{State, Request, calling, answers, final}

-- ---- calls as a script writes them, with an answer list of so many places

abbrev pub call_with : ℕ → ℕ → ℕ → ℕ → Value → Space → Request
call_with operator n g m v s =
    calling (record {
      call = record { operator = operator; n = record { 0 = n }; g = record { 0 = g }; m = record { 0 = m }; v = v; s = s };
      room = 2048;
    })

abbrev pub call : ℕ → ℕ → ℕ → ℕ → Space → Request
call operator n g m s = call_with operator n g m 0 s

abbrev pub numbered : ℕ → Space
numbered s = Numbered (record { 0 = s })

abbrev pub COP : ℕ → ℕ → ℕ → Space → Request
COP n g m s = call 1 n g m s

abbrev pub CAP : ℕ → ℕ → ℕ → Space → Request
CAP n g m s = call 3 n g m s

abbrev pub BOP : ℕ → ℕ → ℕ → Value → Space → Request
BOP n g m v s = call_with 4 n g m v s

abbrev pub VOP : ℕ → ℕ → ℕ → Space → Request
VOP n g m s = call 7 n g m s

abbrev pub DON : ℕ → Space → Request
DON n s = call 24 n 0 0 s

abbrev pub CUN : ℕ → Space → Request
CUN n s = call 45 n 0 0 s

abbrev pub XUN : ℕ → Space → Request
XUN n s = call 48 n 0 0 s

abbrev pub DUN : ℕ → Space → Request
DUN n s = call 49 n 0 0 s

abbrev pub SUN : Space → Request
SUN s = call 50 0 0 0 s

abbrev pub CUS : Space → Request
CUS s = call 51 0 0 0 s

abbrev pub DUS : Space → Request
DUS s = call 55 0 0 0 s

abbrev pub with_room : ℕ → Request → Request
with_room room (calling r) = calling (record { call = r.call; room = room })

-- a tuple whose value is NIL
abbrev pub new : Key → Tuple
new k = record { key = k; value = NIL }

-- a refusal, by the number that is answered
abbrev pub refused : ℕ → Reply
refused number = refusal (refusal_in number)

-- the state after a list of calls from a fresh store of C records
abbrev pub state_after : ℕ → List Request → State
state_after C rs = final C fresh rs

pub record Cases : Type 0 where
  -- C = 1, CUN 1: 10
  pub a : answers 1 fresh (CUN 1 Universe ∷ []) ≡ refused 10 ∷ []
  -- C = 2, CUN 1, DUN 1, CUS 9: the last returns 9
  pub b : answers 2 fresh (CUN 1 Universe ∷ DUN 1 Universe ∷ CUS (numbered 9) ∷ []) ≡ added 1 1 ∷ removed 1 1 ∷ added 9 1 ∷ []
  -- C = 3, CUS 9, CUN 1 9: 10, two tuples remain
  pub c : answers 3 fresh (CUS (numbered 9) ∷ CUN 1 (numbered 9) ∷ []) ≡ added 9 1 ∷ refused 10 ∷ []
  pub c_remain : length (state_after 3 (CUS (numbered 9) ∷ CUN 1 (numbered 9) ∷ [])) ≡ 2
  -- the same, C = 4: returns 1
  pub d : answers 4 fresh (CUS (numbered 9) ∷ CUN 1 (numbered 9) ∷ []) ≡ added 9 1 ∷ added 1 2 ∷ []
  -- CAP 1 5 1 adds one tuple in UNIVERSE
  pub e :
      state_after 2048 (CUN 1 Universe ∷ CAP 1 5 1 Universe ∷ []) ≡ new (space_key 0) ∷ new (node_key 0 1) ∷ new (edge_key 0 1 5 1) ∷ []
  -- CAP 1 5 2 in a space, both new: four
  pub f :
      state_after 2048 (CUS (numbered 9) ∷ CUN 1 (numbered 9) ∷ CUN 2 (numbered 9) ∷ CAP 1 5 2 (numbered 9) ∷ [])
      ≡ new (space_key 0)
      ∷ new (node_key 0 1)
      ∷ new (edge_key 0 1 5 2)
      ∷ new (node_key 0 2)
      ∷ new (edge_key 0 2 5 1)
      ∷ new (space_key 9)
      ∷ new (node_key 9 1)
      ∷ new (edge_key 9 1 5 2)
      ∷ new (node_key 9 2)
      ∷ new (edge_key 9 2 5 1)
      ∷ []
  -- DON 1 with only a loop: SUN is empty
  pub g :
      answers 2048 fresh (CUN 1 Universe ∷ COP 1 5 1 Universe ∷ DON 1 Universe ∷ SUN Universe ∷ [])
      ≡ added 1 1 ∷ added 1 1 ∷ removed 1 2 ∷ pairs 0 [] ∷ []
  -- DUN 7 without node 7: returns 7
  pub h : answers 2048 fresh (DUN 7 Universe ∷ []) ≡ removed 7 0 ∷ []
  -- CUS on UNIVERSE: 0
  pub i : answers 2048 fresh (CUS Universe ∷ []) ≡ added 0 0 ∷ []
  -- a list of length 0 and k = 0: answered; k = 1: 9
  pub j : answers 2048 fresh (with_room 0 (SUN Universe) ∷ CUN 1 Universe ∷ with_room 0 (SUN Universe) ∷ []) ≡ pairs 0 [] ∷ added 1 1 ∷ refused 9 ∷ []

-- ---- the table of script lines, left columns first, then right; by request 2 "the C and D lines gain" the number, "as `= 1 -3` for `DUN 1`"

abbrev pub script_calls : List Request
script_calls =
    CUN 1 Universe
    ∷ CUN 2 Universe
    ∷ CUS (numbered 9)
    ∷ SUN (numbered 9)
    ∷ SUN Universe
    ∷ CUN 1 (numbered 9)
    ∷ COP 1 5 2 (numbered 9)
    ∷ COP 1 5 2 Universe
    ∷ BOP 1 5 2 60 Universe
    ∷ VOP 1 5 2 Universe
    ∷ VOP 1 5 2 (numbered 9)
    ∷ DUN 1 Universe
    ∷ SUN Universe
    ∷ XUN 1 (numbered 9)
    ∷ DUS Universe
    ∷ CUN 0 Universe
    ∷ []

abbrev pub script_replies : List Reply
script_replies =
    added 1 1
    ∷ added 2 1
    ∷ added 9 1
    ∷ pairs 0 []
    ∷ pairs 2 (pair 0 1 ∷ pair 0 2 ∷ [])
    ∷ added 1 1
    ∷ refused 7
    ∷ added 1 1
    ∷ name 1
    ∷ valued 60
    ∷ refused 7
    ∷ removed 1 3
    ∷ pairs 1 (pair 0 2 ∷ [])
    ∷ yes_no false
    ∷ refused 4
    ∷ refused 3
    ∷ []

abbrev pub ScriptTable : Type 0
ScriptTable = answers 2048 fresh script_calls ≡ script_replies

-- ---- "The first that applies wins"

-- two conditions at once: 2 and 3; 3 and 5; 5 and 6; 6 and 7
abbrev pub FirstWins : Type 0
FirstWins =
    answers 1 fresh (call 58 0 0 0 Universe ∷ CUN 0 (numbered 9) ∷ COP 1 5 2 (numbered 9) ∷ COP 1 5 2 Universe ∷ [])
    ≡ refused 2 ∷ refused 3 ∷ refused 5 ∷ refused 6 ∷ []

-- 7 and 8; 7 and 10 (the store is full)
abbrev pub SecondNode : Type 0
SecondNode = answers 2 fresh (CUN 1 Universe ∷ VOP 1 5 2 Universe ∷ COP 1 5 2 Universe ∷ []) ≡ added 1 1 ∷ refused 7 ∷ refused 7 ∷ []

-- the examples' operators are those that they are named for: BOP sets no edge that points the other way, DON removes what an edge points to and not what it comes from
abbrev pub OperatorsApart : Type 0
OperatorsApart =
    answers 2048 fresh (CUN 1 Universe ∷ CUN 2 Universe ∷ COP 1 5 2 Universe ∷ BOP 2 5 1 60 Universe ∷ DON 2 Universe ∷ DON 1 Universe ∷ SUN Universe ∷ [])
    ≡ added 1 1 ∷ added 2 1 ∷ added 1 1 ∷ refused 8 ∷ removed 2 0 ∷ removed 1 2 ∷ pairs 1 (pair 0 1 ∷ []) ∷ []
