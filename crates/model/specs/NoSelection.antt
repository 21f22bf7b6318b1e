-- Document 02, request 1, "A row with no selection": what a call with nothing answers, and examples beside (a) to (j).
-- proofs/NoSelection.antt proves that such a call leaves the state and changes no later answer, and the examples by computation.
use Rattle.std.specs.Prelude.{true, false, List, [], ◌∷◌, ◌++◌, ◌≡◌, ℕ}
use Rattle.std.proofs.Math.Option.{Option, none, some}
use Rattle.model.specs.declared.Call.{Call}
use Rattle.model.specs.declared.Refusal.{Refusal}
use Rattle.model.specs.declared.Space.{Space}
use Rattle.model.specs.declared.Space.TheVariants.{Universe, Nothing}
use Rattle.model.specs.Tuples.{fresh}
use Rattle.model.specs.Pairs.{pair}
use Rattle.model.specs.Steps.{decoded, first_argument, Reply, refusal, name, added, removed, valued, yes_no, pairs, idle_reply}
use Rattle.model.specs.Refusals.{first, of_call}
use Rattle.model.specs.Machine.{State, Request, answers, final}
use Rattle.model.specs.Layouts.{Layout}
use Rattle.model.specs.CallLists.{Exchange, requests, replies}
use Rattle.model.specs.Cases.{call, call_with, numbered, COP, CAP, BOP, VOP, DON, CUN, XUN, DUN, SUN, CUS, DUS, with_room, refused, state_after}

-- the refusal, where there is one
unfoldable pub refusal_or : Reply → Option Refusal → Reply
refusal_or r (some condition) = refusal condition
refusal_or r none = r

-- what a call with nothing answers: the call alone decides it, not the tuples, nor C, nor the length of the answer list
unfoldable pub nothing_reply : Call → Reply
nothing_reply c = refusal_or (idle_reply (decoded c).operator (first_argument (decoded c))) (first (of_call c))

-- two lists of calls made from one store of C records that holds the tuples ts: zs to the buffer b'', and the same calls with x among them to b.
-- The answer of x is that of its call alone; all other answers, and the tuples at the end, are the same
pub record WithoutEffect (Y : Layout) (C : ℕ) (ts : State) (xs : List Exchange) (x : Exchange) (c : Call) (ys : List Exchange) (b : List ℕ) (zs : List Exchange) (b'' : List ℕ) : Type 0 where
  pub with_it : replies (xs ++ (x ∷ ys)) ≡ answers C ts (requests xs) ++ (nothing_reply c ∷ answers C (final C ts (requests xs)) (requests ys))
  pub without_it : replies zs ≡ answers C ts (requests xs) ++ answers C (final C ts (requests xs)) (requests ys)
  pub same_state : Y.state_of b ≡ Y.state_of b''

-- ---- examples

abbrev pub XOP : ℕ → ℕ → ℕ → Space → Request
XOP n g m s = call 9 n g m s

-- two nodes, an edge and an empty space
abbrev pub panel : List Request
panel = CUN 1 Universe ∷ CUN 2 Universe ∷ COP 1 5 2 Universe ∷ CUS (numbered 9) ∷ []

-- the answers of calls on the panel
abbrev pub on_panel : List Request → List Reply
on_panel rs = answers 2048 (state_after 2048 panel) rs

pub record NoSelection : Type 0 where
  -- C = 1, so full, and no node: CUN 1, COP 1 5 2, CAP 1 5 2 and BOP 1 5 2 60 with nothing return 1 and leave the state
  pub k :
      answers 1 fresh (CUN 1 Nothing ∷ COP 1 5 2 Nothing ∷ CAP 1 5 2 Nothing ∷ BOP 1 5 2 60 Nothing ∷ []) ≡ added 1 0 ∷ added 1 0 ∷ added 1 0 ∷ name 1 ∷ []
  pub k_state : state_after 1 (CUN 1 Nothing ∷ COP 1 5 2 Nothing ∷ CAP 1 5 2 Nothing ∷ BOP 1 5 2 60 Nothing ∷ []) ≡ fresh
  -- DUN 1, DON 1 and BUN 1 60 with nothing return 1 and leave the panel as it is
  pub l : on_panel (DUN 1 Nothing ∷ DON 1 Nothing ∷ call_with 46 1 0 0 60 Nothing ∷ []) ≡ removed 1 0 ∷ removed 1 0 ∷ name 1 ∷ []
  pub l_state : final 2048 (state_after 2048 panel) (DUN 1 Nothing ∷ DON 1 Nothing ∷ call_with 46 1 0 0 60 Nothing ∷ []) ≡ state_after 2048 panel
  -- XOP and XUN of absent nodes with nothing: no
  pub m : answers 2048 fresh (XOP 1 5 2 Nothing ∷ XUN 1 Nothing ∷ []) ≡ yes_no false ∷ yes_no false ∷ []
  -- SUN with nothing and a list of length 0; SOP of an absent node: an empty list
  pub n : answers 2048 fresh (CUN 1 Universe ∷ with_room 0 (SUN Nothing) ∷ call 30 7 0 0 Nothing ∷ []) ≡ added 1 1 ∷ pairs 0 [] ∷ pairs 0 [] ∷ []
  -- VOP, VIP, VUN, and CUS, BUS, VUS, XUS, DUS with nothing: 12
  pub o :
      answers 2048 fresh
      (VOP 1 5 2 Nothing
      ∷ call 8 1 5 2 Nothing
      ∷ call 47 1 0 0 Nothing
      ∷ CUS Nothing
      ∷ call_with 52 0 0 0 60 Nothing
      ∷ call 53 0 0 0 Nothing
      ∷ call 54 0 0 0 Nothing
      ∷ DUS Nothing
      ∷ [])
      ≡ refused 12 ∷ refused 12 ∷ refused 12 ∷ refused 12 ∷ refused 12 ∷ refused 12 ∷ refused 12 ∷ refused 12 ∷ []
  -- "tested after 3": a name 0 that is read; 2 before both
  pub p : answers 2048 fresh (VOP 1 0 2 Nothing ∷ CUN 0 Nothing ∷ XOP 1 5 0 Nothing ∷ call 58 0 0 0 Nothing ∷ []) ≡ refused 3 ∷ refused 3 ∷ refused 3 ∷ refused 2 ∷ []
  -- UNIVERSE, an empty numbered space and nothing are three: SUN, then COP 1 5 2, then VUS
  pub q_nodes : on_panel (SUN Universe ∷ SUN (numbered 9) ∷ SUN Nothing ∷ []) ≡ pairs 2 (pair 0 1 ∷ pair 0 2 ∷ []) ∷ pairs 0 [] ∷ pairs 0 [] ∷ []
  pub q_edge : on_panel (COP 1 5 2 Universe ∷ COP 1 5 2 (numbered 9) ∷ COP 1 5 2 Nothing ∷ []) ≡ added 1 0 ∷ refused 6 ∷ added 1 0 ∷ []
  pub q_value : on_panel (call 53 0 0 0 Universe ∷ call 53 0 0 0 (numbered 9) ∷ call 53 0 0 0 Nothing ∷ []) ≡ valued 0 ∷ valued 0 ∷ refused 12 ∷ []
  -- an edge is there as it points, and with nothing not at all
  pub q_exists : on_panel (XOP 1 5 2 Universe ∷ XOP 2 5 1 Universe ∷ XOP 1 5 2 Nothing ∷ []) ≡ yes_no true ∷ yes_no false ∷ yes_no false ∷ []
  -- SUS does not read its space: nothing there has no effect
  pub r : on_panel (call 56 0 0 0 Nothing ∷ call 57 1 0 0 Nothing ∷ []) ≡ pairs 2 (pair 0 0 ∷ pair 0 9 ∷ []) ∷ pairs 1 (pair 0 0 ∷ []) ∷ []
