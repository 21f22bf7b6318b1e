-- "Fields not read have no effect": the outcome of a call is that of its readable call (specs/Unread.antt).
use mathlib.Core.Bool.{Bool, true, false}
use mathlib.Core.List.{List, [], ◌∷◌}
use mathlib.Core.Option.{Option, none, some}
use mathlib.Core.Path.{◌≡◌, refl, sym, ap, ◌∙◌}
use Prim.Native.Nat.{ℕ, zero, suc, ◌≤◌}
use native.Mathlib.Omega.{arith}
use lib.Dec.{eqb, leb}
use borrow.Author.Tests.{eqb-true, eqb-false, leb-true}
use Rattle.model.specs.declared.Call.{Call}
use Rattle.model.specs.declared.Refusal.{Refusal}
use Rattle.model.specs.declared.Refusal.TheVariants.{NoOperator}
use Rattle.model.specs.Operators.{table, operator_of, within, reads_of}
use Rattle.model.specs.Steps.{Reply, refusal, decoded, object_keys, created, destroyed, listed, first_argument, would_list, would_add, reply, idle_reply, after}
use Rattle.model.specs.Refusals.{Stop, first, selects_nothing, no_operator, zero_name, lacks_space, destroys_universe, space_absent, node_absent, second_absent}
use Rattle.model.specs.Refusals.{worked_on, edge_absent, list_short, full, of_call, of_tuples, if_looked_up, earlier, refusal_of}
use Rattle.model.specs.Machine.{State, outcome_of, machine}
use Rattle.model.specs.Unread.{readable}
use Rattle.model.proofs.Bools.{and_left, and_right, not_no}

-- ---- functions of the numbers 1 to k

-- what a function gives for k, and so on down to 1
abbrev down_from : {A : Type 0} → (ℕ → A) → ℕ → List A
down_from f zero = []
down_from f (suc k) = f (suc k) ∷ down_from f k

-- two functions that give the same list agree at each number of it
agree_at : {A : Type 0} (f h : ℕ → A) (k : ℕ) → down_from f k ≡ down_from h k → (i : ℕ) → 1 ≤ i → i ≤ k → f i ≡ h i
agree_at f h zero e i low high = absurd (omega arith)
agree_at f h (suc k) e i low high = go (eqb i (suc k)) refl (agree_at f h k (cc) i low)
  where
    go : (b : Bool) → eqb i (suc k) ≡ b → (i ≤ k → f i ≡ h i) → f i ≡ h i
    go true t rest = let z : i ≡ suc k = eqb-true i (suc k) t in cc
    go false t rest = let d : i ≡ suc k → ⊥ = eqb-false i (suc k) t in rest (omega arith)

-- ---- the operators, number by number

-- the fields of c with the number o
abbrev at : Call → ℕ → Call
at c o = record { operator = o; n = c.n; g = c.g; m = c.m; v = c.v; s = c.s }

-- at each number 1 to 57 with the fields of c, f gives for the call what it gives for the readable call
abbrev AllUnread : {A : Type 0} → (Call → A) → Call → Type 0
AllUnread f c = down_from (λ (o : ℕ). f (at c o)) 57 ≡ down_from (λ (o : ℕ). f (readable (at c o))) 57

-- and so for c itself, where its number is an operator's
unread : {A : Type 0} (f : Call → A) (c : Call) → no_operator c ≡ false → AllUnread f c → f c ≡ f (readable c)
unfolding no_operator
unread f c e u =
    let o : ℕ = c.operator in
    let w = not_no (within 1 57 o) e in
    agree_at (λ (i : ℕ). f (at c i)) (λ (i : ℕ). f (readable (at c i))) 57 u o
    (leb-true 1 o (and_left (leb 1 o) (leb o 57) w)) (leb-true o 57 (and_right (leb 1 o) (leb o 57) w))

-- whether the space is nothing
selects_unread : (c : Call) → AllUnread selects_nothing c
unfolding readable reads_of selects_nothing
selects_unread c = refl

-- conditions 2 to 4 and 12
call_unread : (c : Call) → AllUnread of_call c
unfolding readable reads_of selects_nothing no_operator zero_name lacks_space destroys_universe of_call
call_unread c = refl

-- the answer with nothing
abbrev idle_answer : Call → Reply
idle_answer c = idle_reply (operator_of c.operator) (first_argument (decoded c))

idle_unread : (c : Call) → AllUnread idle_answer c
unfolding readable table operator_of reads_of first_argument idle_reply
idle_unread c = refl

module _ (C : ℕ) (ts : State) (room : ℕ) where
  -- conditions 5 to 9
  abbrev stops : Call → List Stop
  stops c = of_tuples ts (decoded c) room

  stops_unread : (c : Call) → AllUnread stops c
  unfolding readable table operator_of reads_of object_keys listed would_list space_absent node_absent second_absent worked_on edge_absent list_short of_tuples
  stops_unread c = refl

  -- condition 10
  abbrev filled : Call → Bool
  filled c = full C (decoded c) ts

  filled_unread : (c : Call) → AllUnread filled c
  unfolding readable table operator_of reads_of object_keys created would_add full
  filled_unread c = refl

  -- the answer of the step
  abbrev answered : Call → Reply
  answered c = reply (operator_of c.operator) (first_argument (decoded c)) (decoded c).fields ts

  answered_unread : (c : Call) → AllUnread answered c
  unfolding readable table operator_of reads_of object_keys created listed destroyed first_argument after reply
  answered_unread c = refl

  -- the state after the step
  abbrev left : Call → State
  left c = after (operator_of c.operator) (decoded c).fields ts

  left_unread : (c : Call) → AllUnread left c
  unfolding readable table operator_of reads_of object_keys created destroyed after
  left_unread c = refl

  -- ---- the outcome

  refused_unread : (c : Call) → no_operator c ≡ false → refusal_of C ts c room ≡ refusal_of C ts (readable c) room
  unfolding refusal_of earlier if_looked_up
  refused_unread c e =
      cc (
        unread selects_nothing c e (selects_unread c),
        unread of_call c e (call_unread c),
        unread stops c e (stops_unread c),
        unread filled c e (filled_unread c),
      )

  -- 1 to 57: the same refusal, or the same answer and state
  of_operator : (c : Call) → no_operator c ≡ false → machine C ts c room ≡ machine C ts (readable c) room
  unfolding machine outcome_of
  of_operator c e = ap (λ (x : Option Refusal). outcome_of x ts c) (refused_unread c e) ∙ go (refusal_of C ts (readable c) room)
    where
      go : (x : Option Refusal) → outcome_of x ts c ≡ outcome_of x ts (readable c)
      go (some condition) = refl
      go none =
          cc (
            unread selects_nothing c e (selects_unread c),
            unread idle_answer c e (idle_unread c),
            unread answered c e (answered_unread c),
            unread left c e (left_unread c),
          )

  -- any other number: refusal 2
  of_none : (c : Call) → no_operator c ≡ true → machine C ts c room ≡ record { answer = refusal NoOperator; state = ts }
  unfolding machine outcome_of refusal_of earlier of_call first
  of_none c e = rw e

-- "Fields not read have no effect."
pub unread_fields : (C : ℕ) (ts : State) (c : Call) (room : ℕ) → machine C ts c room ≡ machine C ts (readable c) room
unfolding readable no_operator
unread_fields C ts c room = go (no_operator c) refl
  where
    go : (b : Bool) → no_operator c ≡ b → machine C ts c room ≡ machine C ts (readable c) room
    go true e = of_none C ts room c e ∙ sym (of_none C ts room (readable c) e)
    go false e = of_operator C ts room c e

-- two calls with the same readable call have the same outcome
pub same_readable : (C : ℕ) (ts : State) (c d : Call) (room : ℕ) → readable c ≡ readable d → machine C ts c room ≡ machine C ts d room
same_readable C ts c d room e =
    unread_fields C ts c room ∙ ap (λ (x : Call). machine C ts x room) e ∙ sym (unread_fields C ts d room)
