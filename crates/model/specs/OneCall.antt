-- All that one call does, on any buffer and with any answer list, over any layout of the buffer: the contract of the entry.
use Rattle.std.specs.Prelude.{Bool, true, false, List, ◌++◌, map, ◌≡◌, ℕ, ◌+◌, ◌*◌, ◌/◌, ◌%◌, length, take, drop, Result, Ok, Err}
use Rattle.std.proofs.Math.Option.{some}
use Rattle.model.specs.declared.Call.{Call}
use Rattle.model.specs.declared.Answer.{Answer}
use Rattle.model.specs.declared.Answer.TheVariants.{Name, Added, Removed, Value, YesNo, List as Listed}
use Rattle.model.specs.declared.Pair.{Pair}
use Rattle.model.specs.declared.Refusal.{Refusal}
use Rattle.model.specs.declared.Refusal.TheVariants.{NotAStore}
use Rattle.model.specs.declared.Operator.{Operator}
use Rattle.model.specs.declared.Operator.TheVariants.{Create, Bind, Value as Values, Exists, Destroy, List as Lists}
use Rattle.model.specs.Operators.{operator_of}
use Rattle.model.specs.Pairs.{pair, edge_of, node_of}
use Rattle.model.specs.Steps.{Reply, refusal, name, added, removed, valued, yes_no, pairs}
use Rattle.model.specs.Refusals.{selects_nothing, refusal_of}
use Rattle.model.specs.Machine.{machine}
use Rattle.model.specs.Layouts.{Layout}

-- ---- answers in the caller's types

-- document 01's number and values for each case of an answer; of a list, how many pairs it has
unfoldable pub answer_of : Reply → Result Answer Refusal
answer_of (refusal condition) = Err condition
answer_of (name x) = Ok (Name x)
answer_of (added x k) = Ok (Added x k)
answer_of (removed x k) = Ok (Removed x k)
answer_of (valued v) = Ok (Value v)
answer_of (yes_no b) = Ok (YesNo b)
answer_of (pairs k ps) = Ok (Listed k)

-- how many pairs an answer lists
unfoldable pub list_count : Result Answer Refusal → ℕ
list_count (Err condition) = 0
list_count (Ok (Name x)) = 0
list_count (Ok (Added x k)) = 0
list_count (Ok (Removed x k)) = 0
list_count (Ok (Value v)) = 0
list_count (Ok (YesNo b)) = 0
list_count (Ok (Listed k)) = k

-- how many names a half of a word can hold
abbrev pub name_count : ℕ
name_count = 65536

-- a pair in one word of the answer list
unfoldable pub pack : Pair → ℕ
pack p = edge_of p * name_count + node_of p

unfoldable pub unpack : ℕ → Pair
unpack w = pair (w / name_count) (w % name_count)

-- "in its first k places; the rest stays": the answer list afterwards
unfoldable pub list_after : Reply → List ℕ → List ℕ
list_after (refusal condition) l = l
list_after (name x) l = l
list_after (added x k) l = l
list_after (removed x k) l = l
list_after (valued v) l = l
list_after (yes_no b) l = l
list_after (pairs k ps) l = map pack ps ++ drop k l

-- what a caller observes: an answer, with the list that was lent to the call
unfoldable pub observed : Result Answer Refusal → List ℕ → Reply
observed (Err condition) l = refusal condition
observed (Ok (Name x)) l = name x
observed (Ok (Added x k)) l = added x k
observed (Ok (Removed x k)) l = removed x k
observed (Ok (Value v)) l = valued v
observed (Ok (YesNo b)) l = yes_no b
observed (Ok (Listed k)) l = pairs k (map unpack (take k l))

-- ---- one call

-- C, B and D write the buffer; "Operators of V, X and S change no word."
unfoldable pub writes : Operator → Bool
writes (Create o) = true
writes (Bind o) = true
writes (Values o) = false
writes (Exists o) = false
writes (Destroy r) = true
writes (Lists l) = false

-- "not a store": refusal 1, and nothing is changed
pub record OnNoStore (b l : List ℕ) (a : Result Answer Refusal) (b' l' : List ℕ) : Type 0 where
  pub answer : a ≡ Err NotAStore
  pub buffer : b' ≡ b
  pub list : l' ≡ l

-- on a store: the machine's answer, and a store of the same length with the machine's state.
-- Left to the builder: which record holds a tuple, and with it the order of the free chain; the words of free records besides next.
pub record OnStore (Y : Layout) (b l : List ℕ) (c : Call) (a : Result Answer Refusal) (b' l' : List ℕ) : Type 0 where
  pub answer : a ≡ answer_of (machine (Y.capacity_of b) (Y.state_of b) c (length l)).answer
  pub list : l' ≡ list_after (machine (Y.capacity_of b) (Y.state_of b) c (length l)).answer l
  pub store : Y.is_store b' ≡ true
  pub state : Y.state_of b' ≡ (machine (Y.capacity_of b) (Y.state_of b) c (length l)).state
  pub size : length b' ≡ length b
  pub past : Y.past_records b' ≡ Y.past_records b
  pub refused : (condition : Refusal) → refusal_of (Y.capacity_of b) (Y.state_of b) c (length l) ≡ some condition → b' ≡ b
  pub reading : writes (operator_of c.operator) ≡ false → b' ≡ b
  -- request 1: with no selection "C, B and D change nothing"
  pub unselected : selects_nothing c ≡ true → b' ≡ b

-- the call c on the buffer b with the answer list l gives the answer a and leaves the buffer b' and the list l'
pub record OneCall (Y : Layout) (b l : List ℕ) (c : Call) (a : Result Answer Refusal) (b' l' : List ℕ) : Type 0 where
  pub no_store : Y.is_store b ≡ false → OnNoStore b l a b' l'
  pub on_store : Y.is_store b ≡ true → OnStore Y b l c a b' l'
