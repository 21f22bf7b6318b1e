-- Document 01, "A list of calls, as demand 3 has it": calls one after the other, and what is claimed of the whole list, over any layout of the buffer.
use Rattle.std.specs.Prelude.{true, cond, List, [], ◌∷◌, map, ◌↔◌, ◌≡◌, ℕ, ◌+◌, ◌≤◌, ◌<◌, length, Result}
use Rattle.std.proofs.Math.Option.{none}
use Rattle.model.specs.declared.Call.{Call}
use Rattle.model.specs.declared.Answer.{Answer}
use Rattle.model.specs.declared.Refusal.{Refusal}
use Rattle.model.specs.declared.Refusal.TheVariants.{Full}
use Rattle.model.specs.Ordered.{Ascending}
use Rattle.model.specs.declared.Key.{Key}
use Rattle.model.specs.Keys.{key_of, compare_keys}
use Rattle.model.specs.Tuples.{fresh, missing}
use Rattle.model.specs.Steps.{Reply, refusal, decoded, would_add}
use Rattle.model.specs.Changes.{AddsUp}
use Rattle.model.specs.Refusals.{selects_nothing, first, earlier}
use Rattle.model.specs.Machine.{State, Request, calling, serve, answers, final}
use Rattle.model.specs.Rules.{NothingMissing}
use Rattle.model.specs.Layouts.{Layout}
use Rattle.model.specs.Traces.{Trace}
use Rattle.model.specs.OneCall.{OneCall, observed}
use Rattle.model.specs.Demand1.{Demand1}

-- ---- calls one after the other

-- a call that was made: the answer list lent to it, before and after, and its answer
pub record Made (A : Type 0) : Type 0 where
  pub call : Call
  pub lent : List A
  pub answer : Result Answer Refusal
  pub left : List A

-- a call whose answer list is one of words
abbrev pub CallMade : Type 0
CallMade = Made ℕ

-- it is one call of the entry, from the buffer b to the buffer b'
abbrev pub OneMade : Layout → List ℕ → CallMade → List ℕ → Type 0
OneMade Y b x b' = OneCall Y b x.lent x.call x.answer b' x.left

-- demand 1 of it
abbrev pub MeetsDemand1 : Layout → {A : Type 0} → List ℕ → Made A → List ℕ → Type 0
MeetsDemand1 Y b x b' = Demand1 Y b x.lent x.call x.answer b' x.left

-- ---- what the machine and the callers see of a call

pub record Exchange : Type 0 where
  -- what the machine is fed: "only the calls: operator, fields and the length of the call's answer list"
  pub request : Request
  -- what the caller observes
  pub reply : Reply

abbrev pub exchange_of : CallMade → Exchange
exchange_of x = record { request = calling (record { call = x.call; room = length x.lent }); reply = observed x.answer x.left }

abbrev pub requests : List Exchange → List Request
requests xs = map (λ (x : Exchange). x.request) xs

abbrev pub replies : List Exchange → List Reply
replies xs = map (λ (x : Exchange). x.reply) xs

-- ---- the claim

-- "the keys that the step would add"; with no selection "C, B and D change nothing" (request 1)
unfoldable pub to_add : Call → List Key
to_add c = cond (selects_nothing c) [] (would_add (decoded c).operator (decoded c).fields)

-- demand 3: "no earlier refusal applies and tuples present plus to add exceed C"
abbrev pub Exceeds : ℕ → State → Request → Type 0
Exceeds C ts (calling r) =
    (first (earlier ts r.call r.room) ≡ none)
    × (C < length ts + length (missing (to_add r.call) ts))

-- demand 3: "'full' is answered exactly when ..", at each call, by the machine's state then
abbrev pub FullExactly : ℕ → State → List Exchange → Type 0
FullExactly C ts [] = Unit {0}
FullExactly C ts (x ∷ xs) =
    ((x.reply ≡ refusal Full) ↔ Exceeds C ts x.request) × FullExactly C (serve C ts x.request).state xs

-- what is claimed of a list of calls made from a store of C records that holds the tuples ts, to the buffer b
pub record WholeList (Y : Layout) (C : ℕ) (ts : State) (xs : List Exchange) (b : List ℕ) : Type 0 where
  -- "the answers are those of 01's tuple machine"
  pub answered : replies xs ≡ answers C ts (requests xs)
  -- "the used chain holds exactly the machine's tuples, each once": they ascend strictly
  pub store : Y.is_store b ≡ true
  pub held : Y.state_of b ≡ final C ts (requests xs)
  pub once : Ascending key_of compare_keys (Y.state_of b)
  -- "tuples + free = C"
  pub records : length (Y.state_of b) + length (Y.free_of b) ≡ C
  -- "nothing names a missing node or space"
  pub nothing_missing : NothingMissing (Y.state_of b)
  pub full_exactly : FullExactly C ts xs
  -- request 2: "the added less the removed is the tuples at the end less" those at the start; a fresh store has one
  pub adds_up : AddsUp (length ts) (replies xs) (length (Y.state_of b))

-- demand 3: "for every C in 1..2,048, every fresh store of C records and every list of calls", the empty one too.
-- The names of a call need no bound here: a call that is made has 16-bit fields, and OneCall holds of no other that adds a name.
abbrev pub Demand3 : Layout → Type 0
Demand3 Y =
    (C : ℕ) (raw b b' : List ℕ) (xs : List CallMade)
    → 1 ≤ C → C ≤ 2048 → Y.capacity_of raw ≡ C → Y.Prepared raw b → Trace (OneMade Y) b xs b' → WholeList Y C fresh (map exchange_of xs) b'
