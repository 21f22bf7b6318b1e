-- All that a run of a whole list of calls does, on any buffer and with any words: the contract of run_calls.
use Rattle.std.specs.Prelude.{Bool, true, false, ◌&&◌, List, [], ◌∷◌, ◌++◌, map, ◌↔◌, ◌≡◌, ℕ, ◌+◌, ◌*◌, leb, length, take, drop, Result, Ok, Err}
use Rattle.model.specs.declared.Refusal.{Refusal}
use Rattle.model.specs.declared.Refusal.TheVariants.{NotAStore, ListTooShort}
use Rattle.model.specs.Machine.{State, CallRequest, calling, machine}
use Rattle.model.specs.Traces.{Trace}
use Rattle.model.specs.OneCall.{answer_of, list_after, OnStore}
use Rattle.model.specs.CallLists.{CallMade, OneMade, MeetsDemand1, exchange_of, requests, WholeList}
use Rattle.layouts.specs.Stored.{stored}
use Rattle.run.specs.Words.{words_in_answer, calls_in, answer_list}

-- ---- what the machine makes of a list of calls

-- one call of the machine, with the list that is lent to it
unfoldable pub call_made : ℕ → State → CallRequest → List ℕ → CallMade
call_made C ts r l =
    record {
      call = r.call;
      lent = l;
      answer = answer_of (machine C ts r.call r.room).answer;
      left = list_after (machine C ts r.call r.room).answer l;
    }

-- the calls one after the other; their answer lists are parts of one list, one after the other
unfoldable pub calls_made : ℕ → State → List CallRequest → List ℕ → List CallMade
calls_made C ts [] ls = []
calls_made C ts (r ∷ rs) ls =
    call_made C ts r (take r.room ls) ∷ calls_made C (machine C ts r.call r.room).state rs (drop r.room ls)

-- the slice of answers afterwards: the words of each answer, then what it held
unfoldable pub answers_after : List CallMade → List ℕ → List ℕ
answers_after [] ws = ws
answers_after (x ∷ xs) ws = answer_list x.answer ++ answers_after xs (drop words_in_answer ws)

-- the slice of lists afterwards: each call's part as the call left it, then what it held
unfoldable pub lists_after : List CallMade → List ℕ → List ℕ
lists_after [] ls = ls
lists_after (x ∷ xs) ls = x.left ++ lists_after xs (drop (length x.lent) ls)

-- ---- is there room

-- the sum of the lengths of the calls' answer lists
unfoldable pub rooms_of : List CallRequest → ℕ
rooms_of [] = 0
rooms_of (r ∷ rs) = r.room + rooms_of rs

-- the words of each answer, and the answer lists
unfoldable pub has_room : List CallRequest → List ℕ → List ℕ → Bool
has_room rs answers lists = leb (words_in_answer * length rs) (length answers) && leb (rooms_of rs) (length lists)

-- ---- a run

-- a run that is refused changes nothing
pub record NotRun (condition : Refusal) (b answers lists : List ℕ) (r : Result (Unit {0}) Refusal) (b' answers' lists' : List ℕ) : Type 0 where
  pub result : r ≡ Err condition
  pub same_store : b' ≡ b
  pub same_answers : answers' ≡ answers
  pub same_lists : lists' ≡ lists

-- what a run leaves of a store, given what the machine makes of the calls
pub record LeftByRun (xs : List CallMade) (b answers lists b' answers' lists' : List ℕ) : Type 0 where
  -- the calls were made one after the other, so that all that holds of one call holds of each of them
  pub trace : Trace (OneMade stored) b xs b'
  pub answered : answers' ≡ answers_after xs answers
  pub listed : lists' ≡ lists_after xs lists

-- every call was made, in its order and with its own part of the lists
pub record AllRun (b calls answers lists : List ℕ) (r : Result (Unit {0}) Refusal) (b' answers' lists' : List ℕ) : Type 0 where
  pub result : r ≡ Ok tt
  pub asked : requests (map exchange_of (calls_made (stored.capacity_of b) (stored.state_of b) (calls_in calls) lists)) ≡ map calling (calls_in calls)
  pub left : LeftByRun (calls_made (stored.capacity_of b) (stored.state_of b) (calls_in calls) lists) b answers lists b' answers' lists'

-- the run of the words `calls` on the buffer b gives r and leaves the buffer b', the answers and the lists
pub record Ran (b calls answers lists : List ℕ) (r : Result (Unit {0}) Refusal) (b' answers' lists' : List ℕ) : Type 0 where
  pub no_store : stored.is_store b ≡ false → NotRun NotAStore b answers lists r b' answers' lists'
  pub no_room : stored.is_store b ≡ true → has_room (calls_in calls) answers lists ≡ false → NotRun ListTooShort b answers lists r b' answers' lists'
  pub run : stored.is_store b ≡ true → has_room (calls_in calls) answers lists ≡ true → AllRun b calls answers lists r b' answers' lists'

-- ---- the demands of a run

-- demand 1 of a run, and of each call of it
pub record RunDemand1 (b calls answers lists : List ℕ) (r : Result (Unit {0}) Refusal) (b' answers' lists' : List ℕ) : Type 0 where
  -- "A refusal is a number and changes no word", whatever the condition: neither of the store nor of the answers and lists
  pub refused : (condition : Refusal) → r ≡ Err condition → (b' ≡ b) × (answers' ≡ answers) × (lists' ≡ lists)
  -- "A buffer that isn't a store is itself refused.": 1 exactly when it breaks the rules
  pub no_store : (r ≡ Err NotAStore) ↔ (stored.IsStore b → ⊥)
  pub each : r ≡ Ok tt → Trace (MeetsDemand1 stored) b (calls_made (stored.capacity_of b) (stored.state_of b) (calls_in calls) lists) b'

-- demand 3 of a run that is not refused, on a store of C records that holds the tuples ts: the calls that stand in the words were made, one after the other,
-- with all that demand 3 claims of them, and the slices hold their answers and their lists
pub record WholeRun (C : ℕ) (ts : State) (calls answers lists b' answers' lists' : List ℕ) : Type 0 where
  pub whole : WholeList stored C ts (map exchange_of (calls_made C ts (calls_in calls) lists)) b'
  pub asked : requests (map exchange_of (calls_made C ts (calls_in calls) lists)) ≡ map calling (calls_in calls)
  pub answered : answers' ≡ answers_after (calls_made C ts (calls_in calls) lists) answers
  pub listed : lists' ≡ lists_after (calls_made C ts (calls_in calls) lists) lists

-- ---- one call of a run

-- what one call leaves of a store, of the words of its answer and of its list, given what the machine makes of it
pub record OneRun (x : CallMade) (b b' answer' l' : List ℕ) : Type 0 where
  pub call : OnStore stored b x.lent x.call x.answer b' x.left
  pub answered : answer' ≡ answer_list x.answer
  pub listed : l' ≡ x.left
