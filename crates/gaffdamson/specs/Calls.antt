-- What the C functions do: preparing, one call and a run, with their answers in words.
use Rattle.std.specs.Prelude.{cond, List, ◌↔◌, ◌≢◌, ◌≡◌, ℕ, length, Result, Ok, Err}
use Rattle.model.specs.declared.Answer.{Answer}
use Rattle.model.specs.declared.Call.{Call}
use Rattle.model.specs.declared.Pair.{Pair}
use Rattle.model.specs.declared.Refusal.{Refusal}
use Rattle.model.specs.declared.Refusal.TheVariants.{NotAStore, ListTooShort}
use Rattle.model.specs.Numbered.{number_of}
use Rattle.model.specs.Traces.{Trace}
use Rattle.model.specs.Machine.{machine}
use Rattle.layouts.specs.Buffer.{fits_length, Preparing}
use Rattle.model.specs.OneCall.{answer_of, OneCall}
use Rattle.model.specs.CallLists.{MeetsDemand1}
use Rattle.layouts.specs.Stored.{stored}
use Rattle.fresh.specs.Prepare.{after_preparing}
use Rattle.pairs.specs.InPairs.{CallInPairs}
use Rattle.run.specs.declared.AnswerWords.{AnswerWords}
use Rattle.run.specs.Words.{capacity_kind, calls_in, answer_words}
use Rattle.run.specs.Runs.{calls_made, has_room, Ran}

-- ---- one call

-- the answer of a call on any buffer: refusal 1 where it is no store, else the machine's
unfoldable pub answer_on : List ℕ → Call → ℕ → Result Answer Refusal
answer_on b c room = cond (stored.is_store b) (answer_of (machine (stored.capacity_of b) (stored.state_of b) c room).answer) (Err NotAStore)

-- the call c on the buffer b with the answer list l gives the words r and leaves the buffer b' and the list l'
pub record Called (b l : List ℕ) (c : Call) (r : AnswerWords) (b' l' : List ℕ) : Type 0 where
  pub answer : r ≡ answer_words (answer_on b c (length l))
  pub call : OneCall stored b l c (answer_on b c (length l)) b' l'

-- the same with a list of pairs
pub record CalledInPairs (b : List ℕ) (l : List Pair) (c : Call) (r : AnswerWords) (b' : List ℕ) (l' : List Pair) : Type 0 where
  pub answer : r ≡ answer_words (answer_on b c (length l))
  pub call : CallInPairs b l c (answer_on b c (length l)) b' l'

-- ---- preparing

-- the answer of preparing any buffer: refusal 1 for "a length outside 10 to 12,297 words", else C
unfoldable pub preparation_of : List ℕ → Result ℕ Refusal
preparation_of b = cond (fits_length b) (Ok (stored.capacity_of b)) (Err NotAStore)

-- in words: a refusal like that of a call, or C, which has a kind of its own
unfoldable pub preparation_words : Result ℕ Refusal → AnswerWords
preparation_words (Err condition) = answer_words (Err condition)
preparation_words (Ok C) = record { kind = capacity_kind; first = C; second = 0 }

-- preparing the buffer b gives the words r and leaves the buffer b'
pub record PreparedAs (b : List ℕ) (r : AnswerWords) (b' : List ℕ) : Type 0 where
  pub answer : r ≡ preparation_words (preparation_of b)
  pub buffer : b' ≡ after_preparing b
  pub preparing : Preparing b (preparation_of b) b'

-- ---- a run

-- the answer of a run on any buffer: refusal 1 where it is no store, refusal 9 where there is too little room
unfoldable pub run_on : List ℕ → List ℕ → List ℕ → List ℕ → Result (Unit {0}) Refusal
run_on b calls answers lists = cond (stored.is_store b) (cond (has_room (calls_in calls) answers lists) (Ok tt) (Err ListTooShort)) (Err NotAStore)

-- in a word: 0 where all calls were made, else the number of the condition
unfoldable pub run_word : Result (Unit {0}) Refusal → ℕ
run_word (Ok made) = 0
run_word (Err condition) = number_of condition

-- the run of the words `calls` on the buffer b gives the word r and leaves the buffer b', the answers and the lists
pub record RanAs (b calls answers lists : List ℕ) (r : ℕ) (b' answers' lists' : List ℕ) : Type 0 where
  pub answer : r ≡ run_word (run_on b calls answers lists)
  pub run : Ran b calls answers lists (run_on b calls answers lists) b' answers' lists'

-- demand 1 of a run by its word, and of each call of it
pub record RunDemand1InWords (b calls answers lists : List ℕ) (r : ℕ) (b' answers' lists' : List ℕ) : Type 0 where
  -- "A refusal is a number and changes no word", whatever its number: neither of the store nor of the answers and lists
  pub refused : r ≢ 0 → (b' ≡ b) × (answers' ≡ answers) × (lists' ≡ lists)
  -- "A buffer that isn't a store is itself refused.": 1 exactly when it breaks the rules
  pub no_store : (r ≡ 1) ↔ (stored.IsStore b → ⊥)
  pub each : r ≡ 0 → Trace (MeetsDemand1 stored) b (calls_made (stored.capacity_of b) (stored.state_of b) (calls_in calls) lists) b'
