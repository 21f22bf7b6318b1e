-- Calls and answers as words: what a list of calls holds, and what the C functions take and give.
-- A call has a word for each field: the operator; n; g; m; the form of the value and v; the form of the space and s. In a list of calls the length of the answer
-- list lent to it is a ninth word. So any nine words are a call; words past the last whole call are not read.
-- An answer has three words: its kind, and what it carries first and second.
use Rattle.std.specs.Prelude.{Bool, true, false, cond, not, List, [], ◌∷◌, ℕ, zero, suc, ◌+◌, ◌*◌, ◌/◌, eqb, leb, length, take, drop, Result, Ok, Err}
use Rattle.model.specs.declared.Call.{Call}
use Rattle.model.specs.declared.Space.{Space}
use Rattle.model.specs.declared.Space.TheVariants.{Universe, Numbered, Nothing}
use Rattle.model.specs.declared.Answer.{Answer}
use Rattle.model.specs.declared.Answer.TheVariants.{Name, Added, Removed, Value as Valued, YesNo, List as Listed}
use Rattle.model.specs.declared.Refusal.{Refusal}
use Rattle.model.specs.Numbered.{number_of, refusal_in}
use Rattle.model.specs.Keys.{Value, NIL, most_name}
use Rattle.model.specs.Machine.{CallRequest}
use Rattle.layouts.specs.Buffer.{word}
use Rattle.run.specs.declared.CallWords.{CallWords}
use Rattle.run.specs.declared.AnswerWords.{AnswerWords}

-- words of a call in a list of calls; words of an answer
abbrev pub words_in_call : ℕ
words_in_call = 9

abbrev pub words_in_answer : ℕ
words_in_answer = 3

-- ---- calls

-- "every name a field of 16 bits": a word above 65,535 is no name and stands for 0, which condition 3 refuses where the name is read
unfoldable pub name_in : ℕ → ℕ
name_in w = cond (leb w most_name) w 0

-- the form of a value: 0 is NIL, any other number the value v
unfoldable pub value_of_form : ℕ → ℕ → Value
value_of_form form v = cond (eqb form 0) NIL v

-- the form of a space: 0 is UNIVERSE, 2 is nothing (request 1), any other number the numbered space s
unfoldable pub space_of_form : ℕ → ℕ → Space
space_of_form form s = cond (eqb form 0) Universe (cond (eqb form 2) Nothing (Numbered (record { 0 = name_in s })))

-- the call that words are
unfoldable pub call_of : CallWords → Call
call_of w =
    record {
      operator = w.operator;
      n = record { 0 = name_in w.n };
      g = record { 0 = name_in w.g };
      m = record { 0 = name_in w.m };
      v = value_of_form w.value_form w.v;
      s = space_of_form w.space_form w.s;
    }

-- the first eight of the nine words of a call, in their order
unfoldable pub call_words : List ℕ → CallWords
call_words ws =
    record {
      operator = word ws 0;
      n = word ws 1;
      g = word ws 2;
      m = word ws 3;
      value_form = word ws 4;
      v = word ws 5;
      space_form = word ws 6;
      s = word ws 7;
    }

-- the call that nine words are
abbrev pub call_in : List ℕ → Call
call_in ws = call_of (call_words ws)

-- the ninth: the length of the answer list that is lent to it
abbrev pub room_in : List ℕ → ℕ
room_in ws = word ws 8

abbrev pub request_in : List ℕ → CallRequest
request_in ws = record { call = call_in ws; room = room_in ws }

-- the nine words of call i of a list of calls
abbrev pub words_of_call : List ℕ → ℕ → List ℕ
words_of_call ws i = take words_in_call (drop (words_in_call * i) ws)

-- the calls from number i on, so many of them
unfoldable pub calls_from : List ℕ → ℕ → ℕ → List CallRequest
calls_from ws zero i = []
calls_from ws (suc k) i = request_in (words_of_call ws i) ∷ calls_from ws k (i + 1)

-- how many calls there are: words past the last whole call are not read
abbrev pub call_count : List ℕ → ℕ
call_count ws = length ws / words_in_call

-- the calls that stand in a list of words
unfoldable pub calls_in : List ℕ → List CallRequest
calls_in ws = calls_from ws (call_count ws) 0

-- ---- answers

-- the kind of what preparing answers, which is no answer to a call
abbrev pub capacity_kind : ℕ
capacity_kind = 5

-- the kind of an answer
unfoldable pub kind_of : Result Answer Refusal → ℕ
kind_of (Err condition) = 0
kind_of (Ok (Name x)) = 1
kind_of (Ok (Added x k)) = 6
kind_of (Ok (Removed x k)) = 7
kind_of (Ok (Valued v)) = 2
kind_of (Ok (YesNo b)) = 3
kind_of (Ok (Listed k)) = 4

abbrev pub bit_of : Bool → ℕ
bit_of true = 1
bit_of false = 0

-- what it carries first: the refusal's number, the name, the value, 1 for yes and 0 for no, how many pairs are listed
unfoldable pub first_of : Result Answer Refusal → ℕ
first_of (Err condition) = number_of condition
first_of (Ok (Name x)) = x
first_of (Ok (Added x k)) = x
first_of (Ok (Removed x k)) = x
first_of (Ok (Valued v)) = v
first_of (Ok (YesNo b)) = bit_of b
first_of (Ok (Listed k)) = k

-- what it carries second: how many tuples were added or removed; of a value 1 for a number and 0 for NIL; else 0
unfoldable pub second_of : Result Answer Refusal → ℕ
second_of (Err condition) = 0
second_of (Ok (Name x)) = 0
second_of (Ok (Added x k)) = k
second_of (Ok (Removed x k)) = k
second_of (Ok (Valued v)) = bit_of (not (eqb v NIL))
second_of (Ok (YesNo b)) = 0
second_of (Ok (Listed k)) = 0

-- an answer in words ..
abbrev pub answer_words : Result Answer Refusal → AnswerWords
answer_words a = record { kind = kind_of a; first = first_of a; second = second_of a }

-- what a caller reads in words: the answer of that kind, with what it carries (words that no answer has read as `Removed`; nothing rests on that)
unfoldable pub answer_in : AnswerWords → Result Answer Refusal
answer_in w =
    cond (eqb w.kind 0) (Err (refusal_in w.first))
    (cond (eqb w.kind 1) (Ok (Name w.first))
    (cond (eqb w.kind 2) (Ok (Valued w.first))
    (cond (eqb w.kind 3) (Ok (YesNo (eqb w.first 1)))
    (cond (eqb w.kind 4) (Ok (Listed w.first))
    (cond (eqb w.kind 6) (Ok (Added w.first w.second)) (Ok (Removed w.first w.second)))))))

-- .. one after the other
abbrev pub answer_list : Result Answer Refusal → List ℕ
answer_list a = kind_of a ∷ first_of a ∷ second_of a ∷ []
