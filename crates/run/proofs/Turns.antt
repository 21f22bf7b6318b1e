-- One call after the other: what was written so far, and what the machine makes of the rest, is what it makes of all.
use mathlib.Core.Bool.{true}
use mathlib.Core.List.{List, [], ◌∷◌, ◌++◌, append_assoc}
use mathlib.Core.Path.{◌≡◌, refl, sym, ap, ap₂, ◌∙◌, subst}
use Prim.Native.Nat.{ℕ, ◌+◌, ◌-◌, ◌*◌, ◌≤◌, ◌<◌}
use native.Mathlib.Omega.{arith}
use mir.Val.{Fits}
use mir.Syntax.{w32}
use lib.ListN.{length, get_or, take, drop, length-append, length-drop, take-append-drop}
use lib.Seq.{length-take-le, drop-drop}
use borrow.Rule.Slice.PartMut.{put_mid}
use Rattle.std.proofs.lemmas.Slice.{take-put_mid, drop-put_mid}
use Rattle.model.specs.declared.Call.{Call}
use Rattle.std.specs.Prelude.{Result}
use Rattle.model.specs.declared.Answer.{Answer}
use Rattle.model.specs.declared.Refusal.{Refusal}
use Rattle.model.specs.Machine.{State, CallRequest, machine}
use Rattle.layouts.specs.Buffer.{capacity_of, tuples_of, is_store}
use Rattle.model.specs.Traces.{Trace, end, then}
use Rattle.model.specs.OneCall.{answer_of, list_count, list_after, OnStore}
use Rattle.model.specs.CallLists.{CallMade, OneMade}
use Rattle.layouts.specs.Stored.{stored}
use Rattle.model.proofs.Bools.{clash}
use Rattle.model.proofs.CallLists.{answer_within}
use Rattle.layouts.proofs.Sizes.{capacity_length}
use Rattle.run.specs.Words.{words_in_answer, words_in_call, call_in, room_in, request_in, words_of_call, calls_from, answer_list}
use Rattle.run.specs.Runs.{call_made, calls_made, answers_after, lists_after, rooms_of, LeftByRun, OneRun}
use Rattle.run.proofs.WordLaws.{room_at, request_at, calls_start, calls_next, calls_end}
use Rattle.run.proofs.Fits.{rooms_next}

-- ---- one call

-- the number of pairs that a call lists fits a word, since the length of its list does
count_fits : (b l b' l' : List ℕ) (c : Call) (a : Result Answer Refusal) → OnStore stored b l c a b' l' → length l' ≡ length l → length l ≤ 4294967295 → list_count a ≤ 4294967295
count_fits b l b' l' c a O e h = let k : list_count a ≤ length l = answer_within stored b l b' l' c a O e in omega arith

-- .. which is the room that the call gives, a word of its nine
pub count_small : (b ws l b' l' : List ℕ) (c : Call) (a : Result Answer Refusal)
    → ((k : ℕ) → Fits w32 (get_or ws k 0)) → length l ≡ room_in ws → OnStore stored b l c a b' l' → length l' ≡ length l → list_count a ≤ 4294967295
count_small b ws l b' l' c a f e O k = count_fits b l b' l' c a O k (omega (arith, e, f 8))

-- a call and its answer written are what the machine makes of it
pub one_run : (b ws l b' answer' l' : List ℕ) (c : Call) (a : Result Answer Refusal)
    → c ≡ call_in ws → length l ≡ room_in ws → OnStore stored b l c a b' l' → answer' ≡ answer_list a
    → OneRun (call_made (capacity_of b) (tuples_of b) (request_in ws) l) b b' answer' l'
unfolding call_made
one_run b ws l b' answer' l' c a ec er O ea =
    let asked : OnStore stored b l (call_in ws) a b' l' = subst (λ (d : Call). OnStore stored b l d a b' l') ec O in
    let x : CallMade = call_made (capacity_of b) (tuples_of b) (request_in ws) l in
    let answer : a ≡ x.answer
    = asked.answer ∙ ap (λ (n : ℕ). answer_of (machine (capacity_of b) (tuples_of b) (call_in ws) n).answer) er in
    let left : l' ≡ x.left
    = asked.list ∙ ap (λ (n : ℕ). list_after (machine (capacity_of b) (tuples_of b) (call_in ws) n).answer l) er in
    record {
      call = subst (λ (k : List ℕ). OnStore stored b l (call_in ws) x.answer b' k) left (subst (λ (y : Result Answer Refusal). OnStore stored b l (call_in ws) y b' l') answer asked);
      answered = ea ∙ ap answer_list answer;
      listed = left;
    }

-- ---- a part of a list that is lent, and what comes back put in its place

module _ (xs part : List ℕ) (at n : ℕ) (inside : at + n ≤ length xs) (sized : length part ≡ n) where
  part_length : length (put_mid at n xs part) ≡ length xs
  part_length =
      omega (
        arith,
        length-append (take at xs) (part ++ drop n (drop at xs)),
        length-append part (drop n (drop at xs)),
        length-take-le at xs (omega arith),
        length-drop n (drop at xs),
        length-drop at xs,
        sized,
      )

  part_first : take (at + n) (put_mid at n xs part) ≡ take at xs ++ part
  part_first = take-put_mid at n xs part (at + n) (omega (arith, sized)) (omega arith)

  part_rest : drop (at + n) (put_mid at n xs part) ≡ drop n (drop at xs)
  part_rest = drop-put_mid at n xs part (at + n) (omega arith) (omega arith) sized ∙ sym (drop-drop n at xs)

-- ---- the calls so far

-- call i of a list of calls
abbrev call_at : List ℕ → ℕ → Call
call_at ws i = call_in (words_of_call ws i)

-- its words as they are lent
abbrev pub call_lent : List ℕ → ℕ → List ℕ
call_lent ws i = take (words_in_call * (i + 1) - words_in_call * i) (drop (words_in_call * i) ws)

call_whole : (ws : List ℕ) (i : ℕ) → call_lent ws i ≡ words_of_call ws i
call_whole ws i =
    let nine : words_in_call * (i + 1) - words_in_call * i ≡ words_in_call = omega arith in
    ap (λ (k : ℕ). take k (drop (words_in_call * i) ws)) nine

-- what the machine makes of the calls that are left, with the lists from a place on
abbrev pub rest_made : List ℕ → ℕ → List ℕ → List ℕ → ℕ → ℕ → List CallMade
rest_made ws count b l at i = calls_made (capacity_of b) (tuples_of b) (calls_from ws (count - i) i) (drop at l)

-- what it makes of all
abbrev pub all_made : List ℕ → ℕ → List ℕ → List ℕ → List CallMade
all_made ws count b l = calls_made (capacity_of b) (tuples_of b) (calls_from ws count 0) l

-- the part of the lists that is lent to call i, what the machine makes of the call, and the lists behind that part
abbrev pub lent_at : List ℕ → List ℕ → ℕ → ℕ → List ℕ
lent_at ws l at i = take (room_at ws i) (drop at l)

abbrev pub made_at : List ℕ → List ℕ → List ℕ → ℕ → ℕ → CallMade
made_at ws b l at i = call_made (capacity_of b) (tuples_of b) (request_at ws i) (lent_at ws l at i)

abbrev pub behind : List ℕ → List ℕ → ℕ → ℕ → List ℕ
behind ws l at i = drop (room_at ws i) (drop at l)

-- the lists with another such part, and the answers with another answer i
abbrev pub lists_with : List ℕ → List ℕ → ℕ → ℕ → List ℕ → List ℕ
lists_with ws l at i part = put_mid at (room_at ws i) l part

abbrev pub answers_with : List ℕ → ℕ → List ℕ → List ℕ
answers_with a i answer = put_mid (words_in_answer * i) words_in_answer a answer

-- after i calls, whose lists end at place `at`: from b₀, a₀, l₀ to the buffer b, the answers a, the lists l
pub record Running (ws : List ℕ) (count : ℕ) (b₀ a₀ l₀ b a l : List ℕ) (at i : ℕ) : Type 0 where
  pub within : i ≤ count
  pub store : is_store b ≡ true
  pub size : length b ≡ length b₀
  pub answers_size : length a ≡ length a₀
  pub lists_size : length l ≡ length l₀
  pub room : at + rooms_of (calls_from ws (count - i) i) ≤ length l
  pub answered : answers_after (all_made ws count b₀ l₀) a₀ ≡ take (words_in_answer * i) a ++ answers_after (rest_made ws count b l at i) (drop (words_in_answer * i) a)
  pub listed : lists_after (all_made ws count b₀ l₀) l₀ ≡ take at l ++ lists_after (rest_made ws count b l at i) (drop at l)
  pub trace : (b'' : List ℕ) → Trace (OneMade stored) b (rest_made ws count b l at i) b'' → Trace (OneMade stored) b₀ (all_made ws count b₀ l₀) b''

module _ (ws : List ℕ) (count : ℕ) (b₀ a₀ l₀ : List ℕ) where
  pub run_start : is_store b₀ ≡ true → rooms_of (calls_from ws count 0) ≤ length l₀ → Running ws count b₀ a₀ l₀ b₀ a₀ l₀ 0 0
  run_start s h =
      let all : calls_from ws (count - 0) 0 ≡ calls_from ws count 0 = calls_start ws count in
      let made : rest_made ws count b₀ l₀ 0 0 ≡ all_made ws count b₀ l₀
      = ap (λ (rs : List CallRequest). calls_made (capacity_of b₀) (tuples_of b₀) rs l₀) all in
      record {
        within = omega arith;
        store = s;
        size = refl;
        answers_size = refl;
        lists_size = refl;
        room = omega (arith, ap rooms_of all);
        answered = ap (λ (xs : List CallMade). answers_after xs a₀) (sym made);
        listed = ap (λ (xs : List CallMade). lists_after xs l₀) (sym made);
        trace = λ b'' T. subst (λ (xs : List CallMade). Trace (OneMade stored) b₀ xs b'') made T;
      }

  -- all calls are made
  pub run_end : (b a l : List ℕ) (at i : ℕ) → Running ws count b₀ a₀ l₀ b a l at i → count ≤ i → LeftByRun (all_made ws count b₀ l₀) b₀ a₀ l₀ b a l
  unfolding calls_made answers_after lists_after
  run_end b a l at i R h =
      let none_left : rest_made ws count b l at i ≡ []
      = ap (λ (rs : List CallRequest). calls_made (capacity_of b) (tuples_of b) rs (drop at l)) (calls_end ws count i h) in
      record {
        trace = R.trace b (subst (λ (xs : List CallMade). Trace (OneMade stored) b xs b) (sym none_left) end);
        answered =
            sym
            (R.answered
            ∙ ap (λ (xs : List CallMade). take (words_in_answer * i) a ++ answers_after xs (drop (words_in_answer * i) a)) none_left
            ∙ take-append-drop (words_in_answer * i) a);
        listed = sym (R.listed ∙ ap (λ (xs : List CallMade). take at l ++ lists_after xs (drop at l)) none_left ∙ take-append-drop at l);
      }

  -- one more call, which leaves b', of the answers' part for it `answer` and of the lists' part for it `part`
  module _ (b a l b' answer part : List ℕ) (at i : ℕ) (R : Running ws count b₀ a₀ l₀ b a l at i) (more : i < count) (wide : words_in_answer * count ≤ length a₀)
      (sized : length part ≡ room_at ws i) (O : OneRun (made_at ws b l at i) b b' answer part) where
    room_next : at + (room_at ws i + rooms_of (calls_from ws (count - (i + 1)) (i + 1))) ≤ length l
    room_next = omega (arith, R.room, rooms_next ws count i more)

    lent_inside : at + room_at ws i ≤ length l
    lent_inside = omega (arith, room_next)

    lent_length : length (lent_at ws l at i) ≡ room_at ws i
    lent_length = length-take-le (room_at ws i) (drop at l) (omega (arith, length-drop at l, lent_inside))

    lists_length : length (lists_with ws l at i part) ≡ length l
    lists_length = part_length l part at (room_at ws i) lent_inside sized

    lists_first : take (at + room_at ws i) (lists_with ws l at i part) ≡ take at l ++ part
    lists_first = part_first l part at (room_at ws i) lent_inside sized

    lists_rest : drop (at + room_at ws i) (lists_with ws l at i part) ≡ behind ws l at i
    lists_rest = part_rest l part at (room_at ws i) lent_inside sized

    answer_inside : words_in_answer * i + words_in_answer ≤ length a
    answer_inside = omega (arith, R.answers_size)

    next_answer : words_in_answer * (i + 1) ≡ words_in_answer * i + words_in_answer
    next_answer = omega arith

    answers_length : length (answers_with a i answer) ≡ length a
    answers_length = part_length a answer (words_in_answer * i) words_in_answer answer_inside (ap length O.answered)

    answers_first : take (words_in_answer * (i + 1)) (answers_with a i answer) ≡ take (words_in_answer * i) a ++ answer_list (made_at ws b l at i).answer
    answers_first =
        ap (λ (k : ℕ). take k (answers_with a i answer)) next_answer
        ∙ part_first a answer (words_in_answer * i) words_in_answer answer_inside (ap length O.answered)
        ∙ ap (λ (ys : List ℕ). take (words_in_answer * i) a ++ ys) O.answered

    answers_rest : drop (words_in_answer * (i + 1)) (answers_with a i answer) ≡ drop words_in_answer (drop (words_in_answer * i) a)
    answers_rest =
        ap (λ (k : ℕ). drop k (answers_with a i answer)) next_answer
        ∙ part_rest a answer (words_in_answer * i) words_in_answer answer_inside (ap length O.answered)

    capacity_same : capacity_of b' ≡ capacity_of b
    capacity_same = capacity_length b b' O.call.size

    state_next : tuples_of b' ≡ (machine (capacity_of b) (tuples_of b) (call_at ws i) (room_at ws i)).state
    unfolding call_made
    state_next = O.call.state ∙ ap (λ (n : ℕ). (machine (capacity_of b) (tuples_of b) (call_at ws i) n).state) lent_length

    -- what is left, before the call and after it
    step_made : rest_made ws count b l at i ≡ made_at ws b l at i ∷ rest_made ws count b' (lists_with ws l at i part) (at + room_at ws i) (i + 1)
    unfolding calls_made
    step_made =
        let rs : List CallRequest = calls_from ws (count - (i + 1)) (i + 1) in
        let rest : calls_made (capacity_of b') (tuples_of b') rs (drop (at + room_at ws i) (lists_with ws l at i part))
        ≡ calls_made (capacity_of b) (machine (capacity_of b) (tuples_of b) (call_at ws i) (room_at ws i)).state rs (behind ws l at i)
        = ap₂ (λ (C : ℕ) (ts : State). calls_made C ts rs (drop (at + room_at ws i) (lists_with ws l at i part))) capacity_same state_next
        ∙ ap (calls_made (capacity_of b) (machine (capacity_of b) (tuples_of b) (call_at ws i) (room_at ws i)).state rs) lists_rest in
        ap (λ (qs : List CallRequest). calls_made (capacity_of b) (tuples_of b) qs (drop at l)) (calls_next ws count i more)
        ∙ ap (λ (xs : List CallMade). made_at ws b l at i ∷ xs) (sym rest)

    -- the call as one call of a list of calls
    as_one_call : OneMade stored b (made_at ws b l at i) b'
    as_one_call = record { no_store = λ e. absurd (clash R.store e); on_store = λ e. O.call }

    answered_next : (xs : List CallMade)
        → take (words_in_answer * i) a ++ answers_after (made_at ws b l at i ∷ xs) (drop (words_in_answer * i) a)
        ≡ take (words_in_answer * (i + 1)) (answers_with a i answer) ++ answers_after xs (drop (words_in_answer * (i + 1)) (answers_with a i answer))
    unfolding answers_after
    answered_next xs =
        sym
        (ap₂ (λ (ys zs : List ℕ). ys ++ answers_after xs zs) answers_first answers_rest
        ∙ append_assoc (take (words_in_answer * i) a) (answer_list (made_at ws b l at i).answer) (answers_after xs (drop words_in_answer (drop (words_in_answer * i) a))))

    listed_next : (xs : List CallMade)
        → take at l ++ lists_after (made_at ws b l at i ∷ xs) (drop at l)
        ≡ take (at + room_at ws i) (lists_with ws l at i part) ++ lists_after xs (drop (at + room_at ws i) (lists_with ws l at i part))
    unfolding lists_after call_made
    listed_next xs =
        sym
        (ap₂ (λ (ys zs : List ℕ). ys ++ lists_after xs zs) lists_first lists_rest
        ∙ append_assoc (take at l) part (lists_after xs (behind ws l at i))
        ∙ ap₂ (λ (ys : List ℕ) (n : ℕ). take at l ++ (ys ++ lists_after xs (drop n (drop at l)))) O.listed (sym lent_length))

    pub run_next : Running ws count b₀ a₀ l₀ b' (answers_with a i answer) (lists_with ws l at i part) (at + room_at ws i) (i + 1)
    run_next =
        let xs : List CallMade = rest_made ws count b' (lists_with ws l at i part) (at + room_at ws i) (i + 1) in
        record {
          within = omega arith;
          store = O.call.store;
          size = O.call.size ∙ R.size;
          answers_size = answers_length ∙ R.answers_size;
          lists_size = lists_length ∙ R.lists_size;
          room = omega (arith, room_next, lists_length);
          answered = R.answered ∙ ap (λ (ys : List CallMade). take (words_in_answer * i) a ++ answers_after ys (drop (words_in_answer * i) a)) step_made ∙ answered_next xs;
          listed = R.listed ∙ ap (λ (ys : List CallMade). take at l ++ lists_after ys (drop at l)) step_made ∙ listed_next xs;
          trace = λ b'' T. R.trace b'' (subst (λ (ys : List CallMade). Trace (OneMade stored) b ys b'') (sym step_made) (then as_one_call T));
        }

  -- the part for the next call lies within the lists, and has as many places as the call says
  pub part_sized : (b a l : List ℕ) (at i one : ℕ) → Running ws count b₀ a₀ l₀ b a l at i → i < count → one ≡ room_at ws i
      → length (take ((at + one) - at) (drop at l)) ≡ room_at ws i
  part_sized b a l at i one R h e =
      length-take-le ((at + one) - at) (drop at l) (omega (arith, length-drop at l, R.room, rooms_next ws count i h, e)) ∙ omega (arith, e)

  -- one call of the loop, with the words that are lent for it
  pub run_turn : (b a l b' answer part : List ℕ) (at i one : ℕ) → Running ws count b₀ a₀ l₀ b a l at i → i < count → words_in_answer * count ≤ length a₀
      → one ≡ room_in (call_lent ws i) → length part ≡ length (take ((at + one) - at) (drop at l))
      → OneRun (call_made (capacity_of b) (tuples_of b) (request_in (call_lent ws i)) (take ((at + one) - at) (drop at l))) b b' answer part
      → Running ws count b₀ a₀ l₀ b' (put_mid (words_in_answer * i) (words_in_answer * (i + 1) - words_in_answer * i) a answer) (put_mid at ((at + one) - at) l part) (at + one) (i + 1)
  run_turn b a l b' answer part at i one R h wide e sized O =
      let three : words_in_answer * (i + 1) - words_in_answer * i ≡ words_in_answer = omega arith in
      let room : one ≡ room_at ws i = e ∙ ap room_in (call_whole ws i) in
      let span : (at + one) - at ≡ room_at ws i = omega (arith, room) in
      let stop : at + one ≡ at + room_at ws i = omega (arith, room) in
      let made : OneRun (made_at ws b l at i) b b' answer part
      = subst (λ (us : List ℕ). OneRun (call_made (capacity_of b) (tuples_of b) (request_in us) (lent_at ws l at i)) b b' answer part) (call_whole ws i)
      (subst (λ (k : ℕ). OneRun (call_made (capacity_of b) (tuples_of b) (request_in (call_lent ws i)) (take k (drop at l))) b b' answer part) span O) in
      subst (λ (k : ℕ). Running ws count b₀ a₀ l₀ b' (put_mid (words_in_answer * i) k a answer) (put_mid at ((at + one) - at) l part) (at + one) (i + 1)) (sym three)
      (subst (λ (k : ℕ). Running ws count b₀ a₀ l₀ b' (answers_with a i answer) (put_mid at k l part) (at + one) (i + 1)) (sym span)
      (subst (λ (k : ℕ). Running ws count b₀ a₀ l₀ b' (answers_with a i answer) (lists_with ws l at i part) k (i + 1)) (sym stop)
      (run_next b a l b' answer part at i R h wide (sized ∙ part_sized b a l at i one R h room) made)))
