-- Calls and answers as words: what the functions on the words of a call and of an answer give.
use mathlib.Core.Bool.{Bool, true, false, cond}
use mathlib.Core.List.{List, [], ◌∷◌, ◌++◌}
use mathlib.Core.Path.{◌≡◌, refl, sym, ap, ap₂, ◌∙◌}
use Prim.Native.Nat.{ℕ, zero, suc, ◌+◌, ◌-◌, ◌*◌, ◌≤◌, ◌<◌}
use native.Mathlib.Omega.{arith}
use lib.Dec.{eqb}
use borrow.Author.Tests.{ne_eqb, eqb-true}
use lib.ListN.{length, take, drop, length-append}
use lib.Seq.{take_at, drop_at, drop-drop}
use mir.Val.{bool_byte}
use Rattle.std.specs.Prelude.{Result, Ok, Err}
use Rattle.model.specs.declared.Call.{Call}
use Rattle.model.specs.declared.Space.{Space}
use Rattle.model.specs.declared.Answer.{Answer}
use Rattle.model.specs.declared.Answer.TheVariants.{Name, Added, Removed, Value as Valued, YesNo, List as Listed}
use Rattle.model.specs.declared.Refusal.{Refusal}
use Rattle.model.specs.declared.Refusal.TheVariants.{Unreadable}
use Rattle.model.specs.Numbered.{number_of, refusal_in}
use Rattle.model.proofs.Numbered.{number_back, number_told}
use Rattle.model.specs.Keys.{NIL}
use Rattle.model.specs.Machine.{CallRequest}
use Rattle.run.specs.declared.CallWords.{CallWords}
use Rattle.run.specs.declared.AnswerWords.{AnswerWords}
use Rattle.run.specs.Words.{words_in_call, name_in, value_of_form, space_of_form, call_of, room_in, request_in, words_of_call, calls_from, call_count, calls_in, kind_of, bit_of, first_of, second_of, answer_words, answer_in, answer_list}

-- ---- a call

pub a_value : (form v : ℕ) → (form ≡ 0 → ⊥) → v ≡ value_of_form form v
unfolding value_of_form
a_value form v h = sym (ap (λ (b : Bool). cond b NIL v) (ne_eqb form 0 h))

pub call_joined : (w : CallWords) (n g m v : ℕ) (s : Space) → n ≡ name_in w.n → g ≡ name_in w.g → m ≡ name_in w.m
    → v ≡ value_of_form w.value_form w.v → s ≡ space_of_form w.space_form w.s
    → ◌≡◌ {A = Call} (record { operator = w.operator; n = record { 0 = n }; g = record { 0 = g }; m = record { 0 = m }; v = v; s = s }) (call_of w)
unfolding call_of
call_joined w n g m v s en eg em ev es =
    λ j. record {
      operator = w.operator;
      n = record { 0 = en j };
      g = record { 0 = eg j };
      m = record { 0 = em j };
      v = ev j;
      s = es j;
    }

-- ---- the calls that are left

-- the length of the answer list of call i of a list of calls, and the call with it
abbrev pub room_at : List ℕ → ℕ → ℕ
room_at ws i = room_in (words_of_call ws i)

abbrev pub request_at : List ℕ → ℕ → CallRequest
request_at ws i = request_in (words_of_call ws i)

-- at the start all are left
pub calls_start : (ws : List ℕ) (count : ℕ) → calls_from ws (count - 0) 0 ≡ calls_from ws count 0
calls_start ws count =
    let e : count - 0 ≡ count = omega arith in
    ap (λ (k : ℕ). calls_from ws k 0) e

module _ (ws : List ℕ) (count i : ℕ) where
  -- one more is left ..
  pub calls_next : i < count → calls_from ws (count - i) i ≡ request_at ws i ∷ calls_from ws (count - (i + 1)) (i + 1)
  unfolding calls_from
  calls_next h =
      let e : count - i ≡ suc (count - (i + 1)) = omega arith in
      ap (λ (k : ℕ). calls_from ws k i) e

  -- .. or none
  pub calls_end : count ≤ i → calls_from ws (count - i) i ≡ []
  unfolding calls_from
  calls_end h =
      let e : count - i ≡ 0 = omega arith in
      ap (λ (k : ℕ). calls_from ws k i) e

-- behind the words of one call the next calls are those of the words behind it
module _ (x rest : List ℕ) (e : length x ≡ words_in_call) where
  words_behind : (i : ℕ) → words_of_call (x ++ rest) (i + 1) ≡ words_of_call rest i
  words_behind i =
      let split : words_in_call * (i + 1) ≡ words_in_call + words_in_call * i = omega arith in
      ap (λ (k : ℕ). take words_in_call (drop k (x ++ rest))) split
      ∙ ap (take words_in_call) (sym (drop-drop (words_in_call * i) words_in_call (x ++ rest)))
      ∙ ap (λ (ws : List ℕ). take words_in_call (drop (words_in_call * i) ws)) (drop_at x rest words_in_call e)

  calls_behind : (k i : ℕ) → calls_from (x ++ rest) k (i + 1) ≡ calls_from rest k i
  unfolding calls_from
  calls_behind zero i = refl
  calls_behind (suc k) i = ap₂ (λ (ws : List ℕ) (rs : List CallRequest). request_in ws ∷ rs) (words_behind i) (calls_behind k (i + 1))

  pub calls_front : calls_in (x ++ rest) ≡ request_in x ∷ calls_in rest
  unfolding calls_in calls_from
  calls_front =
      let count : call_count (x ++ rest) ≡ suc (call_count rest) = omega (arith, length-append x rest, e) in
      ap (λ (k : ℕ). calls_from (x ++ rest) k 0) count
      ∙ ap₂ (λ (ws : List ℕ) (rs : List CallRequest). request_in ws ∷ rs) (take_at x rest words_in_call e) (calls_behind (call_count rest) 0)

-- fewer words than a call has are no call
pub calls_none : (ws : List ℕ) → length ws < words_in_call → calls_in ws ≡ []
unfolding calls_in calls_from
calls_none ws h =
    let count : call_count ws ≡ 0 = omega arith in
    ap (λ (k : ℕ). calls_from ws k 0) count

-- how many calls there are
calls_length : (ws : List ℕ) (k i : ℕ) → length (calls_from ws k i) ≡ k
unfolding calls_from
calls_length ws zero i = refl
calls_length ws (suc k) i = ap suc (calls_length ws k (i + 1))

pub calls_counted : (ws : List ℕ) → length (calls_in ws) ≡ call_count ws
unfolding calls_in
calls_counted ws = calls_length ws (call_count ws) 0

-- ---- an answer

pub bit_lem : (b : Bool) → bool_byte b ≡ bit_of b
bit_lem true = refl
bit_lem false = refl

-- what a caller reads in the words of an answer is that answer, so different answers have different words
pub answer_back : (a : Result Answer Refusal) → answer_in (answer_words a) ≡ a
unfolding answer_in kind_of first_of second_of
answer_back (Err condition) = ap Err (number_back condition)
answer_back (Ok (Name x)) = refl
answer_back (Ok (Added x k)) = refl
answer_back (Ok (Removed x k)) = refl
answer_back (Ok (Valued v)) = refl
answer_back (Ok (YesNo true)) = refl
answer_back (Ok (YesNo false)) = refl
answer_back (Ok (Listed k)) = refl

-- the condition of a refusal; of other answers that of a line, which no call answers
abbrev condition_of : Result Answer Refusal → Refusal
condition_of (Err condition) = condition
condition_of (Ok a) = Unreadable

-- words that are read as a refusal which stops calls are that refusal's: other words would not do
module _ (w : AnswerWords) (c : Refusal) (apart : c ≡ Unreadable → ⊥) where
  pub refusal_words : answer_in w ≡ Err c → (w.kind ≡ 0) × (w.first ≡ number_of c)
  unfolding answer_in
  refusal_words read = go (eqb w.kind 0) (eqb w.kind 1) (eqb w.kind 2) (eqb w.kind 3) (eqb w.kind 4) (eqb w.kind 6) refl read
    where
      go : (b₀ b₁ b₂ b₃ b₄ b₆ : Bool) → eqb w.kind 0 ≡ b₀
          → cond b₀ (Err (refusal_in w.first))
          (cond b₁ (Ok (Name w.first))
          (cond b₂ (Ok (Valued w.first))
          (cond b₃ (Ok (YesNo (eqb w.first 1))) (cond b₄ (Ok (Listed w.first)) (cond b₆ (Ok (Added w.first w.second)) (Ok (Removed w.first w.second))))))) ≡ Err c
          → (w.kind ≡ 0) × (w.first ≡ number_of c)
      go true b₁ b₂ b₃ b₄ b₆ t e = (eqb-true w.kind 0 t, number_told w.first c apart (ap condition_of e))
      go false true b₂ b₃ b₄ b₆ t e = absurd (apart (sym (ap condition_of e)))
      go false false true b₃ b₄ b₆ t e = absurd (apart (sym (ap condition_of e)))
      go false false false true b₄ b₆ t e = absurd (apart (sym (ap condition_of e)))
      go false false false false true b₆ t e = absurd (apart (sym (ap condition_of e)))
      go false false false false false true t e = absurd (apart (sym (ap condition_of e)))
      go false false false false false false t e = absurd (apart (sym (ap condition_of e)))

pub answer_written : (w : AnswerWords) (a : Result Answer Refusal) → w ≡ answer_words a → w.kind ∷ w.first ∷ w.second ∷ [] ≡ answer_list a
answer_written w a e = ap (λ (x : AnswerWords). x.kind ∷ x.first ∷ x.second ∷ []) e
