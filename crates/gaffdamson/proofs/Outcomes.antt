-- What the C functions answer and leave, from what the functions below them say.
use mathlib.Core.Bool.{Bool, true, false, cond}
use mathlib.Core.List.{List, map}
use mir.Val.{bool_byte}
use mathlib.Core.Logic.{◌↔◌, ◌≢◌}
use mathlib.Core.Path.{◌≡◌, refl, sym, ap, ap₂, ◌∙◌, subst}
use Prim.Native.Nat.{ℕ, ◌≤◌}
use native.Mathlib.Omega.{arith}
use lib.ListN.{length, length-map}
use Rattle.std.specs.Prelude.{Result, Ok, Err}
use Rattle.model.specs.declared.Answer.{Answer}
use Rattle.model.specs.declared.Call.{Call}
use Rattle.model.specs.declared.Pair.{Pair}
use Rattle.model.specs.declared.Refusal.{Refusal}
use Rattle.model.specs.declared.Refusal.TheVariants.{NotAStore, ListTooShort}
use Rattle.model.proofs.Numbered.{number_of_injective, number_positive}
use Rattle.model.specs.Numbered.{number_of}
use Rattle.model.specs.Machine.{machine}
use Rattle.layouts.specs.Buffer.{fits_length, capacity_of, tuples_of, is_store, Preparing}
use Rattle.model.specs.OneCall.{answer_of, list_count, pack, OneCall}
use Rattle.layouts.specs.Stored.{stored}
use Rattle.model.proofs.Counts.{answer_most}
use Rattle.layouts.proofs.Stored.{stored_lawful}
use Rattle.fresh.specs.Prepare.{after_preparing}
use Rattle.pairs.specs.InPairs.{CallInPairs}
use Rattle.run.specs.declared.AnswerWords.{AnswerWords}
use Rattle.run.specs.Words.{calls_in, bit_of, answer_words}
use Rattle.run.proofs.WordLaws.{bit_lem}
use Rattle.run.specs.Runs.{has_room, Ran}
use Rattle.run.proofs.Demand.{made_or_refused}
use Rattle.gaffdamson.specs.Calls.{answer_on, Called, CalledInPairs, preparation_of, preparation_words, PreparedAs, run_on, run_word, RanAs}

module _ (b l b' l' : List ℕ) (c : Call) (a : Result Answer Refusal) (O : OneCall stored b l c a b' l') where
  -- how many pairs an answer lists fits in a word
  pub answer_counted : list_count a ≤ 4294967295
  unfolding list_count
  answer_counted = go (is_store b) refl
    where
      go : (s : Bool) → is_store b ≡ s → list_count a ≤ 4294967295
      go true e = omega (arith, answer_most stored stored_lawful b l b' l' c a e (O.on_store e))
      go false e = omega (arith, ap list_count (O.no_store e).answer)

  answer_on_lem : a ≡ answer_on b c (length l)
  unfolding answer_on
  answer_on_lem = go (is_store b) refl
    where
      chosen : Bool → Result Answer Refusal
      chosen s = cond s (answer_of (machine (capacity_of b) (tuples_of b) c (length l)).answer) (Err NotAStore)

      go : (s : Bool) → is_store b ≡ s → a ≡ chosen (is_store b)
      go true e = (O.on_store e).answer ∙ sym (ap chosen e)
      go false e = (O.no_store e).answer ∙ sym (ap chosen e)

  -- one call, with its answer in words
  pub called : (c' : Call) (r : AnswerWords) → c ≡ c' → r ≡ answer_words a → Called b l c' r b' l'
  called c' r same e =
      subst (λ (x : Call). Called b l x r b' l') same
      (record {
        answer = e ∙ ap answer_words answer_on_lem;
        call = subst (λ (x : Result Answer Refusal). OneCall stored b l c x b' l') answer_on_lem O;
      })

module _ (b : List ℕ) (l : List Pair) (b' : List ℕ) (l' : List Pair) (c : Call) (a : Result Answer Refusal) (P : CallInPairs b l c a b' l') where
  -- the same of a call with a list of pairs
  pub pairs_counted : list_count a ≤ 4294967295
  pairs_counted = answer_counted b (map pack l) b' (map pack l') c a P.call

  answer_on_pairs : a ≡ answer_on b c (length l)
  answer_on_pairs = answer_on_lem b (map pack l) b' (map pack l') c a P.call ∙ ap (answer_on b c) (length-map l pack)

  pub called_in_pairs : (c' : Call) (r : AnswerWords) → c ≡ c' → r ≡ answer_words a → CalledInPairs b l c' r b' l'
  called_in_pairs c' r same e =
      subst (λ (x : Call). CalledInPairs b l x r b' l') same
      (record {
        answer = e ∙ ap answer_words answer_on_pairs;
        call = subst (λ (x : Result Answer Refusal). CallInPairs b l c x b' l') answer_on_pairs P;
      })

preparation_of_lem : (b b' : List ℕ) (p : Result ℕ Refusal) → Preparing b p b' → p ≡ preparation_of b
unfolding preparation_of
preparation_of_lem b b' p P = go (fits_length b) refl
  where
    go : (f : Bool) → fits_length b ≡ f → p ≡ preparation_of b
    go true f = (P.inside f).0 ∙ sym (ap (λ (x : Bool). cond x (Ok (capacity_of b)) (Err NotAStore)) f)
    go false f = (P.outside f).0 ∙ sym (ap (λ (x : Bool). cond x (Ok (capacity_of b)) (Err NotAStore)) f)

-- preparing, with its answer in words
pub prepared_as : (b b' : List ℕ) (p : Result ℕ Refusal) (r : AnswerWords) → Preparing b p b' → b' ≡ after_preparing b → r ≡ preparation_words p → PreparedAs b r b'
prepared_as b b' p r P w e =
    let same = preparation_of_lem b b' p P in
    record {
      answer = e ∙ ap preparation_words same;
      buffer = w;
      preparing = subst (λ (x : Result ℕ Refusal). Preparing b x b') same P;
    }

-- ---- is it a store, in a word

pub bit_told : (s t : Bool) (r : ℕ) → s ≡ t → r ≡ bool_byte s → r ≡ bit_of t
bit_told s t r e f = f ∙ bit_lem s ∙ ap bit_of e

-- ---- a run, with its answer in a word

-- 0 says that all calls were made ..
pub word_made : (r : Result (Unit {0}) Refusal) → run_word r ≡ 0 → r ≡ Ok tt
unfolding run_word
word_made (Ok made) e = refl
word_made (Err condition) e = absurd (omega (arith, number_positive condition, e))

-- .. any other word that the run was refused ..
pub word_refused : (r : Result (Unit {0}) Refusal) → run_word r ≢ 0 → (condition : Refusal) × (r ≡ Err condition)
unfolding run_word
word_refused (Ok made) h = absurd (h refl)
word_refused (Err condition) h = (condition, refl)

-- .. and 1 that the buffer is no store
pub word_no_store : (r : Result (Unit {0}) Refusal) → (run_word r ≡ 1) ↔ (r ≡ Err NotAStore)
unfolding run_word number_of
word_no_store (Ok made) = (λ e. absurd (omega (arith, e)), λ e. absurd (made_or_refused NotAStore e))
word_no_store (Err condition) = (λ e. ap Err (number_of_injective condition NotAStore e), λ e. ap run_word e)

run_on_lem : (b calls answers lists b' answers' lists' : List ℕ) (r : Result (Unit {0}) Refusal) → Ran b calls answers lists r b' answers' lists' → r ≡ run_on b calls answers lists
unfolding run_on
run_on_lem b calls answers lists b' answers' lists' r R = go (is_store b) (has_room (calls_in calls) answers lists) refl refl
  where
    chosen : Bool → Bool → Result (Unit {0}) Refusal
    chosen s f = cond s (cond f (Ok tt) (Err ListTooShort)) (Err NotAStore)

    go : (s f : Bool) → is_store b ≡ s → has_room (calls_in calls) answers lists ≡ f → r ≡ chosen (is_store b) (has_room (calls_in calls) answers lists)
    go false f e g = (R.no_store e).result ∙ sym (ap (λ (s : Bool). chosen s (has_room (calls_in calls) answers lists)) e)
    go true false e g = (R.no_room e g).result ∙ sym (ap₂ chosen e g)
    go true true e g = (R.run e g).result ∙ sym (ap₂ chosen e g)

pub ran_as : (b calls answers lists b' answers' lists' : List ℕ) (r : Result (Unit {0}) Refusal) (w : ℕ) → Ran b calls answers lists r b' answers' lists' → w ≡ run_word r
    → RanAs b calls answers lists w b' answers' lists'
ran_as b calls answers lists b' answers' lists' r w R e =
    let same = run_on_lem b calls answers lists b' answers' lists' r R in
    record { answer = e ∙ ap run_word same; run = subst (λ (x : Result (Unit {0}) Refusal). Ran b calls answers lists x b' answers' lists') same R }
