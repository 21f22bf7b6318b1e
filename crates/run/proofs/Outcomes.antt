-- What a run gives in each case.
use mathlib.Core.Bool.{Bool, true, false, not}
use mathlib.Core.List.{List, [], ◌∷◌, map}
use mathlib.Core.Path.{◌≡◌, refl, sym, ap₂, ◌∙◌}
use Prim.Native.Nat.{ℕ, ◌*◌, ◌≤◌, ◌<◌}
use native.Mathlib.Omega.{arith}
use borrow.Author.Tests.{le-leb, leb-true}
use lib.Dec.{leb}
use lib.ListN.{length, take, drop, length-drop}
use lib.Seq.{length-take-le}
use Rattle.std.specs.Prelude.{Ok, Err}
use Rattle.model.specs.declared.Refusal.TheVariants.{NotAStore, ListTooShort}
use Rattle.model.specs.Machine.{State, CallRequest, Request, calling, machine}
use Rattle.layouts.specs.Buffer.{capacity_of, tuples_of, is_store}
use Rattle.model.specs.CallLists.{exchange_of, requests}
use Rattle.model.proofs.Bools.{and_both, and_left, and_right, clash, failed, not_yes, not_no}
use Rattle.run.specs.Words.{words_in_answer, call_count, calls_in}
use Rattle.run.specs.Runs.{call_made, calls_made, rooms_of, has_room, LeftByRun, Ran}
use Rattle.run.proofs.WordLaws.{calls_counted}

-- the calls that are made are those that were asked
pub requests_made : (C : ℕ) (ts : State) (rs : List CallRequest) (l : List ℕ) → rooms_of rs ≤ length l → requests (map exchange_of (calls_made C ts rs l)) ≡ map calling rs
unfolding calls_made call_made rooms_of
requests_made C ts [] l h = refl
requests_made C ts (r ∷ rs) l h =
    let size : length (take r.room l) ≡ r.room = length-take-le r.room l (omega arith) in
    let rest : requests (map exchange_of (calls_made C (machine C ts r.call r.room).state rs (drop r.room l))) ≡ map calling rs
    = requests_made C (machine C ts r.call r.room).state rs (drop r.room l) (omega (arith, length-drop r.room l)) in
    ap₂ (λ (n : ℕ) (qs : List Request). calling (record { call = r.call; room = n }) ∷ qs) size rest

-- the lists fit, as the code tests it
pub lists_wide : (ws l : List ℕ) (f : Bool) → f ≡ leb (rooms_of (calls_in ws)) (length l) → not f ≡ false
    → rooms_of (calls_in ws) ≤ length l
lists_wide ws l f ef nf = leb-true (rooms_of (calls_in ws)) (length l) (sym ef ∙ not_no f nf)

module _ (ws a l : List ℕ) where
  -- room for the answers and the lists, as the code tests it
  has_room_lem : words_in_answer * call_count ws ≤ length a → leb (rooms_of (calls_in ws)) (length l) ≡ true → has_room (calls_in ws) a l ≡ true
  unfolding has_room
  has_room_lem wide fit =
      and_both (leb (words_in_answer * length (calls_in ws)) (length a)) (leb (rooms_of (calls_in ws)) (length l))
      (le-leb (words_in_answer * length (calls_in ws)) (length a) (omega (arith, calls_counted ws))) fit

  has_room_answers : has_room (calls_in ws) a l ≡ true → words_in_answer * call_count ws ≤ length a
  unfolding has_room
  has_room_answers e =
      let h : words_in_answer * length (calls_in ws) ≤ length a
      = leb-true (words_in_answer * length (calls_in ws)) (length a)
      (and_left (leb (words_in_answer * length (calls_in ws)) (length a)) (leb (rooms_of (calls_in ws)) (length l)) e) in
      omega (arith, h, calls_counted ws)

  has_room_lists : has_room (calls_in ws) a l ≡ true → leb (rooms_of (calls_in ws)) (length l) ≡ true
  unfolding has_room
  has_room_lists e = and_right (leb (words_in_answer * length (calls_in ws)) (length a)) (leb (rooms_of (calls_in ws)) (length l)) e

module _ (b ws a l : List ℕ) where
  -- 1: the buffer is no store
  pub not_a_store : (s : Bool) → s ≡ is_store b → not s ≡ true → Ran b ws a l (Err NotAStore) b a l
  not_a_store s e n =
      let none : is_store b ≡ false = sym e ∙ not_yes s n in
      record {
        no_store = λ f. record { result = refl; same_store = refl; same_answers = refl; same_lists = refl };
        no_room = λ f g. absurd (clash f none);
        run = λ f g. absurd (clash f none);
      }

  -- 9: there is too little room
  no_room_lem : is_store b ≡ true → has_room (calls_in ws) a l ≡ false → Ran b ws a l (Err ListTooShort) b a l
  no_room_lem e n =
      record {
        no_store = λ f. absurd (clash e f);
        no_room = λ f g. record { result = refl; same_store = refl; same_answers = refl; same_lists = refl };
        run = λ f g. absurd (clash g n);
      }

  pub answers_short : (s : Bool) → s ≡ is_store b → not s ≡ false → length a < words_in_answer * call_count ws → Ran b ws a l (Err ListTooShort) b a l
  answers_short s e n h =
      no_room_lem (sym e ∙ not_no s n) (failed (has_room (calls_in ws) a l) (λ f. omega (arith, h, has_room_answers ws a l f)))

  pub lists_short : (s f : Bool) → s ≡ is_store b → not s ≡ false → f ≡ leb (rooms_of (calls_in ws)) (length l) → not f ≡ true
      → Ran b ws a l (Err ListTooShort) b a l
  lists_short s f e n ef nf =
      no_room_lem (sym e ∙ not_no s n) (failed (has_room (calls_in ws) a l) (λ g. clash (has_room_lists ws a l g) (sym ef ∙ not_yes f nf)))

  -- all calls were made
  pub all_run : (s f : Bool) (b' a' l' : List ℕ) → s ≡ is_store b → not s ≡ false → words_in_answer * call_count ws ≤ length a
      → f ≡ leb (rooms_of (calls_in ws)) (length l) → not f ≡ false
      → LeftByRun (calls_made (capacity_of b) (tuples_of b) (calls_in ws) l) b a l b' a' l' → Ran b ws a l (Ok tt) b' a' l'
  all_run s f b' a' l' e n wide ef nf L =
      let store : is_store b ≡ true = sym e ∙ not_no s n in
      let room : has_room (calls_in ws) a l ≡ true = has_room_lem ws a l wide (sym ef ∙ not_no f nf) in
      record {
        no_store = λ g. absurd (clash store g);
        no_room = λ g h. absurd (clash room h);
        run = λ g h. record {
          result = refl;
          asked = requests_made (capacity_of b) (tuples_of b) (calls_in ws) l (lists_wide ws l f ef nf);
          left = L;
        };
      }
