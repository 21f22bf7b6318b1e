-- One line on a store: a call and its answer printed, or a refusal printed and no call.
use mathlib.Core.List.{List, []}
use mathlib.Core.Path.{◌≡◌, refl, sym, ◌∙◌, ap, ap₂, subst}
use Rattle.std.specs.Prelude.{Result, Ok, Err}
use Prim.Native.Nat.{ℕ, ◌≤◌}
use native.Mathlib.Omega.{arith}
use mir.Val.{Fits}
use mir.Syntax.{w32}
use lib.ListN.{length, get_or}
use Rattle.model.specs.declared.Call.{Call}
use Rattle.model.specs.declared.Answer.{Answer}
use Rattle.model.specs.declared.Refusal.{Refusal}
use Rattle.model.specs.declared.Refusal.TheVariants.{Unreadable}
use Rattle.model.specs.Numbered.{number_of}
use Rattle.model.specs.Steps.{Reply, refusal}
use Rattle.model.specs.Machine.{Outcome, machine}
use Rattle.layouts.specs.Buffer.{capacity_of, tuples_of}
use Rattle.model.specs.OneCall.{answer_of, list_count, list_after, observed, OnStore}
use Rattle.model.specs.Demand1.{Demand1}
use Rattle.layouts.specs.Stored.{stored}
use Rattle.layouts.proofs.Stored.{stored_lawful}
use Rattle.model.proofs.Bools.{clash}
use Rattle.layouts.proofs.Store.{store_rules}
use Rattle.model.proofs.Demand1.{one_call_demand_1}
use Rattle.model.proofs.CallLists.{observed_machine, answer_within}
use Rattle.text.specs.Bytes.{Text}
use Rattle.text.specs.Numerals.{printed_number, printed_in}
use Rattle.lines.specs.Calls.{Reading, read_line}
use Rattle.print.specs.Answers.{answer_text, answer_line, most_line, AtFront, Printable}
use Rattle.print.proofs.Lengths.{line_printable}
use Rattle.script.specs.Scripts.{script_records, script_places, reading_outcome, line_outcome}
use Rattle.layouts.proofs.Sizes.{capacity_length}
use Rattle.script.specs.Runs.{RunReady, LineCalled, call, no_call, LineStep, LineRun, line_list, LineDemand1}

-- ---- what was run

-- the words of a lent list are numbers of 32 bits
words_fit : (l : List ℕ) → ((i : ℕ) → Fits w32 (get_or l i 0)) → (i : ℕ) → get_or l i 0 ≤ 4294967295
words_fit l f i = omega (arith, f i)

module _ (b l : List ℕ) (line : Text) (out : Text) where
  -- the machine of a script is that of the store and its list
  as_machine : (c : Call) → RunReady b l → machine (capacity_of b) (tuples_of b) c (length l) ≡ machine script_records (tuples_of b) c script_places
  as_machine c R = ap₂ (λ (C room : ℕ). machine C (tuples_of b) c room) R.records R.places

  -- what a caller of the call is told is what the line answers
  call_reply : (c : Call) (a : Result Answer Refusal) (b' l' : List ℕ) → RunReady b l → read_line line ≡ Ok c → OnStore stored b l c a b' l' → observed a l' ≡ (line_outcome (tuples_of b) line).answer
  unfolding line_outcome reading_outcome tuples_of
  call_reply c a b' l' R e O =
      ap₂ observed O.answer O.list
      ∙ observed_machine (capacity_of b) (tuples_of b) c (length l) l (store_rules b R.store).tuples
      ∙ ap (λ (o : Outcome). o.answer) (as_machine c R)
      ∙ ap (λ (r : Reading). (reading_outcome (tuples_of b) r).answer) (sym e)

  -- there is room for the answer of a call
  pub call_printable : (c : Call) (a : Result Answer Refusal) (b' l' : List ℕ) → RunReady b l → OnStore stored b l c a b' l' → length l' ≡ length l → ((i : ℕ) → Fits w32 (get_or l' i 0)) → most_line ≤ length out
      → Printable (answer_line (observed a l')) a l' out 0
  call_printable c a b' l' R O k f room =
      line_printable a l' out (omega (arith, answer_within stored b l b' l' c a O k)) (omega (arith, R.places)) (words_fit l' f) room

  pub call_run : (x : Reading) (c : Call) (a : Result Answer Refusal) (b' l' : List ℕ) (count : ℕ) (out' : Text) → RunReady b l → x ≡ read_line line → x ≡ Ok c → OnStore stored b l c a b' l' → length l' ≡ length l
      → ((i : ℕ) → Fits w32 (get_or l' i 0)) → most_line ≤ length out → AtFront (answer_line (observed a l')) out count out' → LineRun b l line out b' l' count out'
  call_run x c a b' l' count out' R d r O k f room P =
      let e : read_line line ≡ Ok c = sym d ∙ r in
      record {
        called =
            subst (LineCalled b l b' l') (sym e)
            (call R.store (subst (λ (x : Result Answer Refusal). OnStore stored b l c x b' l') O.answer O));
        places = k;
        put = subst (λ (r : Reply). AtFront (answer_line r) out count out') (call_reply c a b' l' R e O) P;
        within = omega (arith, P.size, (call_printable c a b' l' R O k f room).room);
      }

  -- a line that does not read as a call
  refused_reply : (condition : Refusal) → read_line line ≡ Err condition → observed (Err condition) l ≡ (line_outcome (tuples_of b) line).answer
  unfolding line_outcome reading_outcome observed
  refused_reply condition e = ap (λ (r : Reading). (reading_outcome (tuples_of b) r).answer) (sym e)

  -- there is room for a refusal, whatever the list holds: its line is that with no list
  pub refused_printable : (condition : Refusal) → most_line ≤ length out → Printable (answer_line (observed (Err condition) l)) (Err condition) l out 0
  unfolding observed list_count
  refused_printable condition room =
      let P = line_printable (Err condition) [] out (omega arith) (omega arith) (λ i. omega arith) room in
      record { room = P.room; held = omega arith; counted = P.counted }

  pub refused_run : (x : Reading) (condition : Refusal) (count : ℕ) (out' : Text) → x ≡ read_line line → x ≡ Err condition → most_line ≤ length out → AtFront (answer_line (observed (Err condition) l)) out count out'
      → LineRun b l line out b l count out'
  refused_run x condition count out' d r room P =
      let e : read_line line ≡ Err condition = sym d ∙ r in
      record {
        called = subst (LineCalled b l b l) (sym e) (no_call refl refl);
        places = refl;
        put = subst (λ (r : Reply). AtFront (answer_line r) out count out') (refused_reply condition e) P;
        within = omega (arith, P.size, (refused_printable condition room).room);
      }

-- ---- what is left

-- what a line leaves of the store and the list
pub record LineLeft (b l : List ℕ) (line : Text) (b' l' : List ℕ) : Type 0 where
  pub ready : RunReady b' l'
  pub state : tuples_of b' ≡ (line_outcome (tuples_of b) line).state
  pub list : l' ≡ line_list (tuples_of b) (read_line line) l

module _ (b l : List ℕ) (R : RunReady b l) where
  left_of : (r : Reading) (line : Text) (b' l' : List ℕ) → read_line line ≡ r → length l' ≡ length l → LineCalled b l b' l' r → LineLeft b l line b' l'
  unfolding line_outcome reading_outcome line_list
  left_of (Ok c) line b' l' e k (call store O) =
      record {
        ready = record { store = O.store; records = capacity_length b b' O.size ∙ R.records; places = k ∙ R.places };
        state =
            O.state
            ∙ ap (λ (o : Outcome). o.state) (as_machine b l line line c R)
            ∙ ap (λ (r : Reading). (reading_outcome (tuples_of b) r).state) (sym e);
        list =
            O.list
            ∙ ap (λ (o : Outcome). list_after o.answer l) (as_machine b l line line c R)
            ∙ ap (λ (r : Reading). line_list (tuples_of b) r l) (sym e);
      }
  left_of (Err condition) line b' l' e k (no_call sb sl) =
      record {
        ready = subst (λ (x : List ℕ). RunReady x l') (sym sb) (subst (RunReady b) (sym sl) R);
        state = ap tuples_of sb ∙ ap (λ (r : Reading). (reading_outcome (tuples_of b) r).state) (sym e);
        list = sl ∙ ap (λ (r : Reading). line_list (tuples_of b) r l) (sym e);
      }

  pub line_left : (line out : Text) (b' l' : List ℕ) (count : ℕ) (out' : Text) → LineRun b l line out b' l' count out' → LineLeft b l line b' l'
  line_left line out b' l' count out' L = left_of (read_line line) line b' l' refl L.places L.called

-- the line `R 11`
pub refusal_length : length (answer_line (refusal Unreadable)) ≡ 5
unfolding answer_line answer_text number_of printed_number printed_in
refusal_length = refl

-- ---- demand 1

-- of a line that is run
pub line_demand_1 : (s s' : List ℕ × List ℕ) (line : Text) → LineStep s line s' → LineDemand1 s line s'
line_demand_1 s s' line made = record { unreadable = λ condition e. unread condition e made; call = λ c e. read c e made }
  where
    of_refused : {condition : Refusal} → LineCalled s.0 s.1 s'.0 s'.1 (Err condition) → (s'.0 ≡ s.0) × (s'.1 ≡ s.1)
    of_refused (no_call sb sl) = (sb, sl)

    unread : (condition : Refusal) → read_line line ≡ Err condition → LineStep s line s' → (s'.0 ≡ s.0) × (s'.1 ≡ s.1)
    unread condition e x = of_refused (subst (LineCalled s.0 s.1 s'.0 s'.1) e x)

    of_call_lem : {c : Call} → LineCalled s.0 s.1 s'.0 s'.1 (Ok c)
        → Demand1 stored s.0 s.1 c (answer_of (machine (capacity_of s.0) (tuples_of s.0) c (length s.1)).answer) s'.0 s'.1
    of_call_lem (call store O) =
        one_call_demand_1 stored stored_lawful s.0 s.1 _ _ s'.0 s'.1 (record { no_store = λ no. absurd (clash store no); on_store = λ yes. O })

    read : (c : Call) → read_line line ≡ Ok c → LineStep s line s'
        → Demand1 stored s.0 s.1 c (answer_of (machine (capacity_of s.0) (tuples_of s.0) c (length s.1)).answer) s'.0 s'.1
    read c e x = of_call_lem (subst (LineCalled s.0 s.1 s'.0 s'.1) e x)

-- the store of a line keeps its length
pub line_size : (s s' : List ℕ × List ℕ) (line : Text) → LineStep s line s' → length s'.0 ≡ length s.0
line_size s s' line made = go made
  where
    go : {r : Reading} → LineCalled s.0 s.1 s'.0 s'.1 r → length s'.0 ≡ length s.0
    go (call store O) = O.size
    go (no_call sb sl) = ap length sb
