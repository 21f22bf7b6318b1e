-- One call on a store: refused, or performed (OnStore).
use mathlib.Core.Bool.{Bool, true, false, cond, not, false≢true, true≢false}
use mathlib.Core.List.{List}
use mathlib.Core.Option.{Option, none, some, none-ne-some}
use mathlib.Core.Path.{◌≡◌, refl, sym, ap, ◌∙◌, subst}
use Prim.Native.Nat.{ℕ, ◌+◌}
use lib.ListN.{length}
use lib.Dec.{ltb}
use borrow.Author.Tests.{ltb-false}
use Rattle.std.specs.Prelude.{Result, Ok, Err}
use Rattle.model.specs.declared.Answer.{Answer}
use Rattle.model.specs.declared.Call.{Call}
use Rattle.model.specs.declared.Decoded.{Decoded}
use Rattle.model.specs.declared.Operator.{Operator}
use Rattle.model.specs.declared.Operator.TheVariants.{Create, Bind, Value as Values, Exists, Destroy, List as Lists}
use Rattle.model.specs.declared.Refusal.{Refusal}
use Rattle.model.specs.declared.Refusal.TheVariants.{NotAStore}
use Rattle.model.specs.declared.Removal.{Removal}
use Rattle.model.specs.Operators.{operator_of, reads_of}
use Rattle.model.specs.Tuples.{Tuples, missing}
use Rattle.layouts.specs.Buffer.{capacity_of, tuples_of, is_store}
use Rattle.model.specs.Steps.{Reply, fields_of, decoded, first_argument, would_list, would_add, idle_reply}
use Rattle.model.specs.Refusals.{first, selects_nothing, zero_name, destroys_universe, list_short, full, of_call, refusal_of}
use Rattle.model.specs.Machine.{FieldsFit, Outcome, step, idle, outcome_of, machine}
use Rattle.model.specs.OneCall.{answer_of, list_after, OnStore, OneCall}
use Rattle.layouts.specs.Stored.{stored}
use Rattle.model.proofs.Bools.{and_left, and_right, not_yes, not_no}
use Rattle.model.proofs.Steps.{Passed, passed, agrees, agree, n_named, g_named, m_named, s_named, after_rules}
use Rattle.model.proofs.Refusals.{stopped, idle_form}
use Rattle.edit.proofs.Built.{store_tuples, edited_store}
use Rattle.listings.proofs.Stores.{names_asked}
use Rattle.removals.specs.Collected.{NamesIn}
use Rattle.calls.specs.Perform.{ReadyFor, Ready, Performed}
use Rattle.refusals.specs.declared.NamedCall.{NamedCall}
use Rattle.refusals.specs.Checks.{checked, of_store}
use Rattle.refusals.proofs.Stops.{call_stops, nothing_passes, all_pass, store_stops}

-- with nothing as the space no list is written
idle_unwritten : (op : Operator) (x : ℕ) (l : List ℕ) → list_after (idle_reply op x) l ≡ l
unfolding list_after
idle_unwritten op x l = idle_form (λ (r : Reply). list_after r l ≡ l) (λ n. refl) (λ n. refl) (λ n. refl) (λ v. refl) refl refl op x

-- ---- refused

refused : (b l : List ℕ) (c : Call) (condition : Refusal) → is_store b ≡ true → refusal_of (capacity_of b) (tuples_of b) c (length l) ≡ some condition
    → OnStore stored b l c (Err condition) b l
unfolding answer_of list_after
refused b l c condition e stops =
    let m = stopped (capacity_of b) (tuples_of b) c (length l) condition stops in
    record {
      answer = sym (ap answer_of m.0);
      list = sym (ap (λ r. list_after r l) m.0);
      store = e;
      state = sym m.1;
      size = refl;
      past = refl;
      refused = λ n f. refl;
      reading = λ w. refl;
      unselected = λ w. refl;
    }

-- by a condition on the call alone
pub call_refused : (b l : List ℕ) (c : Call) (condition : Refusal) → is_store b ≡ true → Err condition ≡ checked c (first (of_call c)) → OnStore stored b l c (Err condition) b l
call_refused b l c condition e R = refused b l c condition e (call_stops (capacity_of b) (tuples_of b) c (length l) condition R)

-- ---- with nothing as the space

pub idle_known : (b l : List ℕ) (c : Call) (d : Decoded) (x : ℕ) (a : Result Answer Refusal) (t : Bool) → is_store b ≡ true → d ≡ decoded c
    → first (of_call c) ≡ none → t ≡ selects_nothing c → t ≡ true → x ≡ first_argument (decoded c) → a ≡ answer_of (idle_reply d.operator x)
    → OnStore stored b l c a b l
unfolding machine outcome_of
idle_known b l c d x a t e D p T y X A =
    let C : ℕ = capacity_of b in
    let ts : Tuples = tuples_of b in
    let N = sym T ∙ y in
    let pass = nothing_passes C ts c (length l) p N in
    let M : machine C ts c (length l) ≡ idle c ts =
    ap (λ (r : Option Refusal). outcome_of r ts c) pass ∙ ap (λ (u : Bool). cond u (idle c ts) (step c ts)) N in
    record {
      answer =
          A
          ∙ (λ i. answer_of (idle_reply (D i).operator (X i)))
          ∙ sym (ap (λ (o : Outcome). answer_of o.answer) M);
      list = sym (idle_unwritten (decoded c).operator (first_argument (decoded c)) l) ∙ sym (ap (λ (o : Outcome). list_after o.answer l) M);
      store = e;
      state = sym (ap (λ (o : Outcome). o.state) M);
      size = refl;
      past = refl;
      refused = λ n f. refl;
      reading = λ w. refl;
      unselected = λ w. refl;
    }

-- ---- a call that is not stopped is ready

names_in : (r : Removal) (c : Call) → selects_nothing c ≡ false → zero_name c ≡ false → destroys_universe c ≡ false → agrees (Destroy r) c.operator ≡ true
    → NamesIn r (fields_of c)
names_in (Removal.P d) c h e f a =
    (g_named c e (and_left (reads_of c.operator).g _ a), m_named c e (and_right (reads_of c.operator).g _ a))
names_in (Removal.G d) c h e f a = tt
names_in (Removal.GG d) c h e f a = g_named c e a
names_in (Removal.GN d) c h e f a = m_named c e a
names_in (Removal.N d) c h e f a = tt
names_in (Removal.NG d) c h e f a = g_named c e a
names_in Removal.UN c h e f a = n_named c e a
names_in Removal.US c h e f a =
    s_named c h e f (and_left (reads_of c.operator).s _ a) (and_right (reads_of c.operator).s _ a)

ready_for : (b : List ℕ) (c : Call) (room : ℕ) → Passed (capacity_of b) (tuples_of b) c room → ReadyFor (operator_of c.operator) (fields_of c) b room
unfolding list_short full would_list would_add
ready_for b c room P = go (operator_of c.operator) refl
  where
    go : (op : Operator) → operator_of c.operator ≡ op → ReadyFor op (fields_of c) b room
    go (Create o) e =
        ltb-false (capacity_of b) _
        (sym (ap (λ (op : Operator). ltb (capacity_of b) (length (tuples_of b) + length (missing (would_add op (fields_of c)) (tuples_of b)))) e) ∙ P.records)
    go (Bind o) e = tt
    go (Values o) e = tt
    go (Exists o) e = tt
    go (Destroy r) e =
        record {
          named = names_in r c P.selects P.names P.universe (ap (λ (op : Operator). agrees op c.operator) (sym e) ∙ agree c P.operator);
        }
    go (Lists l) e = (
      names_asked l c P.operator P.names e,
      ltb-false room _ (sym (ap (λ (op : Operator). ltb room (length (would_list op (fields_of c) (tuples_of b)))) e) ∙ P.list),
    )

-- ---- a call that is looked up

module _ (b l : List ℕ) (c : Call) (d : Decoded) (D : d ≡ decoded c) (p : first (of_call c) ≡ none) (N : selects_nothing c ≡ false) where
  abbrev check : Decoded → Result (Unit {0}) Refusal
  check x = checked (tt {0}) (first (of_store (capacity_of b) (tuples_of b) x (length l)))

  passes_all : Ok tt ≡ check d → refusal_of (capacity_of b) (tuples_of b) c (length l) ≡ none
  passes_all R = all_pass (capacity_of b) (tuples_of b) c (length l) p N (R ∙ ap check D)

  pub ready : Ok tt ≡ check d → Ready d.operator d.fields b (length l)
  ready R =
      subst (λ (x : Decoded). Ready x.operator x.fields b (length l)) (sym D)
      (record { ready = ready_for b c (length l) (passed _ _ c (length l) N (passes_all R)) })

  pub refused_known : (condition : Refusal) → is_store b ≡ true → Err condition ≡ check d → OnStore stored b l c (Err condition) b l
  refused_known condition e R = refused b l c condition e (store_stops (capacity_of b) (tuples_of b) c (length l) condition p N (R ∙ ap check D))

  pub performed_known : (b' l' : List ℕ) (x : ℕ) (a : Answer) → is_store b ≡ true → FieldsFit (fields_of c) → Ok tt ≡ check d → x ≡ first_argument (decoded c)
      → Performed d.operator x d.fields b l a b' l' → OnStore stored b l c (Ok a) b' l'
  unfolding machine outcome_of
  performed_known b' l' x a e F R X P =
      let C : ℕ = capacity_of b in
      let ts : Tuples = tuples_of b in
      let pass = passes_all R in
      let Q = passed C ts c (length l) N pass in
      let M : machine C ts c (length l) ≡ step c ts =
      ap (λ (r : Option Refusal). outcome_of r ts c) pass ∙ ap (λ (t : Bool). cond t (idle c ts) (step c ts)) N in
      let E : Performed (decoded c).operator (first_argument (decoded c)) (decoded c).fields b l a b' l'
      = subst (λ (y : Decoded). Performed y.operator (first_argument (decoded c)) y.fields b l a b' l') D
      (subst (λ (n : ℕ). Performed d.operator n d.fields b l a b' l') X P) in
      record {
        answer = E.answer ∙ sym (ap (λ o. answer_of o.answer) M);
        list = E.list ∙ sym (ap (λ o. list_after o.answer l) M);
        store = edited_store b b' _ E.edited (after_rules (operator_of c.operator) C ts c (length l) (store_tuples b e) F Q (agree c Q.operator));
        state = E.edited.tuples ∙ sym (ap (λ o. o.state) M);
        size = E.edited.size;
        past = E.edited.past;
        refused = λ n f. absurd (none-ne-some _ (sym pass ∙ f));
        reading = E.reading;
        unselected = λ w. absurd (true≢false (sym w ∙ N));
      }

-- what the rest of the call requires
pub decoded_fields : (c : Call) (d : Decoded) → d ≡ decoded c → d.fields ≡ fields_of c
decoded_fields c d D = ap (λ (x : Decoded). x.fields) D

pub decoded_first : (c : Call) (d : Decoded) (x : ℕ) → d ≡ decoded c → x ≡ first_argument d → x ≡ first_argument (decoded c)
decoded_first c d x D X = X ∙ ap first_argument D

-- what holds of the admitted call holds of the call
pub as_called : (b l b' l' : List ℕ) (c : Call) (k : NamedCall) (r : Result Answer Refusal) → k.read.call ≡ c
    → OnStore stored b l k.read.call r b' l' → OnStore stored b l c r b' l'
as_called b l b' l' c k r e O = subst (λ (x : Call). OnStore stored b l x r b' l') e O

-- ---- any buffer

pub no_store_lem : (b l : List ℕ) (c : Call) (x : Bool) → x ≡ is_store b → not x ≡ true → OneCall stored b l c (Err NotAStore) b l
no_store_lem b l c x X e =
    record {
      no_store = λ f. record { answer = refl; buffer = refl; list = refl };
      on_store = λ f. absurd (false≢true (sym (not_yes x e) ∙ X ∙ f));
    }

pub tested_store : (b : List ℕ) (x : Bool) → x ≡ is_store b → not x ≡ false → is_store b ≡ true
tested_store b x X e = sym X ∙ not_no x e

pub on_store_lem : (b l b' l' : List ℕ) (c : Call) (a : Result Answer Refusal) (x : Bool) → x ≡ is_store b → not x ≡ false → OnStore stored b l c a b' l' → OneCall stored b l c a b' l'
on_store_lem b l b' l' c a x X e O = record { no_store = λ f. absurd (false≢true (sym f ∙ tested_store b x X e)); on_store = λ f. O }
