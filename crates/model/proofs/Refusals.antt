-- A stopped call and a call that only reads change nothing; "full" is answered exactly when it should be; what a D operator leaves.
use mathlib.Core.Bool.{Bool, true, false, cond, not, ◌&&◌, ◌||◌, false≢true, true≢false, and-true}
use mathlib.Core.List.{List, [], ◌∷◌, ◌++◌}
use mathlib.Core.Logic.{◌↔◌}
use mathlib.Core.Option.{Option, none, some, none-ne-some, some-ne-none, some-injective}
use mathlib.Core.Path.{◌≡◌, refl, sym, ap, ◌∙◌}
use Prim.Native.Nat.{ℕ, ◌+◌, ◌≤◌, ◌<◌}
use native.Mathlib.Omega.{arith}
use lib.Dec.{eqb}
use lib.ListN.{length}
use borrow.Author.Tests.{ltb-true, lt-ltb}
use Rattle.model.specs.declared.Call.{Call}
use Rattle.model.specs.declared.Fields.{Fields}
use Rattle.model.specs.declared.Pair.{Pair}
use Rattle.model.specs.declared.Refusal.{Refusal}
use Rattle.model.specs.declared.Refusal.TheVariants.{NoOperator, ZeroName, UniverseDestroyed, SpaceAbsent, NodeAbsent, SecondAbsent, EdgeAbsent, ListTooShort, Full}
use Rattle.model.specs.Numbered.{number_of}
use Rattle.model.specs.declared.Key.{Key}
use Rattle.model.specs.declared.Listing.{Listing}
use Rattle.model.specs.Keys.{Value}
use Rattle.model.specs.Tuples.{Tuples, present, missing, remove}
use Rattle.model.specs.declared.Direction.{Direction}
use Rattle.model.specs.declared.Operator.{Operator}
use Rattle.model.specs.declared.Operator.TheVariants.{Create, Bind, Value as Values, Exists, Destroy, List as Lists}
use Rattle.model.specs.declared.Removal.{Removal}
use Rattle.model.specs.Operators.{operator_of}
use Rattle.model.specs.Pairs.{node_of, pairs_of, node_names, with_edge, any_pair}
use Rattle.model.specs.Steps.{Reply, refusal, name, added, removed, valued, yes_no, pairs, fields_of, decoded, first_argument, node_taken, remove_nodes, destroyed, would_add, listed, reply, idle_reply, after}
use Rattle.model.specs.Refusals.{Stop, stop, first, selects_nothing, no_operator, zero_name, lacks_space, destroys_universe, space_absent, node_absent}
use Rattle.model.specs.Refusals.{second_absent, edge_absent, list_short, full, of_call, of_tuples, if_looked_up, earlier, refusal_of}
use Rattle.model.specs.Machine.{State, Outcome, Request, calling, serve, step, idle, outcome_of, machine}
use Rattle.model.specs.OneCall.{writes}
use Rattle.model.specs.CallLists.{to_add, Exceeds}
use Rattle.model.proofs.Bools.{and_left, and_right}
use Rattle.model.proofs.Tuples.{present_remove}

-- ---- a call whose space is looked up, and one with nothing

-- what holds of the call with nothing and of the step holds of whichever it is
pub either_outcome : (P : Outcome → Type 0) (t : Bool) (x y : Outcome) → (t ≡ true → P x) → (t ≡ false → P y) → P (cond t x y)
either_outcome P true x y p q = p refl
either_outcome P false x y p q = q refl

-- where the space is looked up: conditions 2 to 10
abbrev pub asked : ℕ → Tuples → Call → ℕ → List Stop
asked C ts c room =
    stop NoOperator (no_operator c)
    ∷ stop ZeroName (zero_name c)
    ∷ stop UniverseDestroyed (destroys_universe c)
    ∷ stop SpaceAbsent (space_absent (decoded c) ts)
    ∷ stop NodeAbsent (node_absent (decoded c) ts)
    ∷ stop SecondAbsent (second_absent (decoded c) ts)
    ∷ stop EdgeAbsent (edge_absent (decoded c) ts)
    ∷ stop ListTooShort (list_short (decoded c) ts room)
    ∷ stop Full (full C (decoded c) ts)
    ∷ []

pub looked_up : (C : ℕ) (ts : Tuples) (c : Call) (room : ℕ) → selects_nothing c ≡ false → refusal_of C ts c room ≡ first (asked C ts c room)
unfolding refusal_of earlier of_call of_tuples if_looked_up lacks_space first
looked_up C ts c room e = rw e

-- with nothing: conditions 2 to 4 and 12
pub not_looked_up : (C : ℕ) (ts : Tuples) (c : Call) (room : ℕ) → selects_nothing c ≡ true → refusal_of C ts c room ≡ first (of_call c)
unfolding refusal_of earlier of_call if_looked_up
not_looked_up C ts c room e = rw e

-- ---- what changes nothing

-- request 1, "C, B and D change nothing": the state of a call with nothing stays
pub idle_stays : (c : Call) (ts : State) → (idle c ts).state ≡ ts
idle_stays c ts = refl

pub stopped : (C : ℕ) (ts : Tuples) (c : Call) (room : ℕ) (condition : Refusal) → refusal_of C ts c room ≡ some condition
    → ((machine C ts c room).answer ≡ refusal condition) × ((machine C ts c room).state ≡ ts)
unfolding machine outcome_of
stopped C ts c room condition e =
    (ap (λ (r : Option Refusal). (outcome_of r ts c).answer) e, ap (λ (r : Option Refusal). (outcome_of r ts c).state) e)

after_reading : (op : Operator) (f : Fields) (ts : Tuples) → writes op ≡ false → after op f ts ≡ ts
unfolding writes after
after_reading (Create o) f ts e = absurd (true≢false e)
after_reading (Bind o) f ts e = absurd (true≢false e)
after_reading (Values o) f ts e = refl
after_reading (Exists o) f ts e = refl
after_reading (Destroy r) f ts e = absurd (true≢false e)
after_reading (Lists l) f ts e = refl

-- "Operators of V, X and S change no word": nor the state
pub reading : (C : ℕ) (ts : Tuples) (c : Call) (room : ℕ) → writes (operator_of c.operator) ≡ false → (machine C ts c room).state ≡ ts
unfolding machine outcome_of
reading C ts c room w = go (refusal_of C ts c room)
  where
    go : (r : Option Refusal) → (outcome_of r ts c).state ≡ ts
    go (some condition) = refl
    go none =
        either_outcome (λ (o : Outcome). o.state ≡ ts) (selects_nothing c) (idle c ts) (step c ts) (λ e. idle_stays c ts) (λ e. after_reading (operator_of c.operator) (fields_of c) ts w)

-- ---- full

pub first_none : (xs ys : List Stop) → first xs ≡ none → first (xs ++ ys) ≡ first ys
unfolding first
first_none [] ys e = refl
first_none (x ∷ xs) ys e = go x.applies (first_none xs ys) e
  where
    go : (b : Bool) → (first xs ≡ none → first (xs ++ ys) ≡ first ys) → cond b (some x.condition) (first xs) ≡ none
        → cond b (some x.condition) (first (xs ++ ys)) ≡ first ys
    go true ih f = absurd (some-ne-none _ f)
    go false ih f = ih f

pub first_some : (xs ys : List Stop) (r : Refusal) → first xs ≡ some r → first (xs ++ ys) ≡ some r
unfolding first
first_some [] ys r e = absurd (none-ne-some _ e)
first_some (x ∷ xs) ys r e = go x.applies (first_some xs ys r) e
  where
    go : (b : Bool) → (first xs ≡ some r → first (xs ++ ys) ≡ some r) → cond b (some x.condition) (first xs) ≡ some r
        → cond b (some x.condition) (first (xs ++ ys)) ≡ some r
    go true ih f = f
    go false ih f = ih f

-- the condition that wins is one of them
abbrev pub every_condition : (Refusal → Bool) → List Stop → Bool
every_condition p [] = true
every_condition p (x ∷ xs) = p x.condition && every_condition p xs

pub first_condition : (p : Refusal → Bool) (xs : List Stop) (r : Refusal) → every_condition p xs ≡ true → first xs ≡ some r → p r ≡ true
unfolding first
first_condition p [] r h e = absurd (none-ne-some _ e)
first_condition p (x ∷ xs) r h e = go x.applies (first_condition p xs r (and_right (p x.condition) (every_condition p xs) h)) e
  where
    go : (b : Bool) → (first xs ≡ some r → p r ≡ true) → cond b (some x.condition) (first xs) ≡ some r → p r ≡ true
    go true ih f = ap p (sym (some-injective _ _ f)) ∙ and_left (p x.condition) (every_condition p xs) h
    go false ih f = ih f

abbrev not_full : Refusal → Bool
not_full r = not (eqb (number_of r) 10)

earlier_not_full : (ts : Tuples) (c : Call) (room : ℕ) → every_condition not_full (earlier ts c room) ≡ true
unfolding of_call of_tuples if_looked_up earlier number_of
earlier_not_full ts c room = go (selects_nothing c)
  where
    go : (t : Bool) → every_condition not_full (of_call c ++ cond t [] (of_tuples ts (decoded c) room)) ≡ true
    go true = refl
    go false = refl

-- condition 10 wins exactly when no earlier one applies, the space is looked up and it applies
abbrev WinsFull : ℕ → Tuples → Call → ℕ → Type 0
WinsFull C ts c room = (first (earlier ts c room) ≡ none) × (selects_nothing c ≡ false) × (full C (decoded c) ts ≡ true)

full_wins : (C : ℕ) (ts : Tuples) (c : Call) (room : ℕ) → refusal_of C ts c room ≡ some Full → WinsFull C ts c room
unfolding refusal_of if_looked_up first number_of
full_wins C ts c room e = go (first (earlier ts c room)) refl
  where
    last : (t b : Bool) → first (cond t [] (stop Full b ∷ [])) ≡ some Full → (t ≡ false) × (b ≡ true)
    last true b f = absurd (none-ne-some _ f)
    last false true f = (refl, refl)
    last false false f = absurd (none-ne-some _ f)

    go : (r : Option Refusal) → first (earlier ts c room) ≡ r → WinsFull C ts c room
    go none f = let l = last (selects_nothing c) (full C (decoded c) ts) (sym (first_none (earlier ts c room) _ f) ∙ e) in (f, l.0, l.1)
    go (some x) f =
        let last_one : x ≡ Full = some-injective _ _ (sym (first_some (earlier ts c room) _ x f) ∙ e) in
        absurd (false≢true (sym (ap not_full last_one) ∙ first_condition not_full (earlier ts c room) x (earlier_not_full ts c room) f))

wins_full : (C : ℕ) (ts : Tuples) (c : Call) (room : ℕ) → WinsFull C ts c room → refusal_of C ts c room ≡ some Full
unfolding refusal_of if_looked_up first
wins_full C ts c room w =
    first_none (earlier ts c room) _ w.0
    ∙ ap (λ (t : Bool). first (cond t [] (stop Full (full C (decoded c) ts) ∷ []))) w.1
    ∙ ap (λ (b : Bool). first (stop Full b ∷ [])) w.2

-- ---- the forms of an answer

-- with no selection: a name, a name with no tuple added or removed, a value, a no or an empty list
pub idle_form : (P : Reply → Type 0) → ((x : ℕ) → P (name x)) → ((x : ℕ) → P (added x 0)) → ((x : ℕ) → P (removed x 0))
    → ((v : Value) → P (valued v)) → P (yes_no false) → P (pairs 0 [])
    → (op : Operator) (x : ℕ) → P (idle_reply op x)
unfolding idle_reply
idle_form P named added_so removed_so Valued-as no_said none_listed (Create o) x = added_so _
idle_form P named added_so removed_so Valued-as no_said none_listed (Bind o) x = named _
idle_form P named added_so removed_so Valued-as no_said none_listed (Values o) x = Valued-as _
idle_form P named added_so removed_so Valued-as no_said none_listed (Exists o) x = no_said
idle_form P named added_so removed_so Valued-as no_said none_listed (Destroy r) x = removed_so _
idle_form P named added_so removed_so Valued-as no_said none_listed (Lists l) x = none_listed

-- of a step: a name, a name and how many tuples were added or removed, a value, a yes or no, or what an S operator lists
reply_form : (P : Reply → Type 0) (first : ℕ) (f : Fields) (ts : Tuples) → ((x : ℕ) → P (name x)) → ((x k : ℕ) → P (added x k))
    → ((x k : ℕ) → P (removed x k)) → ((v : Value) → P (valued v)) → ((b : Bool) → P (yes_no b)) → ((l : Listing) → P (pairs (length (listed l f ts)) (listed l f ts))) → (op : Operator) → P (reply op first f ts)
unfolding reply
reply_form P first f ts named added_so removed_so Valued-as said all_listed (Create o) = added_so _ _
reply_form P first f ts named added_so removed_so Valued-as said all_listed (Bind o) = named _
reply_form P first f ts named added_so removed_so Valued-as said all_listed (Values o) = Valued-as _
reply_form P first f ts named added_so removed_so Valued-as said all_listed (Exists o) = said _
reply_form P first f ts named added_so removed_so Valued-as said all_listed (Destroy r) = removed_so _ _
reply_form P first f ts named added_so removed_so Valued-as said all_listed (Lists l) = all_listed l

-- what holds of each form holds of every answer of the machine
pub answer_form : (P : Reply → Type 0) (C : ℕ) (ts : Tuples) (c : Call) (room : ℕ) → ((condition : Refusal) → P (refusal condition)) → ((x : ℕ) → P (name x))
    → ((x k : ℕ) → P (added x k)) → ((x k : ℕ) → P (removed x k)) → ((v : Value) → P (valued v)) → ((b : Bool) → P (yes_no b)) → P (pairs 0 [])
    → ((l : Listing) → P (pairs (length (listed l (fields_of c) ts)) (listed l (fields_of c) ts)))
    → P (machine C ts c room).answer
unfolding machine outcome_of
answer_form P C ts c room refused named added_so removed_so Valued-as said none_listed all_listed = go (refusal_of C ts c room)
  where
    go : (r : Option Refusal) → P (outcome_of r ts c).answer
    go (some condition) = refused condition
    go none =
        either_outcome (λ (o : Outcome). P o.answer) (selects_nothing c) (idle c ts) (step c ts)
        (λ e. idle_form P named (λ x. added_so x 0) (λ x. removed_so x 0) Valued-as (said false) none_listed (operator_of c.operator) _)
        (λ e. reply_form P (first_argument (decoded c)) (fields_of c) ts named added_so removed_so Valued-as said all_listed (operator_of c.operator))

-- no step answers a refusal
abbrev is_refusal : Reply → Bool
is_refusal (refusal condition) = true
is_refusal (name x) = false
is_refusal (added x k) = false
is_refusal (removed x k) = false
is_refusal (valued v) = false
is_refusal (yes_no b) = false
is_refusal (pairs k ps) = false

-- a refusal is answered exactly when the call is stopped by that condition
pub refused_exactly : (C : ℕ) (ts : Tuples) (c : Call) (room : ℕ) (condition : Refusal)
    → ((machine C ts c room).answer ≡ refusal condition) ↔ (refusal_of C ts c room ≡ some condition)
unfolding machine outcome_of
refused_exactly C ts c room condition = (λ e. go (refusal_of C ts c room) e, λ e. ap (λ (r : Option Refusal). (outcome_of r ts c).answer) e)
  where
    go : (r : Option Refusal) → (outcome_of r ts c).answer ≡ refusal condition → r ≡ some condition
    go (some x) e = cc
    go none e = absurd (true≢false (ap is_refusal (sym e) ∙ answers_none))
      where
        answers_none : is_refusal (cond (selects_nothing c) (idle c ts) (step c ts)).answer ≡ false
        answers_none =
            either_outcome (λ (o : Outcome). is_refusal o.answer ≡ false) (selects_nothing c) (idle c ts) (step c ts)
            (λ t. idle_form (λ (r : Reply). is_refusal r ≡ false) (λ x. refl) (λ x. refl) (λ x. refl) (λ v. refl) refl refl (operator_of c.operator) _)
            (λ t. reply_form (λ (r : Reply). is_refusal r ≡ false) (first_argument (decoded c)) (fields_of c) ts (λ x. refl) (λ x k. refl) (λ x k. refl)
            (λ v. refl) (λ b. refl) (λ l. refl) (operator_of c.operator))

-- how many tuples there are with those that a call would add, where its space is looked up
with_added : (ts : Tuples) (c : Call) → selects_nothing c ≡ false
    → length ts + length (missing (to_add c) ts) ≡ length ts + length (missing (would_add (operator_of c.operator) (fields_of c)) ts)
unfolding to_add
with_added ts c e = rw e

-- a call that would add to tuples that fit more than fits has its space looked up
adding_selects : (C : ℕ) (ts : Tuples) (c : Call) → length ts ≤ C → C < length ts + length (missing (to_add c) ts) → selects_nothing c ≡ false
unfolding to_add missing
adding_selects C ts c fits = go (selects_nothing c)
  where
    go : (t : Bool) → C < length ts + length (missing (cond t [] (would_add (operator_of c.operator) (fields_of c))) ts) → t ≡ false
    go true h = absurd (omega (arith, fits, h))
    go false h = refl

-- "'full' is answered exactly when no earlier refusal applies and tuples present plus to add exceed C", where those present do not
pub full_exactly_lem : (C : ℕ) (ts : Tuples) (r : Request) → length ts ≤ C → ((serve C ts r).answer ≡ refusal Full) ↔ Exceeds C ts r
unfolding full serve
full_exactly_lem C ts (calling r) fits =
    let c = r.call in
    let i = refused_exactly C ts c r.room Full in (
      λ e. let w = full_wins C ts c r.room (i.0 e) in (w.0, omega (arith, ltb-true C _ w.2, with_added ts c w.1)),
      λ h. let e = adding_selects C ts c fits h.1 in i.1 (wins_full C ts c r.room (h.0, e, lt-ltb C _ (omega (arith, h.1, with_added ts c e)))),
    )

-- ---- nodes that were collected

and_not_or : (a b c : Bool) → ((a && not b) && not c) ≡ (a && not (b || c))
and_not_or true true c = refl
and_not_or true false c = refl
and_not_or false b c = refl

-- each node that was collected is removed as by DUN, whatever was removed before it
pub present_remove_nodes : (k : Key) (s : ℕ) (ps : List Pair) (ts : Tuples)
    → present k (remove_nodes s ps ts) ≡ (present k ts && not (any_pair (λ (p : Pair). node_taken s (node_of p) k) ps))
unfolding remove_nodes any_pair
present_remove_nodes k s [] ts = sym (and-true (present k ts))
present_remove_nodes k s (p ∷ ps) ts =
    present_remove_nodes k s ps (remove (node_taken s (node_of p)) ts)
    ∙ ap (λ (b : Bool). b && not (any_pair (λ (p : Pair). node_taken s (node_of p) k) ps)) (present_remove k (node_taken s (node_of p)) ts)
    ∙ and_not_or (present k ts) (node_taken s (node_of p) k) (any_pair (λ (p : Pair). node_taken s (node_of p) k) ps)

-- "the nodes of such pairs are collected first": what DON, DIN and DAN leave, by the pairs before the call
pub nodes_collected_first : (k : Key) (d : Direction) (f : Fields) (ts : Tuples)
    → present k (destroyed (Removal.N d) f ts)
    ≡ (present k ts && not (any_pair (λ (p : Pair). node_taken f.s (node_of p) k) (node_names (pairs_of d f.s f.n ts))))
unfolding destroyed
nodes_collected_first k d f ts = present_remove_nodes k f.s (node_names (pairs_of d f.s f.n ts)) ts

-- what DONG, DING and DANG leave
pub named_nodes_collected_first : (k : Key) (d : Direction) (f : Fields) (ts : Tuples)
    → present k (destroyed (Removal.NG d) f ts)
    ≡ (present k ts
    && not (any_pair (λ (p : Pair). node_taken f.s (node_of p) k) (node_names (with_edge f.g (pairs_of d f.s f.n ts)))))
unfolding destroyed
named_nodes_collected_first k d f ts = present_remove_nodes k f.s (node_names (with_edge f.g (pairs_of d f.s f.n ts))) ts
