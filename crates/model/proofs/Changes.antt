-- Request 2 (specs/Changes.antt): the number that an answer carries is the difference of the tuple counts before and after.
use mathlib.Core.Bool.{true}
use mathlib.Core.Option.{Option, none, some}
use mathlib.Core.Path.{◌≡◌, refl, sym, subst}
use Prim.Native.Nat.{ℕ, ◌+◌}
use native.Mathlib.Omega.{arith}
use lib.ListN.{length}
use Rattle.model.specs.declared.Call.{Call}
use Rattle.model.specs.declared.Fields.{Fields}
use Rattle.model.specs.declared.Operator.{Operator}
use Rattle.model.specs.declared.Refusal.{Refusal}
use Rattle.model.specs.declared.Operator.TheVariants.{Create, Bind, Value as Values, Exists, Destroy, List as Lists}
use Rattle.model.specs.Tuples.{Tuples}
use Rattle.model.specs.Steps.{Reply, fields_of, decoded, first_argument, object_keys, created, after, reply, idle_reply}
use Rattle.model.specs.Refusals.{selects_nothing, refusal_of}
use Rattle.model.specs.Machine.{Outcome, Request, calling, idle, step, outcome_of, machine, serve}
use Rattle.model.specs.Rules.{TupleRules}
use Rattle.model.specs.Operators.{operator_of}
use Rattle.model.specs.Changes.{added_in, removed_in, CountsNothing}
use Rattle.model.proofs.Tuples.{length_add_all}
use Rattle.model.proofs.Steps.{length_assign_all, length_destroyed}
use Rattle.model.proofs.Refusals.{either_outcome, idle_form}
use Rattle.model.proofs.NoSelection.{nothing_idle, nothing_form}

-- before and after differ by what an outcome counts
abbrev Counted : Tuples → Outcome → Type 0
Counted ts o = length ts + added_in o.answer ≡ length o.state + removed_in o.answer

-- where nothing is counted and the state stays
still : (ts : Tuples) (r : Reply) → CountsNothing r → Counted ts (record { answer = r; state = ts })
still ts r h = omega (arith, h.0, h.1)

step_counted : (op : Operator) (first : ℕ) (f : Fields) (ts : Tuples) → TupleRules ts → Counted ts (record { answer = reply op first f ts; state = after op f ts })
unfolding added_in removed_in after reply
step_counted (Create o) first f ts R = omega (arith, length_add_all (created o f) ts R.ascends)
step_counted (Bind o) first f ts R = omega (arith, length_assign_all (object_keys o f.s f) f.v ts)
step_counted (Values o) first f ts R = refl
step_counted (Exists o) first f ts R = refl
step_counted (Destroy r) first f ts R = omega (arith, length_destroyed r f ts)
step_counted (Lists l) first f ts R = refl

idle_counted : (op : Operator) (first : ℕ) → CountsNothing (idle_reply op first)
unfolding added_in removed_in
idle_counted = idle_form CountsNothing (λ x. (refl, refl)) (λ x. (refl, refl)) (λ x. (refl, refl)) (λ v. (refl, refl)) (refl, refl) (refl, refl)

-- "The number is the difference of the tuple counts before and after."
pub counts_the_difference : (C : ℕ) (ts : Tuples) (r : Request) → TupleRules ts → Counted ts (serve C ts r)
unfolding serve machine outcome_of added_in removed_in
counts_the_difference C ts (calling r) R = go (refusal_of C ts r.call r.room)
  where
    go : (x : Option Refusal) → Counted ts (outcome_of x ts r.call)
    go (some condition) = refl
    go none =
        either_outcome (Counted ts) (selects_nothing r.call) (idle r.call ts) (step r.call ts)
        (λ e. still ts (idle r.call ts).answer (idle_counted (operator_of r.call.operator) _))
        (λ e. step_counted (operator_of r.call.operator) (first_argument (decoded r.call)) (fields_of r.call) ts R)

-- a refused call counts nothing
pub refused_counts_nothing : (C : ℕ) (ts : Tuples) (c : Call) (room : ℕ) (condition : Refusal) → refusal_of C ts c room ≡ some condition → CountsNothing (machine C ts c room).answer
unfolding machine outcome_of added_in removed_in
refused_counts_nothing C ts c room condition e = subst (λ (x : Option Refusal). CountsNothing (outcome_of x ts c).answer) (sym e) (refl, refl)

-- a call with no selection counts nothing
pub unselected_counts_nothing : (C : ℕ) (ts : Tuples) (c : Call) (room : ℕ) → selects_nothing c ≡ true → CountsNothing (machine C ts c room).answer
unfolding added_in removed_in
unselected_counts_nothing C ts c room e =
    subst (λ (o : Outcome). CountsNothing o.answer) (sym (nothing_idle C ts c room e))
    (nothing_form CountsNothing (λ condition. (refl, refl)) (λ x. (refl, refl)) (λ x. (refl, refl)) (λ x. (refl, refl)) (λ v. (refl, refl)) (refl, refl) (refl, refl) c)
