-- Request 1 (specs/NoSelection.antt): a call with nothing leaves the state and, wherever it stands in a list, changes no other answer.
use mathlib.Core.Bool.{true, false}
use mathlib.Core.List.{List, [], ◌∷◌, ◌++◌, map-append}
use mathlib.Core.Option.{Option, none, some}
use mathlib.Core.Path.{◌≡◌, refl, sym, ap, ◌∙◌}
use Prim.Native.Nat.{ℕ}
use Rattle.model.specs.declared.Call.{Call}
use Rattle.model.specs.declared.Refusal.{Refusal}
use Rattle.model.specs.Keys.{Value}
use Rattle.model.specs.Steps.{decoded, first_argument, Reply, refusal, name, added, removed, valued, yes_no, pairs, idle_reply}
use Rattle.model.specs.Refusals.{selects_nothing, first, of_call}
use Rattle.model.specs.Machine.{State, Outcome, CallRequest, Request, calling, serve, idle, outcome_of, machine, answers, final}
use Rattle.model.specs.Layouts.{Layout}
use Rattle.model.specs.CallLists.{Exchange, requests, WholeList}
use Rattle.model.specs.NoSelection.{refusal_or, nothing_reply, WithoutEffect, NoSelection}
use Rattle.model.proofs.Refusals.{not_looked_up, idle_form}
use Rattle.model.proofs.Cases.{computed}

-- "C, B and D change nothing ..": whatever the state, C and the list, the answer is that of the call alone, and the state stays
pub nothing_idle : (C : ℕ) (ts : State) (c : Call) (room : ℕ) → selects_nothing c ≡ true → machine C ts c room ≡ record { answer = nothing_reply c; state = ts }
unfolding machine outcome_of nothing_reply refusal_or
nothing_idle C ts c room e = ap (λ (r : Option Refusal). outcome_of r ts c) (not_looked_up C ts c room e) ∙ go (first (of_call c))
  where
    go : (r : Option Refusal) → outcome_of r ts c ≡ record { answer = refusal_or (idle c ts).answer r; state = ts }
    go (some condition) = refl
    go none = rw e

-- the answer is a refusal, a name (alone, or with no tuple added or removed), a value, a no or an empty list
pub nothing_form : (P : Reply → Type 0) → ((condition : Refusal) → P (refusal condition)) → ((x : ℕ) → P (name x)) → ((x : ℕ) → P (added x 0))
    → ((x : ℕ) → P (removed x 0)) → ((v : Value) → P (valued v)) → P (yes_no false) → P (pairs 0 []) → (c : Call) → P (nothing_reply c)
unfolding nothing_reply refusal_or
nothing_form P refused named added_so removed_so Valued-as no_said none_listed c = go (first (of_call c))
  where
    go : (r : Option Refusal) → P (refusal_or (idle_reply (decoded c).operator (first_argument (decoded c))) r)
    go (some condition) = refused condition
    go none = idle_form P named added_so removed_so Valued-as no_said none_listed (decoded c).operator _

-- ---- in a list of calls

-- the answers to one list after another
pub answers_append : (C : ℕ) (ts : State) (xs ys : List Request) → answers C ts (xs ++ ys) ≡ answers C ts xs ++ answers C (final C ts xs) ys
unfolding answers final
answers_append C ts [] ys = refl
answers_append C ts (x ∷ xs) ys =
    ap (λ (rs : List Reply). (serve C ts x).answer ∷ rs) (answers_append C (serve C ts x).state xs ys)

pub final_append : (C : ℕ) (ts : State) (xs ys : List Request) → final C ts (xs ++ ys) ≡ final C (final C ts xs) ys
unfolding final
final_append C ts [] ys = refl
final_append C ts (x ∷ xs) ys = final_append C (serve C ts x).state xs ys

module _ (C : ℕ) (ts : State) (xs : List Request) (r : CallRequest) (ys : List Request) (e : selects_nothing r.call ≡ true) where
  -- the answers before it and after it are those of the list without it
  pub nothing_answers : answers C ts (xs ++ (calling r ∷ ys)) ≡ answers C ts xs ++ (nothing_reply r.call ∷ answers C (final C ts xs) ys)
  unfolding answers serve
  nothing_answers =
      answers_append C ts xs (calling r ∷ ys)
      ∙ ap (λ (o : Outcome). answers C ts xs ++ (o.answer ∷ answers C o.state ys)) (nothing_idle C (final C ts xs) r.call r.room e)

  -- and so is the state
  pub nothing_final : final C ts (xs ++ (calling r ∷ ys)) ≡ final C ts (xs ++ ys)
  unfolding final serve
  nothing_final =
      final_append C ts xs (calling r ∷ ys)
      ∙ ap (λ (o : Outcome). final C o.state ys) (nothing_idle C (final C ts xs) r.call r.room e)
      ∙ sym (final_append C ts xs ys)

-- ---- in a list of calls that were made

-- where demand 3 holds of a list with such a call and of the list without it
pub nothing_without_effect : (Y : Layout) (C : ℕ) (ts : State) (xs : List Exchange) (x : Exchange) (r : CallRequest) (ys : List Exchange) (b : List ℕ) (zs : List Exchange) (b'' : List ℕ)
    → x.request ≡ calling r → selects_nothing r.call ≡ true → requests zs ≡ requests (xs ++ ys) → WholeList Y C ts (xs ++ (x ∷ ys)) b → WholeList Y C ts zs b''
    → WithoutEffect Y C ts xs x r.call ys b zs b''
nothing_without_effect Y C ts xs x r ys b zs b'' asks e same W W₀ =
    let with_it_lem = map-append (λ (y : Exchange). y.request) xs (x ∷ ys) ∙ ap (λ (q : Request). requests xs ++ (q ∷ requests ys)) asks in
    let without_it_lem = same ∙ map-append (λ (y : Exchange). y.request) xs ys in
    record {
      with_it = W.answered ∙ ap (answers C ts) with_it_lem ∙ nothing_answers C ts (requests xs) r (requests ys) e;
      without_it = W₀.answered ∙ ap (answers C ts) without_it_lem ∙ answers_append C ts (requests xs) (requests ys);
      same_state =
          W.held
          ∙ ap (final C ts) with_it_lem
          ∙ nothing_final C ts (requests xs) r (requests ys) e
          ∙ sym (ap (final C ts) without_it_lem)
          ∙ sym W₀.held;
    }

-- ---- examples

pub no_selection : NoSelection
unfolding computed
no_selection =
    record {
      k = refl;
      k_state = refl;
      l = refl;
      l_state = refl;
      m = refl;
      n = refl;
      o = refl;
      p = refl;
      q_nodes = refl;
      q_edge = refl;
      q_value = refl;
      q_exists = refl;
      r = refl;
    }
