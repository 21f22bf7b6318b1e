-- Demand 1 of any call that meets OneCall (specs/Demand1.antt).
use mathlib.Core.Bool.{Bool, true, false, cond, not, false≢true}
use mathlib.Core.List.{List, [], ◌∷◌, ◌++◌}
use mathlib.Core.Option.{some}
use mathlib.Core.Path.{◌≡◌, refl, sym, ap, ◌∙◌}
use Prim.Native.Nat.{ℕ}
use lib.Dec.{eqb}
use lib.ListN.{length}
use Rattle.std.specs.Prelude.{Result, Err}
use Rattle.model.specs.declared.Call.{Call}
use Rattle.model.specs.declared.Answer.{Answer}
use Rattle.model.specs.declared.Refusal.{Refusal}
use Rattle.model.specs.declared.Refusal.TheVariants.{NotAStore, Full}
use Rattle.model.specs.Numbered.{number_of}
use Rattle.model.specs.Tuples.{Tuples}
use Rattle.model.specs.Steps.{Reply, decoded, refusal, name, added, removed, valued, yes_no, pairs}
use Rattle.model.specs.Refusals.{stop, selects_nothing, full, of_call, of_tuples, if_looked_up, earlier, refusal_of}
use Rattle.model.specs.Machine.{Outcome}
use Rattle.model.specs.Layouts.{Layout, Lawful}
use Rattle.model.specs.NoSelection.{nothing_reply}
use Rattle.model.specs.OneCall.{answer_of, list_after, OnNoStore, OnStore, OneCall}
use Rattle.model.specs.Demand1.{Demand1}
use Rattle.model.proofs.Bools.{clash}
use Rattle.model.proofs.Refusals.{every_condition, first_condition, refused_exactly}
use Rattle.model.proofs.NoSelection.{nothing_idle, nothing_form}

-- an answer is a refusal only where the machine's is
pub refused_reply : (r : Reply) (condition : Refusal) → answer_of r ≡ Err condition → r ≡ refusal condition
unfolding answer_of
refused_reply (refusal r) condition e = cc
refused_reply (name x) condition e = cc
refused_reply (added x k) condition e = cc
refused_reply (removed x k) condition e = cc
refused_reply (valued v) condition e = cc
refused_reply (yes_no b) condition e = cc
refused_reply (pairs k ps) condition e = cc

-- ---- the machine never answers 1

abbrev not_one : Refusal → Bool
not_one r = not (eqb (number_of r) 1)

stops_not_one : (C : ℕ) (ts : Tuples) (c : Call) (room : ℕ) → every_condition not_one (earlier ts c room ++ if_looked_up c (stop Full (full C (decoded c) ts) ∷ [])) ≡ true
unfolding of_call of_tuples if_looked_up earlier number_of
stops_not_one C ts c room = go (selects_nothing c)
  where
    go : (t : Bool) → every_condition not_one ((of_call c ++ cond t [] (of_tuples ts (decoded c) room)) ++ cond t [] (stop Full (full C (decoded c) ts) ∷ [])) ≡ true
    go true = refl
    go false = refl

never_one : (C : ℕ) (ts : Tuples) (c : Call) (room : ℕ) → refusal_of C ts c room ≡ some NotAStore → ⊥
unfolding refusal_of number_of
never_one C ts c room e = false≢true (first_condition not_one _ NotAStore (stops_not_one C ts c room) e)

-- ---- with no selection the list stays

pub nothing_unwritten : (c : Call) (l : List ℕ) → list_after (nothing_reply c) l ≡ l
unfolding list_after
nothing_unwritten c l = nothing_form (λ (r : Reply). list_after r l ≡ l) (λ condition. refl) (λ x. refl) (λ x. refl) (λ x. refl) (λ v. refl) refl refl c

-- ---- demand 1

module _ (Y : Layout) (L : Lawful Y) (b l : List ℕ) (c : Call) (a : Result Answer Refusal) (b' l' : List ℕ) where
  no_store_demand_1 : Y.is_store b ≡ false → OnNoStore b l a b' l' → Demand1 Y b l c a b' l'
  no_store_demand_1 e N =
      record {
        refused = λ condition r. (N.buffer, N.list);
        no_store = (λ r S. clash ((L.exactly b).1 S) e, λ n. N.answer);
        reading = λ w. N.buffer;
        unselected = λ t. (N.buffer, N.list);
      }

  -- the condition that stopped a call which was refused
  stopped_by : OnStore Y b l c a b' l' → (condition : Refusal) → a ≡ Err condition → refusal_of (Y.capacity_of b) (Y.state_of b) c (length l) ≡ some condition
  stopped_by O condition r =
      (refused_exactly (Y.capacity_of b) (Y.state_of b) c (length l) condition).0 (refused_reply _ condition (sym O.answer ∙ r))

  store_demand_1 : Y.is_store b ≡ true → OnStore Y b l c a b' l' → Demand1 Y b l c a b' l'
  unfolding list_after
  store_demand_1 e O =
      record {
        refused = λ condition r. (
          O.refused condition (stopped_by O condition r),
          O.list ∙ ap (λ (x : Reply). list_after x l) (refused_reply _ condition (sym O.answer ∙ r)),
        );
        no_store = (λ r. absurd (never_one _ _ c _ (stopped_by O NotAStore r)), λ n. absurd (n ((L.exactly b).0 e)));
        reading = O.reading;
        unselected = λ t. (
          O.unselected t,
          O.list
              ∙ ap (λ (o : Outcome). list_after o.answer l) (nothing_idle (Y.capacity_of b) (Y.state_of b) c (length l) t)
              ∙ nothing_unwritten c l,
        );
      }

  pub one_call_demand_1 : OneCall Y b l c a b' l' → Demand1 Y b l c a b' l'
  one_call_demand_1 one = go (Y.is_store b) refl
    where
      go : (s : Bool) → Y.is_store b ≡ s → Demand1 Y b l c a b' l'
      go true e = store_demand_1 e (one.on_store e)
      go false e = no_store_demand_1 e (one.no_store e)
