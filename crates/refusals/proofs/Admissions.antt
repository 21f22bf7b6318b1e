-- A call is admitted, or refused by the first condition on the call alone that applies.
use mathlib.Core.Bool.{Bool, true, false, cond}
use mathlib.Core.Option.{none}
use mathlib.Core.Path.{◌≡◌, refl, sym, ap, ◌∙◌, subst}
use Rattle.std.specs.Prelude.{Result, Ok, Err}
use Rattle.std.specs.Prelude.{Option as Maybe, Some, None}
use Rattle.model.specs.declared.Call.{Call}
use Rattle.model.specs.declared.Refusal.{Refusal}
use Rattle.model.specs.Refusals.{first, no_operator, of_call}
use Rattle.operators.specs.declared.DecodedCall.{DecodedCall}
use Rattle.operators.specs.DecodedCalls.{call_decoded}
use Rattle.refusals.specs.declared.NamedCall.{NamedCall}
use Rattle.refusals.specs.Admissions.{call_admitted}
use Rattle.refusals.specs.Checks.{checked, Unstopped}
use Rattle.refusals.proofs.Stops.{none_applied}

-- what is read of a call that conditions 2 and 3 do not stop
pub unstopped : (a : NamedCall) → Unstopped a.read.decoded
unstopped a = record { call = a.read.call; same = a.read.told; known = a.known; named = a.named }

-- ---- condition 2

-- a call that is not decoded has no operator's number
pub not_decoded : (c : Call) (x : Maybe DecodedCall) → call_decoded x ≡ cond (no_operator c) None (Some c) → x ≡ None → no_operator c ≡ true
unfolding call_decoded
not_decoded c x K e = go (no_operator c) (sym (ap call_decoded e) ∙ K)
  where
    go : (t : Bool) → None ≡ cond t None (Some c) → t ≡ true
    go true h = refl
    go false h = cc

-- one that is has one, and is the call
pub decoded_is : (c : Call) (x : Maybe DecodedCall) (k : DecodedCall) → call_decoded x ≡ cond (no_operator c) None (Some c) → x ≡ Some k
    → (k.call ≡ c) × (no_operator k.call ≡ false)
unfolding call_decoded
decoded_is c x k K e = go (no_operator c) refl (sym (ap call_decoded e) ∙ K)
  where
    go : (t : Bool) → no_operator c ≡ t → Some k.call ≡ cond t None (Some c) → (k.call ≡ c) × (no_operator k.call ≡ false)
    go true n h = cc
    go false n h = let same : k.call ≡ c = cc in (same, ap no_operator same ∙ n)

-- what is tested of the decoded call holds of the call
pub as_decoded : (c k : Call) (r : Result Call Refusal) → k ≡ c → r ≡ checked k (first (of_call k)) → r ≡ checked c (first (of_call c))
as_decoded c k r e R = subst (λ (z : Call). r ≡ checked z (first (of_call z))) e R

-- ---- what the answer says

-- a refusal is that of the first condition
pub refused_by : (c : Call) (x : Result NamedCall Refusal) (condition : Refusal) → call_admitted x ≡ checked c (first (of_call c)) → x ≡ Err condition
    → Err condition ≡ checked c (first (of_call c))
unfolding call_admitted
refused_by c x condition A e = sym (ap call_admitted e) ∙ A

-- the admitted call is the call, and no condition on it alone applies
pub admitted_is : (c : Call) (x : Result NamedCall Refusal) (a : NamedCall) → call_admitted x ≡ checked c (first (of_call c)) → x ≡ Ok a
    → (a.read.call ≡ c) × (first (of_call a.read.call) ≡ none)
unfolding call_admitted
admitted_is c x a A e =
    let N = none_applied c a.read.call (first (of_call c)) (sym (ap call_admitted e) ∙ A) in
    (N.0, ap (λ (z : Call). first (of_call z)) N.0 ∙ N.1)
