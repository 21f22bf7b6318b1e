-- A number's operator, where it has one, and the call that is decoded by it.
use mathlib.Core.Bool.{Bool, true, false, cond, not}
use mathlib.Core.Path.{◌≡◌, refl, sym, ap, ◌∙◌}
use Prim.Native.Nat.{ℕ, ◌≤◌, ◌<◌}
use native.Mathlib.Omega.{arith}
use lib.Dec.{leb}
use borrow.Author.Tests.{le-leb}
use Rattle.std.specs.Prelude.{Option, Some, None}
use Rattle.model.specs.declared.Call.{Call}
use Rattle.model.specs.declared.Operator.{Operator}
use Rattle.model.specs.Operators.{within, operator_of}
use Rattle.model.specs.Refusals.{no_operator}
use Rattle.model.proofs.Bools.{and_both}
use Rattle.operators.specs.Known.{known_operator}

-- 1 to 57 have one
pub known_some : (o : ℕ) (op : Operator) → 1 ≤ o → o < 58 → op ≡ operator_of o → Some op ≡ known_operator o
unfolding known_operator
known_some o op h l e =
    ap Some e
    ∙ sym (ap (λ (t : Bool). cond t (Some (operator_of o)) None) (and_both (leb 1 o) (leb o 57) (le-leb 1 o h) (le-leb o 57 (omega (arith, l)))))

-- and 0 has none
pub zero_none : (o : ℕ) → o ≡ 0 → None ≡ known_operator o
unfolding known_operator
zero_none o e = sym (ap (λ (x : ℕ). cond (within 1 57 x) (Some (operator_of x)) None) e)

-- a call whose number has none
pub not_known : (c : Call) (x : Option Operator) → x ≡ known_operator c.operator → x ≡ None → None ≡ cond (no_operator c) None (Some c)
unfolding known_operator no_operator
not_known c x X e = go (within 1 57 c.operator) (sym e ∙ X)
  where
    go : (t : Bool) → None ≡ cond t (Some (operator_of c.operator)) None → None ≡ cond (not t) None (Some c)
    go true h = cc
    go false h = refl

-- a call whose number has one
pub is_known : (c : Call) (x : Option Operator) (op : Operator) → x ≡ known_operator c.operator → x ≡ Some op
    → (no_operator c ≡ false) × (op ≡ operator_of c.operator)
unfolding known_operator no_operator
is_known c x op X e = go (within 1 57 c.operator) (sym e ∙ X)
  where
    go : (t : Bool) → Some op ≡ cond t (Some (operator_of c.operator)) None → (not t ≡ false) × (op ≡ operator_of c.operator)
    go true h = (refl, cc)
    go false h = cc
