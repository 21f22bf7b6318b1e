-- Each condition has a number of its own (specs/Numbered.antt).
use mathlib.Core.Bool.{Bool, true, false, cond}
use mathlib.Core.Path.{◌≡◌, refl, sym, ap, ◌∙◌}
use Prim.Native.Nat.{ℕ, ◌≤◌}
use lib.Dec.{eqb}
use borrow.Author.Tests.{eqb-true}
use native.Mathlib.Omega.{arith}
use Rattle.model.specs.declared.Refusal.{Refusal}
use Rattle.model.specs.declared.Refusal.TheVariants.{NotAStore, NoOperator, ZeroName, UniverseDestroyed, SpaceAbsent, NodeAbsent, SecondAbsent, EdgeAbsent, ListTooShort, Full, Unreadable, NoSelection}
use Rattle.model.specs.Numbered.{number_of, refusal_in}

-- the number gives the condition back
pub number_back : (refusal : Refusal) → refusal_in (number_of refusal) ≡ refusal
unfolding number_of refusal_in
number_back NotAStore = refl
number_back NoOperator = refl
number_back ZeroName = refl
number_back UniverseDestroyed = refl
number_back SpaceAbsent = refl
number_back NodeAbsent = refl
number_back SecondAbsent = refl
number_back EdgeAbsent = refl
number_back ListTooShort = refl
number_back Full = refl
number_back Unreadable = refl
number_back NoSelection = refl

-- so that what is said of conditions by name is said of their numbers
pub number_of_injective : (a b : Refusal) → number_of a ≡ number_of b → a ≡ b
number_of_injective a b e = sym (number_back a) ∙ ap refusal_in e ∙ number_back b

-- a number that is read as a condition which calls are stopped by is that condition's
module _ (number : ℕ) (c : Refusal) where
  told : (k : ℕ) (x y : Refusal) → k ≡ number_of x → (y ≡ c → number ≡ number_of c) → cond (eqb number k) x y ≡ c → number ≡ number_of c
  told k x y own later = go (eqb number k) refl
    where
      go : (b : Bool) → eqb number k ≡ b → cond b x y ≡ c → number ≡ number_of c
      go true t e = eqb-true number k t ∙ own ∙ ap number_of e
      go false t e = later e

  pub number_told : (c ≡ Unreadable → ⊥) → refusal_in number ≡ c → number ≡ number_of c
  unfolding number_of refusal_in
  number_told apart =
      told 1 NotAStore _ refl
      (told 2 NoOperator _ refl
      (told 3 ZeroName _ refl
      (told 4 UniverseDestroyed _ refl
      (told 5 SpaceAbsent _ refl
      (told 6 NodeAbsent _ refl
      (told 7 SecondAbsent _ refl
      (told 8 EdgeAbsent _ refl
      (told 9 ListTooShort _ refl (told 10 Full _ refl (told 11 Unreadable _ refl (told 12 NoSelection Unreadable refl (λ e. absurd (apart (sym e))))))))))))))

-- the conditions have the numbers 1 to 12
number_within : (refusal : Refusal) → (1 ≤ number_of refusal) × (number_of refusal ≤ 12)
unfolding number_of
number_within NotAStore = (omega arith, omega arith)
number_within NoOperator = (omega arith, omega arith)
number_within ZeroName = (omega arith, omega arith)
number_within UniverseDestroyed = (omega arith, omega arith)
number_within SpaceAbsent = (omega arith, omega arith)
number_within NodeAbsent = (omega arith, omega arith)
number_within SecondAbsent = (omega arith, omega arith)
number_within EdgeAbsent = (omega arith, omega arith)
number_within ListTooShort = (omega arith, omega arith)
number_within Full = (omega arith, omega arith)
number_within Unreadable = (omega arith, omega arith)
number_within NoSelection = (omega arith, omega arith)

-- none has the number 0
pub number_positive : (refusal : Refusal) → 1 ≤ number_of refusal
number_positive refusal = (number_within refusal).0

-- and all are small
pub number_most : (refusal : Refusal) → number_of refusal ≤ 12
number_most refusal = (number_within refusal).1
