-- Document 01, "Where a call is stopped": the number of each condition.
use Rattle.std.specs.Prelude.{cond, ℕ, eqb}
use Rattle.model.specs.declared.Refusal.{Refusal}
use Rattle.model.specs.declared.Refusal.TheVariants.{NotAStore, NoOperator, ZeroName, UniverseDestroyed, SpaceAbsent, NodeAbsent, SecondAbsent, EdgeAbsent, ListTooShort, Full, Unreadable, NoSelection}

-- "its number is answered": the numbers of the conditions; request 1 adds 12
unfoldable pub number_of : Refusal → ℕ
number_of NotAStore = 1
number_of NoOperator = 2
number_of ZeroName = 3
number_of UniverseDestroyed = 4
number_of SpaceAbsent = 5
number_of NodeAbsent = 6
number_of SecondAbsent = 7
number_of EdgeAbsent = 8
number_of ListTooShort = 9
number_of Full = 10
number_of Unreadable = 11
number_of NoSelection = 12

-- the condition of a number; any other number is read as 11, which no call answers, so that what a call answers tells the number
unfoldable pub refusal_in : ℕ → Refusal
refusal_in number =
    cond (eqb number 1) NotAStore
    (cond (eqb number 2) NoOperator
    (cond (eqb number 3) ZeroName
    (cond (eqb number 4) UniverseDestroyed
    (cond (eqb number 5) SpaceAbsent
    (cond (eqb number 6) NodeAbsent
    (cond (eqb number 7) SecondAbsent
    (cond (eqb number 8) EdgeAbsent (cond (eqb number 9) ListTooShort (cond (eqb number 10) Full (cond (eqb number 11) Unreadable (cond (eqb number 12) NoSelection Unreadable)))))))))))
