use Rattle.lines.specs.Places.{as_number}
use Rattle.std.proofs.Common.{sym, ◌∙◌}
use Rattle.lines.proofs.ArgumentLaws.{compared, is_universe_lem, is_nothing_lem, is_number}
use Rattle.lines.proofs.arguments.of_word.Goals as goal

pub returns-then-eq : goal.returns-then-eq
returns-then-eq c = is_universe_lem _ _ (compared _ _ _ _ _ c.eq.ensures c.as_slice.ensures c.if-eq.true)

pub returns-then-eq-2 : goal.returns-then-eq-2
returns-then-eq-2 c =
    is_nothing_lem _ _ (compared _ _ _ _ _ c.eq.ensures c.as_slice.ensures c.if-eq.false) (compared _ _ _ _ _ c.eq-2.ensures c.as_slice-2.ensures c.if-eq-2.true)

pub returns-in-Some : goal.returns-in-Some
unfolding as_number
returns-in-Some c =
    is_number _ _ _
    (compared _ _ _ _ _ c.eq.ensures c.as_slice.ensures c.if-eq.false)
    (compared _ _ _ _ _ c.eq-2.ensures c.as_slice-2.ensures c.if-eq-2.false)
    (sym c.in-Some.is ∙ c.number_in.ensures)

pub returns-in-None : goal.returns-in-None
unfolding as_number
returns-in-None c =
    is_number _ _ _
    (compared _ _ _ _ _ c.eq.ensures c.as_slice.ensures c.if-eq.false)
    (compared _ _ _ _ _ c.eq-2.ensures c.as_slice-2.ensures c.if-eq-2.false)
    (sym c.in-None.is ∙ c.number_in.ensures)
