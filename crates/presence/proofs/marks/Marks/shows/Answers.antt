use Rattle.presence.proofs.Hints.{looking_found, looking_none, looking_next, looking_end}
use Rattle.presence.proofs.marks.Marks.shows.Goals as goal

pub returns-then-is_wanted : goal.returns-then-is_wanted
returns-then-is_wanted g c = looking_found _ _ _ _ _ c.loop.invariant c.loop-test.true _ c.at-w.ensures _ c.is_wanted.ensures c.if-is_wanted.true

pub returns-then-w-eq0 : goal.returns-then-w-eq0
returns-then-w-eq0 g c =
    looking_none _ _ _ _ _ c.loop.invariant c.loop-test.true _ c.at-w.ensures _ c.is_wanted.ensures c.if-is_wanted.false c.if-w-eq0.true

pub loop-preserved : goal.loop-preserved
loop-preserved g c =
    looking_next _ _ _ _ _ c.loop.invariant c.loop-test.true _ c.at-w.ensures _ c.is_wanted.ensures c.if-is_wanted.false c.if-w-eq0.false

pub returns : goal.returns
returns g c = looking_end _ _ _ _ _ c.loop.invariant c.loop-test.false
