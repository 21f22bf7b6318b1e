use Rattle.presence.proofs.Hints.{place_free, place_next, place_none}
use Rattle.presence.proofs.marks.Marks.put.Goals as goal

pub returns-then-at-eq0 : goal.returns-then-at-eq0
returns-then-at-eq0 c = search place_free

pub loop-preserved : goal.loop-preserved
loop-preserved c = search place_next

pub returns : goal.returns
returns c = search place_none
