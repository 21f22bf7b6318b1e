use Rattle.chain.proofs.Hints.{reached_inside, after_first, after_used}
use Rattle.chain.proofs.after.Goals as goal

pub returns-then-before-eq0 : goal.returns-then-before-eq0
returns-then-before-eq0 c = search after_first

pub next_of-requires : goal.next_of-requires
next_of-requires c = search reached_inside

pub returns : goal.returns
returns c = search after_used
