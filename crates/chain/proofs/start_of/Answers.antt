use Rattle.chain.proofs.Hints.{reached_inside, start_none, start_behind, start_first}
use Rattle.chain.proofs.start_of.Goals as goal

pub returns-then-hint-eq0 : goal.returns-then-hint-eq0
returns-then-hint-eq0 c = search start_none

pub used_key-requires : goal.used_key-requires
used_key-requires c = search reached_inside

pub returns-then-key_below : goal.returns-then-key_below
returns-then-key_below c = search start_behind

pub returns : goal.returns
returns c = search start_first
