use Rattle.presence.proofs.Rest.{seek_inside, seek_next, seek_fewer, seek_told}
use Rattle.presence.proofs.seek.holds_from.Goals as goal

pub next_of-at-requires : goal.next_of-at-requires
next_of-at-requires c = search seek_inside

pub loop-at-smaller : goal.loop-at-smaller
loop-at-smaller c = search seek_fewer

pub loop-at-preserved : goal.loop-at-preserved
loop-at-preserved c = search seek_next

pub returns : goal.returns
returns c = search seek_told
