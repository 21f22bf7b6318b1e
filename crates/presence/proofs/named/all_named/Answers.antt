use Rattle.presence.proofs.Rest.{record_inside, fewer, every_start, every_told_no, every_told_next, every_end_lem}
use Rattle.presence.proofs.named.all_named.Goals as goal

pub loop-at-init : goal.loop-at-init
loop-at-init c = search every_start

pub key_of-requires : goal.key_of-requires
key_of-requires c = search record_inside

pub returns-then-not-named_present : goal.returns-then-not-named_present
returns-then-not-named_present c = search every_told_no

pub next_of-at-requires : goal.next_of-at-requires
next_of-at-requires c = search record_inside

pub loop-at-smaller : goal.loop-at-smaller
loop-at-smaller c = search fewer

pub loop-at-preserved : goal.loop-at-preserved
loop-at-preserved c = search every_told_next

pub returns : goal.returns
returns c = search every_end_lem
