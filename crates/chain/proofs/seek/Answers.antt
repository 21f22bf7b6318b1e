use Rattle.chain.proofs.Walks.{falls}
use Rattle.chain.proofs.Places.{seek_inside, seek_on, seek_end, seek_found}
use Rattle.chain.proofs.Hints.{seek_behind, start_hint}
use Rattle.chain.proofs.seek.Goals as goal

pub after-at-requires : goal.after-at-requires
after-at-requires c = search start_hint

pub loop-at-init : goal.loop-at-init
loop-at-init c = search seek_behind

pub next_of-next-requires : goal.next_of-next-requires
next_of-next-requires c = search seek_inside

pub used_key-requires : goal.used_key-requires
used_key-requires c = search seek_inside

pub loop-at-smaller : goal.loop-at-smaller
loop-at-smaller c = search falls

pub loop-at-preserved : goal.loop-at-preserved
loop-at-preserved c = search seek_on

pub returns-after-loop-at : goal.returns-after-loop-at
returns-after-loop-at c = search seek_end

pub returns-then-not-key_below : goal.returns-then-not-key_below
returns-then-not-key_below c = search seek_found
