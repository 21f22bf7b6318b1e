use mathlib.Core.Path.{refl}
use Rattle.edit.proofs.Sweeps.{sweep_start_lem, sweep_inside, sweep_unlinking, sweep_on, sweep_less, sweep_end, sweep_beyond}
use Rattle.edit.proofs.sweep.Goals as goal

pub next_of-at-requires : goal.next_of-at-requires
next_of-at-requires c =
    (sweep_start_lem _ _ _ _ _ c.requires.0 c.requires.2 c.span_of-span.ensures c.start_behind-before.ensures refl).0

pub loop-at-init : goal.loop-at-init
loop-at-init c =
    (sweep_start_lem _ _ _ _ _ c.requires.0 c.requires.2 c.span_of-span.ensures c.start_behind-before.ensures c.next_of-at.ensures).1

pub next_of-after-requires : goal.next_of-after-requires
next_of-after-requires c = search sweep_inside

pub key_of-k-requires : goal.key_of-k-requires
key_of-k-requires c = search sweep_inside

pub returns-then-is_beyond : goal.returns-then-is_beyond
returns-then-is_beyond c = search sweep_beyond

pub keep_or_remove-before-requires : goal.keep_or_remove-before-requires
keep_or_remove-before-requires c = search sweep_unlinking

pub loop-at-smaller : goal.loop-at-smaller
loop-at-smaller c = search sweep_less

pub loop-at-preserved : goal.loop-at-preserved
loop-at-preserved c = search sweep_on

pub returns : goal.returns
returns c = search sweep_end
