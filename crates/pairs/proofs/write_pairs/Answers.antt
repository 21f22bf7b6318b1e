use Rattle.chain.proofs.Hints.{no_hint}
use Rattle.pairs.proofs.WrittenPairs.{readable_linked, begun_reached, standing_start, turn_reached, turn_enough, turn_again, turn_falls, all_pairs}
use borrow.Author.Rules.{rules}
use Rattle.pairs.proofs.write_pairs.Goals as goal

pub begin-begun-requires : goal.begin-begun-requires
begin-begun-requires c = (search readable_linked, search no_hint)

pub next_entry-p-requires : goal.next_entry-p-requires
next_entry-p-requires c = (search rules, search begun_reached)

pub loop-p-init : goal.loop-p-init
loop-p-init c = search standing_start

pub write_pair-p-requires : goal.write_pair-p-requires
write_pair-p-requires c = (search rules, search turn_reached, search rules, search turn_enough)

pub loop-p-smaller : goal.loop-p-smaller
loop-p-smaller c = search turn_falls

pub loop-p-preserved : goal.loop-p-preserved
loop-p-preserved c = search turn_again

pub returns : goal.returns
returns c = search all_pairs
