use mathlib.Core.Path.{ap}
use Rattle.presence.specs.declared.kept.KeptRecords.{KeptRecords}
use Rattle.presence.proofs.Hints.{no_marks_lem}
use Rattle.presence.proofs.Shows.{none_kept_lem}
use Rattle.verify.proofs.Parts.{right_no_walk, right_walk, right_sorted, right_named}
use Rattle.verify.proofs.records_right.Goals as goal

pub walk_used-requires : goal.walk_used-requires
walk_used-requires c = (c.requires, no_marks_lem _ _ c.new-marks.ensures, none_kept_lem _ _ c.new-kept.ensures, ap (λ (k : KeptRecords). k.count) c.new-kept.ensures)

pub returns-in_default : goal.returns-in_default
returns-in_default c = search right_no_walk

pub chains_right-requires : goal.chains_right-requires
chains_right-requires c = (
  c.requires,
  right_walk c.args.b.now c.requires _ c.walk_used.ensures.answer c.in-Some.used c.in-Some.is,
  c.in-Some.ensures.lent.beside,
)

pub named_right-requires : goal.named_right-requires
named_right-requires c = (
  right_sorted c.args.b.now c.requires _ c.walk_used.ensures.answer c.in-Some.used c.in-Some.is,
  c.in-Some.ensures.lent.tuples,
)

pub returns-then-chains_right : goal.returns-then-chains_right
returns-then-chains_right c =
    right_named c.args.b.now c.requires _ c.walk_used.ensures.answer c.in-Some.used c.in-Some.is _ c.chains_right.ensures c.if-chains_right.true _
    c.named_right.ensures
