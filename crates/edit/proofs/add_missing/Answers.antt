use Rattle.edit.proofs.Adds.{linking, added, kept}
use mathlib.Core.Path.{◌∙◌, sym, ap}
use Rattle.edit.proofs.add_missing.Goals as goal

pub held_at-requires : goal.held_at-requires
held_at-requires c =
    (c.requires.0.linked, ap (λ p. p.at) c.seek-place.ensures)

pub returns-then-held_at : goal.returns-then-held_at
returns-then-held_at c = record { edited = kept _ _ c.requires.0.linked (sym c.held_at.ensures ∙ c.if-held_at.true); hints = λ i H. H }

pub insert_after-requires : goal.insert_after-requires
insert_after-requires c =
    linking _ _ c.requires.0 (sym c.held_at.ensures ∙ c.if-held_at.false) _ c.seek-place.ensures

pub returns : goal.returns
returns c = let both = added _ _ c.requires.0 (sym c.held_at.ensures ∙ c.if-held_at.false) _ c.seek-place.ensures _ c.insert_after.ensures in record { edited = both.0; hints = both.1 }
