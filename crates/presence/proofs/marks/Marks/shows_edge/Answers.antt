use Prim.Native.Nat.{ℕ}
use mathlib.Core.Path.{ap, ◌∙◌}
use Rattle.model.specs.Keys.{edge_key}
use Rattle.presence.specs.Presence.{is_at, edge_record, mark_tries, look_from, edge_shown}
use Rattle.presence.proofs.Hints.{edge_slot_fits}
use Rattle.presence.proofs.marks.Marks.shows_edge.Goals as goal

pub shows-requires : goal.shows-requires
shows-requires c = (search edge_slot_fits, λ j. (c.requires.0, c.requires.1.low j))

pub returns : goal.returns
unfolding edge_shown
returns c =
    c.shows.ensures (λ (w : ℕ). is_at c.args.b.now (edge_record w) (edge_key 0 c.args.k.n c.args.k.g c.args.k.m)) (λ j r h. h)
    ∙ ap (look_from (λ (w : ℕ). is_at c.args.b.now (edge_record w) (edge_key 0 c.args.k.n c.args.k.g c.args.k.m)) mark_tries c.args.self.now.words)
    c.edge_slot.ensures
