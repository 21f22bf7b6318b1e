use Prim.Native.Nat.{ℕ}
use mathlib.Core.Path.{ap, ◌∙◌}
use lib.Dec.{eqb}
use Rattle.std.proofs.Common.{rules}
use Rattle.presence.specs.Presence.{mark_tries, node_mark, look_from, node_shown}
use Rattle.presence.proofs.Hints.{node_slot_fits}
use Rattle.presence.proofs.marks.Marks.shows_node.Goals as goal

pub shows-requires : goal.shows-requires
shows-requires c = (search node_slot_fits, λ j. tt)

pub returns : goal.returns
unfolding node_shown
returns c =
    c.shows.ensures (λ (w : ℕ). eqb w (node_mark c.args.s c.args.n)) (λ j r h. search rules)
    ∙ ap (look_from (λ (w : ℕ). eqb w (node_mark c.args.s c.args.n)) mark_tries c.args.self.now.words) c.node_slot.ensures
