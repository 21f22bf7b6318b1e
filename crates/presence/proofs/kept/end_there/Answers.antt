use mathlib.Core.Bool.{true}
use mathlib.Core.Path.{◌≡◌, ap, ◌∙◌}
use Rattle.presence.specs.Presence.{good_key}
use Rattle.presence.proofs.Shows.{good_s, good_m, good_end_some}
use Rattle.presence.proofs.kept.end_there.Goals as goal

pub has_node-requires : goal.has_node-requires
has_node-requires c =
    let good : good_key c.key_of-k.result ≡ true = ap good_key c.key_of-k.ensures ∙ c.requires.2.2 in
    (c.requires.0, c.requires.1, good_s _ good, good_m _ good, good_end_some _ good c.if-k-eq0.false)
