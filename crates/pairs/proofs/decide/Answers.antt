use Rattle.pairs.proofs.Decisions.{refused_short, not_short_refused, not_refused, refused_readable, refused_asks, refused_few, listed_at_length, refused_at_length}
use Rattle.pairs.proofs.decide.Goals as goal

pub returns-then-ne : goal.returns-then-ne
returns-then-ne c = search (not_refused, not_short_refused)

pub returns-in_default : goal.returns-in_default
returns-in_default c = absurd (search (refused_asks, refused_short))

pub has_room-requires : goal.has_room-requires
has_room-requires c = (search (refused_readable, refused_short), search (refused_few, refused_short))

pub returns-then-has_room : goal.returns-then-has_room
returns-then-has_room c = search (listed_at_length, refused_short)

pub returns : goal.returns
returns c = search (refused_at_length, refused_short)
