use Rattle.presence.proofs.NamedParts.{named_no_all, named_yes_ends}
use Rattle.presence.proofs.named_right.Goals as goal

pub returns-then-all_named : goal.returns-then-all_named
returns-then-all_named c = search named_yes_ends

pub returns-else-all_named : goal.returns-else-all_named
returns-else-all_named c = search named_no_all
