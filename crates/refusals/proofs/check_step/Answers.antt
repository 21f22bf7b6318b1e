use Rattle.edit.proofs.Built.{store_linked}
use Rattle.refusals.proofs.check_step.Goals as goal

pub edge_absent-requires : goal.edge_absent-requires
edge_absent-requires c = search store_linked

pub is_full-requires : goal.is_full-requires
is_full-requires c = search store_linked
