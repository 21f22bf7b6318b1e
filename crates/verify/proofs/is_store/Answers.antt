use Rattle.verify.proofs.Parts.{store_no_heads, store_walkable, store_rest}
use Rattle.verify.proofs.is_store.Goals as goal

pub records_right-requires : goal.records_right-requires
records_right-requires c = search store_walkable

pub returns-then-heads_fit : goal.returns-then-heads_fit
returns-then-heads_fit c = search store_rest

pub returns-else-heads_fit : goal.returns-else-heads_fit
returns-else-heads_fit c = search store_no_heads
