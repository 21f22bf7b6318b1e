use Rattle.calls.proofs.Known.{no_store_lem, tested_store, on_store_lem}
use Rattle.calls.proofs.execute.Goals as goal

pub returns-then-not-is_store : goal.returns-then-not-is_store
returns-then-not-is_store c = search no_store_lem

pub execute_known-requires : goal.execute_known-requires
execute_known-requires c = search tested_store

pub returns : goal.returns
returns c = search on_store_lem
