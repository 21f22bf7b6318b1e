use Rattle.located.proofs.Nearby.{nowhere_near}
use Rattle.listings.proofs.Stores.{store_readable}
use Rattle.edit.proofs.Built.{store_linked}
use Rattle.calls.proofs.AtOnce.{other_count, other_list, roomless_count, roomless_list, room_enough, all_count, empty_count, all_list}
use Rattle.calls.proofs.list_at_once.Goals as goal

pub returns-then-number-ne-SIN : goal.returns-then-number-ne-SIN
returns-then-number-ne-SIN c = record { value = search other_count; list = search other_list }

pub surely_fits-requires : goal.surely_fits-requires
surely_fits-requires c = search store_linked

pub returns-then-not-surely_fits : goal.returns-then-not-surely_fits
returns-then-not-surely_fits c = record { value = search roomless_count; list = search roomless_list }

pub write_listed-k-requires : goal.write_listed-k-requires
write_listed-k-requires c = (search store_readable, search (nowhere_near, store_linked), tt, search room_enough)

pub returns-then-k-eq0 : goal.returns-then-k-eq0
returns-then-k-eq0 c = record { value = search empty_count; list = search all_list }

pub returns : goal.returns
returns c = record { value = search all_count; list = search all_list }
