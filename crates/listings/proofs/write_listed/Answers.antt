use Rattle.listings.proofs.Asked.{list_hint_lem, told_room, told_count, told_written}
use Rattle.listings.proofs.write_listed.Goals as goal

pub write_entries-requires : goal.write_entries-requires
write_entries-requires c = (search, search list_hint_lem, search told_room)

pub returns : goal.returns
returns c = record { value = search told_count; list = search told_written }
