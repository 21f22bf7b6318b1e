use Rattle.listings.proofs.Asked.{list_hint_lem, told_count}
use Rattle.listings.proofs.count_listed.Goals as goal

pub count_entries-requires : goal.count_entries-requires
count_entries-requires c = search list_hint_lem

pub returns : goal.returns
returns c = search told_count
