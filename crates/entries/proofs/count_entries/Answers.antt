use Rattle.entries.proofs.Listed.{never_roomy}
use borrow.Author.Rules.{rules}
use Rattle.entries.proofs.count_entries.Goals as goal

pub list_all-requires : goal.list_all-requires
list_all-requires c = (search rules, search rules, search never_roomy)
