use Rattle.entries.proofs.Listed.{surely_roomy, all_written}
use borrow.Author.Rules.{rules}
use Rattle.entries.proofs.write_entries.Goals as goal

pub list_all-requires : goal.list_all-requires
list_all-requires c = (search rules, search rules, search surely_roomy)

pub returns : goal.returns
returns c = record { value = search rules; list = search all_written }
