use Rattle.entries.proofs.EntryTests.{first_out, first_in}
use Rattle.entries.proofs.first_pair_entry.Goals as goal

pub returns-in-Outpointing : goal.returns-in-Outpointing
returns-in-Outpointing c = search first_out

pub returns-in-Inpointing : goal.returns-in-Inpointing
returns-in-Inpointing c = search first_in
