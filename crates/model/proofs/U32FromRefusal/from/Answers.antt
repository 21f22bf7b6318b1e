use Rattle.std.proofs.Common.{refl, ◌≡◌, ◌+◌}
use denote.Enum.Declared.{tag_of}
use Rattle.model.specs.contracts.Refusal.{the_type}
use Rattle.model.specs.declared.Refusal.{Refusal}
use Rattle.model.specs.declared.Refusal.TheVariants.{NotAStore, NoOperator, ZeroName, UniverseDestroyed, SpaceAbsent, NodeAbsent, SecondAbsent, EdgeAbsent, ListTooShort, Full, Unreadable, NoSelection}
use Rattle.model.specs.Numbered.{number_of}
use Rattle.model.proofs.U32FromRefusal.from.Goals as goal

-- the tags count from 0, the numbers from 1
tag_numbers : (refusal : Refusal) → tag_of the_type refusal + 1 ≡ number_of refusal
unfolding number_of
tag_numbers NotAStore = refl
tag_numbers NoOperator = refl
tag_numbers ZeroName = refl
tag_numbers UniverseDestroyed = refl
tag_numbers SpaceAbsent = refl
tag_numbers NodeAbsent = refl
tag_numbers SecondAbsent = refl
tag_numbers EdgeAbsent = refl
tag_numbers ListTooShort = refl
tag_numbers Full = refl
tag_numbers Unreadable = refl
tag_numbers NoSelection = refl

pub returns : goal.returns
returns c = tag_numbers c.args.refusal
