use Rattle.letters.proofs.LookUp.{among_found, among_passed, among_ended}
use Rattle.letters.proofs.number_among.Goals as goal

pub returns-then-eq : goal.returns-then-eq
returns-then-eq c = search among_found

pub loop-letters-preserved : goal.loop-letters-preserved
loop-letters-preserved c = search among_passed

pub returns : goal.returns
returns c = search among_ended
