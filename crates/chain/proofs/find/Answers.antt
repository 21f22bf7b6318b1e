use Rattle.chain.proofs.Found.{place_inside, find_none, find_yes, find_no}
use Rattle.chain.proofs.find.Goals as goal

pub returns-then-at-eq0 : goal.returns-then-at-eq0
returns-then-at-eq0 c = search find_none

pub used_key-requires : goal.used_key-requires
used_key-requires c = search place_inside

pub returns-then-key_same : goal.returns-then-key_same
returns-then-key_same c = search find_yes

pub returns : goal.returns
returns c = search find_no
