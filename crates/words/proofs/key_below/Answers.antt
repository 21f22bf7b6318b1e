use Rattle.words.proofs.KeyOrder.{below_s, below_n, below_g, below_m}
use Rattle.words.proofs.key_below.Goals as goal

pub returns-then-a-b : goal.returns-then-a-b
returns-then-a-b c = search below_s

pub returns-then-a-b-2 : goal.returns-then-a-b-2
returns-then-a-b-2 c = search below_n

pub returns-then-a-b-3 : goal.returns-then-a-b-3
returns-then-a-b-3 c = search below_g

pub returns : goal.returns
returns c = search below_m
