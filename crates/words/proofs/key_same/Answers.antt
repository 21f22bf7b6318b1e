use Rattle.words.proofs.KeyOrder.{differ, same_s}
use Rattle.model.specs.declared.Key.{Key}
use Rattle.words.proofs.key_same.Goals as goal

pub returns-then-a-b : goal.returns-then-a-b
returns-then-a-b c =
    differ c.args.a c.args.b (λ (k : Key). k.m) c.if-a-b.true

pub returns-then-a-b-2 : goal.returns-then-a-b-2
returns-then-a-b-2 c =
    differ c.args.a c.args.b (λ (k : Key). k.g) c.if-a-b-2.true

pub returns-then-a-b-3 : goal.returns-then-a-b-3
returns-then-a-b-3 c =
    differ c.args.a c.args.b (λ (k : Key). k.n) c.if-a-b-3.true

pub returns : goal.returns
returns c = search same_s
