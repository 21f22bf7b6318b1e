use Prim.Native.Nat.{◌-◌}
use lib.ListN.{length}
use Rattle.entries.specs.Lists.{query_list}
use Rattle.pairs.proofs.WrittenPairs.{Standing, written_before}
use Rattle.pairs.proofs.write_pairs.Given as goal

abbrev pub invariant-loop-p : goal.invariant-loop-p
invariant-loop-p l = Standing l.b l.q l.initial.list l.list l.p

abbrev pub decreases-loop-p : goal.decreases-loop-p
decreases-loop-p l = length (query_list l.b l.q) - written_before l.p
