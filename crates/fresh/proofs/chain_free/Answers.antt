use Rattle.std.proofs.Common.{ap, ◌∙◌, length}
use native.Mathlib.Omega.{arith}
use Rattle.layouts.proofs.Prepared.{follower_most}
use Rattle.fresh.proofs.Preparing.{chained_length}
use Rattle.fresh.proofs.chain_free.Goals as goal

pub put_next-requires : goal.put_next-requires
put_next-requires c =
    let same = ap length c.loop-i.invariant.1 ∙ chained_length _ _ _ in
    (record { low = omega arith; high = omega (arith, same) }, omega (arith, follower_most c.args.c c.loop-i.i))
