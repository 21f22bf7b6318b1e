-- A list has at most two entries for each tuple, and so at most 4,096.
use mathlib.Core.List.{List, [], ◌∷◌}
use mathlib.Core.Logic.{inl, inr}
use mathlib.Core.Path.{ap}
use Prim.Native.Nat.{ℕ, ◌*◌, ◌≤◌}
use native.Mathlib.Omega.{arith}
use lib.ListN.{length, length-append, length-map}
use Rattle.model.specs.declared.Pair.{Pair}
use Rattle.model.specs.Pairs.{gather}
use Rattle.model.specs.Tuples.{Tuples}
use Rattle.layouts.specs.Buffer.{tuple_at, used_of, free_of, tuples_of}
use Rattle.layouts.proofs.Store.{chains_count, capacity_most}
use Rattle.model.proofs.Counts.{length_ascending}
use Rattle.entries.specs.declared.lists.TheConstants.{MOST_LISTED}
use Rattle.entries.specs.declared.Query.{Query}
use Rattle.entries.specs.Queries.{first_at, second_at, queried, Readable}
use Rattle.entries.proofs.Singles.{entries_at, Single, single_first, single_second}

-- ---- how many there are

pub length_single : (ps : List Pair) → Single ps → length ps ≤ 1
length_single ps (inl e) = omega (arith, ap length e)
length_single ps (inr h) = omega (arith, ap length h.1)

pub length_gather : (q : Query) (ts : Tuples) → length (gather (entries_at q) ts) ≤ 2 * length ts
unfolding gather
length_gather q [] = omega arith
length_gather q (t ∷ ts) =
    omega (
      arith,
      length-append (entries_at q t.key) (gather (entries_at q) ts),
      length-append (first_at q t.key) (second_at q t.key),
      length_single (first_at q t.key) (single_first q t.key),
      length_single (second_at q t.key) (single_second q t.key),
      length_gather q ts,
    )

pub length_queried : (q : Query) (ts : Tuples) → length (queried q ts) ≤ 2 * length ts
unfolding queried
length_queried q ts = omega (arith, length_ascending (gather (entries_at q) ts), length_gather q ts)

module _ (b : List ℕ) (q : Query) (R : Readable b) where
  tuples_most : length (tuples_of b) ≤ 2048
  unfolding tuples_of
  tuples_most =
      omega (
        arith,
        length-map (used_of b) (tuple_at b),
        chains_count b (used_of b) (free_of b) R.linked.chains,
        capacity_most b (used_of b) (free_of b) R.linked.chains,
      )

  pub entries_most : length (queried q (tuples_of b)) ≤ MOST_LISTED
  entries_most = omega (arith, length_queried q (tuples_of b), tuples_most)
