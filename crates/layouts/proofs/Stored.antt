-- The layout of the store has the laws of a layout.
use mathlib.Core.Path.{ap, ◌∙◌}
use Prim.Native.Nat.{ℕ, ◌+◌}
use lib.ListN.{length, length-map}
use Rattle.layouts.specs.Buffer.{tuple_at, used_of, free_of, tuples_of}
use Rattle.model.specs.Layouts.{Lawful}
use Rattle.layouts.specs.Stored.{stored}
use Rattle.layouts.proofs.Sizes.{capacity_length}
use Rattle.layouts.proofs.Store.{store_rules, store_exactly, chains_count, capacity_most}
use Rattle.layouts.proofs.Prepared.{prepared_store_lem, prepared_tuples}

pub stored_lawful : Lawful stored
unfolding tuples_of
stored_lawful =
    record {
      sized = capacity_length;
      most = λ b e. capacity_most b _ _ (store_rules b e).chains;
      exactly = store_exactly;
      rules = λ b e. (store_rules b e).tuples;
      counted = λ b e. ap (λ (n : ℕ). n + length (free_of b)) (length-map (used_of b) (tuple_at b)) ∙ chains_count b (used_of b) (free_of b) (store_rules b e).chains;
      prepared_size = λ raw b P. P.size;
      prepared_store = prepared_store_lem;
      prepared_state = prepared_tuples;
    }
