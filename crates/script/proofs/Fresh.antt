-- A buffer just prepared, of the length that gives 2,048 records, is a store for a script.
use mathlib.Core.List.{List}
use mathlib.Core.Path.{◌≡◌, ◌∙◌}
use Prim.Native.Nat.{ℕ}
use native.Mathlib.Omega.{arith}
use lib.ListN.{length}
use Rattle.std.specs.Prelude.{Result}
use Rattle.model.specs.declared.Refusal.{Refusal}
use Rattle.model.specs.Tuples.{fresh}
use Rattle.layouts.specs.Buffer.{tuples_of, Prepared, Preparing}
use Rattle.layouts.proofs.Sizes.{length_fits, length_records}
use Rattle.layouts.proofs.Prepared.{prepared_capacity, prepared_store_lem, prepared_tuples}
use Rattle.script.specs.Scripts.{script_places}
use Rattle.script.specs.Runs.{RunReady}

module _ (raw b : List ℕ) (r : Result ℕ Refusal) (P : Preparing raw r b) (e : length raw ≡ 12292) where
  prepared_raw : Prepared raw b
  prepared_raw = (P.inside (length_fits raw 2048 (omega arith) (omega arith) e)).1

  pub fresh_ready : (l : List ℕ) → length l ≡ script_places → RunReady b l
  fresh_ready l k = record { store = prepared_store_lem raw b prepared_raw; records = prepared_capacity raw b prepared_raw ∙ length_records raw 2048 (omega arith) (omega arith) e; places = k }

  -- "a fresh store"
  pub fresh_tuples : tuples_of b ≡ fresh
  fresh_tuples = prepared_tuples raw b prepared_raw
