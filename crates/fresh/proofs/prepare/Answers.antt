use Rattle.fresh.proofs.Preparing.{tested_fits, prepared_records, prepares, after_prepared, refuses, after_refused}
use native.Mathlib.Omega.{arith}
use Rattle.fresh.proofs.prepare.Goals as goal

pub returns-then-not-fits_length : goal.returns-then-not-fits_length
returns-then-not-fits_length c = record { rules = search refuses; words = search after_refused }

pub fill-c-requires : goal.fill-c-requires
fill-c-requires c = search tested_fits

pub overflow_cast-result : goal.overflow_cast-result
overflow_cast-result c =
    let few = prepared_records _ _ c.fits_length.ensures _ (search) c.fill-c.ensures.value in
    omega (arith, few)

pub returns : goal.returns
returns c = record { rules = search prepares; words = search after_prepared }
