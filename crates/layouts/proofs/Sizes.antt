-- Lengths and records: what a length that fits gives, and which length gives C records.
use mathlib.Core.Bool.{true}
use mathlib.Core.List.{List}
use mathlib.Core.Path.{◌≡◌, ap}
use Prim.Native.Nat.{ℕ, ◌+◌, ◌-◌, ◌*◌, ◌/◌, ◌≤◌}
use native.Mathlib.Omega.{arith}
use lib.Dec.{leb}
use lib.ListN.{length}
use borrow.Author.Tests.{leb-true, le-leb}
use Rattle.model.proofs.Bools.{and_left, and_right, and_both}
use Rattle.layouts.specs.Buffer.{head_words, record_words, least_length, most_length, fits_length, capacity_of}

-- the length alone decides C
pub capacity_length : (b b' : List ℕ) → length b' ≡ length b → capacity_of b' ≡ capacity_of b
unfolding capacity_of
capacity_length b b' e = ap (λ (l : ℕ). (l - head_words) / record_words) e

pub fits_length_lem : (b : List ℕ) → least_length ≤ length b → length b ≤ most_length → fits_length b ≡ true
unfolding fits_length
fits_length_lem b h k =
    and_both (leb least_length (length b)) (leb (length b) most_length) (le-leb least_length (length b) h) (le-leb (length b) most_length k)

module _ (b : List ℕ) (fits : fits_length b ≡ true) where
  pub fits_least : least_length ≤ length b
  unfolding fits_length
  fits_least = leb-true least_length (length b) (and_left (leb least_length (length b)) (leb (length b) most_length) fits)

  pub fits_most : length b ≤ most_length
  unfolding fits_length
  fits_most = leb-true (length b) most_length (and_right (leb least_length (length b)) (leb (length b) most_length) fits)

module _ (b : List ℕ) (low : least_length ≤ length b) (high : length b ≤ most_length) where
  pub some_record : 1 ≤ capacity_of b
  unfolding capacity_of
  some_record = omega arith

  pub few_records : capacity_of b ≤ 2048
  unfolding capacity_of
  few_records = omega arith

  -- C records fit
  pub records_fit : head_words + record_words * capacity_of b ≤ length b
  unfolding capacity_of
  records_fit = omega arith

-- a length for each C from 1 to 2,048
module _ (b : List ℕ) (C : ℕ) (least : 1 ≤ C) (most : C ≤ 2048) (size : length b ≡ head_words + record_words * C) where
  pub length_fits : fits_length b ≡ true
  length_fits = fits_length_lem b (omega (arith, size)) (omega (arith, size))

  pub length_records : capacity_of b ≡ C
  unfolding capacity_of
  length_records = omega (arith, size)
