-- The words after a run of single writes are those of `insert_after` and `remove_after`.
use mathlib.Core.List.{List}
use mathlib.Core.Path.{◌≡◌, ap}
use Prim.Native.Nat.{ℕ, ◌+◌, ◌-◌, ◌≤◌}
use native.Mathlib.Omega.{arith}
use lib.ListN.{set}
use Rattle.model.specs.declared.Key.{Key}
use Rattle.layouts.specs.Buffer.{word, next}
use Rattle.words.specs.Words.{most_index, put_next, put_tuple}
use Rattle.words.proofs.Words.{inside_most}
use Rattle.chain.specs.Links.{Linking, insert_after, Unlinking, remove_after}

-- an index that is a word of the buffer fits
pub free_fits : (b : List ℕ) (before taken free : ℕ) → Linking b before → taken ≡ word b 2 → free ≡ next b taken → free ≤ most_index
free_fits b before taken free L e f = omega (arith, L.free, L.small, f, ap (next b) e)

pub taken_fits : (b : List ℕ) (before taken : ℕ) → Linking b before → taken ≡ word b 2 → taken ≤ most_index
taken_fits b before taken L e = omega (arith, inside_most b (word b 2) L.taken, L.small)

pub gone_fits : (b : List ℕ) (before gone : ℕ) → Unlinking b before → gone ≡ next b before → gone ≤ most_index
gone_fits b before gone L e = omega (arith, inside_most b (next b before) L.gone, L.small)

pub after_fits : (b : List ℕ) (before gone after : ℕ) → Unlinking b before → gone ≡ next b before → after ≡ next b gone → after ≤ most_index
after_fits b before gone after L e f = omega (arith, L.after, L.small, f, ap (next b) e)

pub inserted : (b b₁ b₂ b₃ b₄ b₅ : List ℕ) (before taken free after used : ℕ) (k : Key) (v : ℕ)
    → taken ≡ word b 2 → free ≡ next b taken → after ≡ next b before → used ≡ word b 3
    → b₁ ≡ set b 2 free → b₂ ≡ put_tuple b₁ taken k v → b₃ ≡ put_next b₂ taken after → b₄ ≡ put_next b₃ before taken → b₅ ≡ set b₄ 3 (used + 1)
    → b₅ ≡ insert_after b before k v
unfolding insert_after
inserted b b₁ b₂ b₃ b₄ b₅ before taken free after used k v t f a u e₁ e₂ e₃ e₄ e₅ = cc

pub removed : (b b₁ b₂ b₃ b₄ : List ℕ) (before gone after free used : ℕ)
    → gone ≡ next b before → after ≡ next b gone → free ≡ word b 2 → used ≡ word b 3
    → b₁ ≡ put_next b before after → b₂ ≡ put_next b₁ gone free → b₃ ≡ set b₂ 2 gone → b₄ ≡ set b₃ 3 (used - 1)
    → b₄ ≡ remove_after b before
unfolding remove_after
removed b b₁ b₂ b₃ b₄ before gone after free used g a f u e₁ e₂ e₃ e₄ = cc
