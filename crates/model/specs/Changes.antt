-- Document 02, request 2, "How much did that call do": what answers say of the tuples added and removed.
use Rattle.std.specs.Prelude.{List, [], ◌∷◌, ◌≡◌, ℕ, ◌+◌}
use Rattle.model.specs.Steps.{Reply, refusal, name, added, removed, valued, yes_no, pairs}

-- "An answer from C .. carries the number of tuples added", and no other answer says that any were
unfoldable pub added_in : Reply → ℕ
added_in (refusal condition) = 0
added_in (name x) = 0
added_in (added x k) = k
added_in (removed x k) = 0
added_in (valued v) = 0
added_in (yes_no b) = 0
added_in (pairs k ps) = 0

-- ".. or D carries the number of tuples .. removed"
unfoldable pub removed_in : Reply → ℕ
removed_in (refusal condition) = 0
removed_in (name x) = 0
removed_in (added x k) = 0
removed_in (removed x k) = k
removed_in (valued v) = 0
removed_in (yes_no b) = 0
removed_in (pairs k ps) = 0

-- an answer that counts nothing
abbrev pub CountsNothing : Reply → Type 0
CountsNothing r = (added_in r ≡ 0) × (removed_in r ≡ 0)

-- "the added", and "the removed", over a list of answers
unfoldable pub all_added : List Reply → ℕ
all_added [] = 0
all_added (r ∷ rs) = added_in r + all_added rs

unfoldable pub all_removed : List Reply → ℕ
all_removed [] = 0
all_removed (r ∷ rs) = removed_in r + all_removed rs

-- "the added less the removed is the tuples at the end less" those at the start, said with sums
abbrev pub AddsUp : ℕ → List Reply → ℕ → Type 0
AddsUp start rs end = start + all_added rs ≡ end + all_removed rs
