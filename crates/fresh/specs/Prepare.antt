-- Document 01, "Preparing uses record 1 for UNIVERSE, chains 2 to C as free in ascending order": the whole buffer afterwards, word by word.
use Rattle.std.specs.Prelude.{cond, List, ℕ, zero, suc, ◌+◌, ◌-◌, set}
use Rattle.model.specs.Keys.{NIL, space_key}
use Rattle.layouts.specs.Buffer.{fits_length, capacity_of, follower}
use Rattle.words.specs.Words.{put_next, put_tuple}

-- the buffer with words 0 to 3 of a store of C records that holds UNIVERSE alone
unfoldable pub headed : ℕ → List ℕ → List ℕ
headed C b = set (set (set (set b 0 C) 1 1) 2 (follower C 1)) 3 1

-- the buffer with UNIVERSE and NIL in record 1, which ends its chain
unfoldable pub universe_in : List ℕ → List ℕ
universe_in b = put_tuple (put_next b 1 0) 1 (space_key 0) NIL

-- the buffer with n records from record 2 on chained as free in ascending order
unfoldable pub chained : ℕ → List ℕ → ℕ → List ℕ
chained C b zero = b
chained C b (suc n) = put_next (chained C b n) (n + 2) (follower C (n + 2))

-- the buffer that preparing makes of a buffer of 10 to 12,297 words: every other word is as before, those of free records too
unfoldable pub prepared_buffer : List ℕ → List ℕ
prepared_buffer b = chained (capacity_of b) (universe_in (headed (capacity_of b) b)) (capacity_of b - 1)

-- the buffer after preparing, for any buffer: a length outside 10 to 12,297 changes nothing
unfoldable pub after_preparing : List ℕ → List ℕ
after_preparing b = cond (fits_length b) (prepared_buffer b) b
