-- Single words and single records of a buffer: where they are, and the buffer with one of them written.
use Rattle.std.specs.Prelude.{List, ℕ, ◌+◌, ◌≤◌, length, set}
use Rattle.model.specs.declared.Key.{Key}
use Rattle.model.specs.Keys.{Value, edge_key}
use Rattle.layouts.specs.Buffer.{record_words, record_start, next_place, value_place}

-- numbers of records that are written as words and counted on from are at most this; a store has half as many records
abbrev pub most_index : ℕ
most_index = 4096

-- record i is a record of the buffer: one of 1 to C
pub record Inside (b : List ℕ) (i : ℕ) : Type 0 where
  pub low : 1 ≤ i
  pub high : record_start i + record_words ≤ length b

-- the buffer with a word of record i written, by its place in the record
unfoldable pub put_word : List ℕ → ℕ → ℕ → ℕ → List ℕ
put_word b i place w = set b (record_start i + place) w

-- the buffer with the next of record i written
abbrev pub put_next : List ℕ → ℕ → ℕ → List ℕ
put_next b i j = put_word b i next_place j

-- the buffer with the value of record i written
abbrev pub put_value : List ℕ → ℕ → Value → List ℕ
put_value b i v = put_word b i value_place v

-- the buffer with the key and value of record i written
unfoldable pub put_tuple : List ℕ → ℕ → Key → Value → List ℕ
put_tuple b i k v = put_word (put_word (put_word (put_word (put_word b i 1 k.s) i 2 k.n) i 3 k.g) i 4 k.m) i value_place v

-- the key of the edge the other way
abbrev pub reversed : Key → Key
reversed k = edge_key k.s k.m k.g k.n
