-- Laws of single writes (specs/Words.antt): what is read at each word and record afterwards.
use mathlib.Core.List.{List}
use mathlib.Core.Logic.{◌≢◌}
use mathlib.Core.Path.{◌≡◌, ap, ◌∙◌}
use Prim.Native.Nat.{ℕ, ◌+◌, ◌*◌, ◌≤◌, ◌<◌}
use native.Mathlib.Omega.{arith}
use lib.ListN.{length, set, drop, length-set}
use lib.Seq.{get_or-set_same, get_or-set_other, drop-set-lt}
use Rattle.model.specs.declared.Key.{Key}
use Rattle.model.specs.Keys.{Value, Tuple}
use Rattle.layouts.specs.Buffer.{word, head_words, record_words, capacity_of, record_start, word_of, next_place, value_place, next, key_at, tuple_at, past_records}
use Rattle.layouts.proofs.Sizes.{capacity_length}
use Rattle.words.specs.Words.{Inside, put_word, put_next, put_value, put_tuple}

-- two tuples of five words each are equal by their words
tuple_words : {s s' n n' g g' m m' v v' : ℕ} → s ≡ s' → n ≡ n' → g ≡ g' → m ≡ m' → v ≡ v'
    → ◌≡◌ {A = Tuple} (record { key = record { s = s; n = n; g = g; m = m }; value = v }) (record { key = record { s = s'; n = n'; g = g'; m = m' }; value = v' })
tuple_words s n g m v = λ i. record { key = record { s = s i; n = n i; g = g i; m = m i }; value = v i }

-- a write elsewhere
other : (b : List ℕ) (at h v : ℕ) → h ≢ at → word (set b at v) h ≡ word b h
other b at h v d = get_or-set_other b at h v 0 d

-- the write itself
same : (b : List ℕ) (at v : ℕ) → at < length b → word (set b at v) at ≡ v
same b at v h = get_or-set_same b at v 0 h

-- ---- length, and the words past record C

-- record i is one of 1 to C exactly when it ends inside the buffer
pub inside : (b : List ℕ) (i : ℕ) → 1 ≤ i → i ≤ capacity_of b → Inside b i
unfolding capacity_of
inside b i h k = record { low = h; high = omega arith }

pub inside_most : (b : List ℕ) (i : ℕ) → Inside b i → i ≤ capacity_of b
unfolding capacity_of
inside_most b i I = omega (arith, I.low, I.high)

-- a write before the end of record C keeps what is past it
past_set : (b : List ℕ) (at v : ℕ) → at < head_words + record_words * capacity_of b → past_records (set b at v) ≡ past_records b
unfolding past_records
past_set b at v h =
    ap (λ (c : ℕ). drop (head_words + record_words * c) (set b at v)) (capacity_length b (set b at v) (length-set b at v))
    ∙ drop-set-lt (head_words + record_words * capacity_of b) b at v h

-- ---- words 0 to 3

module _ (b : List ℕ) (at v : ℕ) (h : at < head_words) where
  of_head : (i place : ℕ) → word_of (set b at v) i place ≡ word_of b i place
  unfolding word_of
  of_head i place = other b at (record_start i + place) v (omega arith)

  pub next_head : (i : ℕ) → next (set b at v) i ≡ next b i
  unfolding next
  next_head i = of_head i next_place

  pub tuple_head : (i : ℕ) → tuple_at (set b at v) i ≡ tuple_at b i
  unfolding tuple_at key_at
  tuple_head i = tuple_words (of_head i 1) (of_head i 2) (of_head i 3) (of_head i 4) (of_head i value_place)

  pub word_head : (j : ℕ) → j ≢ at → word (set b at v) j ≡ word b j
  word_head j d = other b at j v d

  pub past_head : past_records (set b at v) ≡ past_records b
  past_head = past_set b at v (omega arith)

-- ---- one word of a record, by its place: all that is read after it is written

pub length_put_word : (b : List ℕ) (i place v : ℕ) → length (put_word b i place v) ≡ length b
unfolding put_word
length_put_word b i place v = length-set b (record_start i + place) v

pub inside_length : (b b' : List ℕ) (i : ℕ) → length b' ≡ length b → Inside b i → Inside b' i
inside_length b b' i e I = record { low = I.low; high = omega (arith, I.high, e) }

pub word_put_word : (b : List ℕ) (i place v : ℕ) (j : ℕ) → j < head_words → word (put_word b i place v) j ≡ word b j
unfolding put_word
word_put_word b i place v j h = other b (record_start i + place) j v (omega arith)

module _ (b : List ℕ) (i place v : ℕ) (I : Inside b i) (p : place < record_words) where
  pub same_put_word : word_of (put_word b i place v) i place ≡ v
  unfolding put_word word_of
  same_put_word = same b (record_start i + place) v (omega (arith, I.high))

  -- another place, in whatever record
  pub place_put_word : (j q : ℕ) → 1 ≤ j → q < record_words → q ≢ place → word_of (put_word b i place v) j q ≡ word_of b j q
  unfolding put_word word_of
  place_put_word j q h l d = other b (record_start i + place) (record_start j + q) v (omega (arith, I.low))

  -- another record
  pub record_put_word : (j q : ℕ) → 1 ≤ j → q < record_words → j ≢ i → word_of (put_word b i place v) j q ≡ word_of b j q
  unfolding put_word word_of
  record_put_word j q h l d = other b (record_start i + place) (record_start j + q) v (omega (arith, I.low))

  pub past_put_word : past_records (put_word b i place v) ≡ past_records b
  unfolding put_word
  past_put_word = past_set b (record_start i + place) v (omega (arith, I.low, inside_most b i I))

-- ---- the next of a record

module _ (b : List ℕ) (i v : ℕ) (I : Inside b i) where
  abbrev away : (j q : ℕ) → 1 ≤ j → q < record_words → q ≢ next_place → word_of (put_next b i v) j q ≡ word_of b j q
  away = place_put_word b i next_place v I (omega arith)

  pub length_put_next : length (put_next b i v) ≡ length b
  length_put_next = length_put_word b i next_place v

  pub word_put_next : (j : ℕ) → j < head_words → word (put_next b i v) j ≡ word b j
  word_put_next = word_put_word b i next_place v

  pub next_put_next : next (put_next b i v) i ≡ v
  unfolding next
  next_put_next = same_put_word b i next_place v I (omega arith)

  pub next_put_next_other : (j : ℕ) → 1 ≤ j → j ≢ i → next (put_next b i v) j ≡ next b j
  unfolding next
  next_put_next_other j h d = record_put_word b i next_place v I (omega arith) j next_place h (omega arith) d

  pub tuple_put_next : (j : ℕ) → 1 ≤ j → tuple_at (put_next b i v) j ≡ tuple_at b j
  unfolding tuple_at key_at
  tuple_put_next j h =
      tuple_words (away j 1 h (omega arith) (omega arith)) (away j 2 h (omega arith) (omega arith)) (away j 3 h (omega arith) (omega arith))
      (away j 4 h (omega arith) (omega arith)) (away j value_place h (omega arith) (omega arith))

  pub past_put_next : past_records (put_next b i v) ≡ past_records b
  past_put_next = past_put_word b i next_place v I (omega arith)

-- ---- the value of a record

module _ (b : List ℕ) (i v : ℕ) (I : Inside b i) where
  abbrev beside : (j q : ℕ) → 1 ≤ j → q < record_words → q ≢ value_place → word_of (put_value b i v) j q ≡ word_of b j q
  beside = place_put_word b i value_place v I (omega arith)

  pub length_put_value : length (put_value b i v) ≡ length b
  length_put_value = length_put_word b i value_place v

  pub word_put_value : (j : ℕ) → j < head_words → word (put_value b i v) j ≡ word b j
  word_put_value = word_put_word b i value_place v

  pub next_put_value : (j : ℕ) → 1 ≤ j → next (put_value b i v) j ≡ next b j
  unfolding next
  next_put_value j h = beside j next_place h (omega arith) (omega arith)

  pub key_put_value : (j : ℕ) → 1 ≤ j → (tuple_at (put_value b i v) j).key ≡ (tuple_at b j).key
  unfolding tuple_at key_at
  key_put_value j h =
      let s = beside j 1 h (omega arith) (omega arith) in
      let n = beside j 2 h (omega arith) (omega arith) in
      let g = beside j 3 h (omega arith) (omega arith) in
      let m = beside j 4 h (omega arith) (omega arith) in
      λ x. record { s = s x; n = n x; g = g x; m = m x }

  pub value_put_value : (tuple_at (put_value b i v) i).value ≡ v
  unfolding tuple_at
  value_put_value = same_put_word b i value_place v I (omega arith)

  pub value_put_value_other : (j : ℕ) → 1 ≤ j → j ≢ i → (tuple_at (put_value b i v) j).value ≡ (tuple_at b j).value
  unfolding tuple_at
  value_put_value_other j h d = record_put_word b i value_place v I (omega arith) j value_place h (omega arith) d

  pub past_put_value : past_records (put_value b i v) ≡ past_records b
  past_put_value = past_put_word b i value_place v I (omega arith)

-- ---- the key and value of a record

module _ (b : List ℕ) (i : ℕ) (k : Key) (v : Value) (I : Inside b i) where
  b₁ : List ℕ
  b₁ = put_word b i 1 k.s

  b₂ : List ℕ
  b₂ = put_word b₁ i 2 k.n

  b₃ : List ℕ
  b₃ = put_word b₂ i 3 k.g

  b₄ : List ℕ
  b₄ = put_word b₃ i 4 k.m

  i₁ : Inside b₁ i
  unfolding b₁
  i₁ = inside_length b (put_word b i 1 k.s) i (length_put_word b i 1 k.s) I

  i₂ : Inside b₂ i
  unfolding b₂
  i₂ = inside_length b₁ (put_word b₁ i 2 k.n) i (length_put_word b₁ i 2 k.n) i₁

  i₃ : Inside b₃ i
  unfolding b₃
  i₃ = inside_length b₂ (put_word b₂ i 3 k.g) i (length_put_word b₂ i 3 k.g) i₂

  i₄ : Inside b₄ i
  unfolding b₄
  i₄ = inside_length b₃ (put_word b₃ i 4 k.m) i (length_put_word b₃ i 4 k.m) i₃

  pub length_put_tuple : length (put_tuple b i k v) ≡ length b
  unfolding put_tuple b₁ b₂ b₃ b₄
  length_put_tuple =
      length_put_word b₄ i value_place v
      ∙ length_put_word b₃ i 4 k.m
      ∙ length_put_word b₂ i 3 k.g
      ∙ length_put_word b₁ i 2 k.n
      ∙ length_put_word b i 1 k.s

  pub word_put_tuple : (j : ℕ) → j < head_words → word (put_tuple b i k v) j ≡ word b j
  unfolding put_tuple b₁ b₂ b₃ b₄
  word_put_tuple j h =
      word_put_word b₄ i value_place v j h
      ∙ word_put_word b₃ i 4 k.m j h
      ∙ word_put_word b₂ i 3 k.g j h
      ∙ word_put_word b₁ i 2 k.n j h
      ∙ word_put_word b i 1 k.s j h

  pub next_put_tuple : (j : ℕ) → 1 ≤ j → next (put_tuple b i k v) j ≡ next b j
  unfolding next put_tuple b₁ b₂ b₃ b₄
  next_put_tuple j h =
      place_put_word b₄ i value_place v i₄ (omega arith) j next_place h (omega arith) (omega arith)
      ∙ place_put_word b₃ i 4 k.m i₃ (omega arith) j next_place h (omega arith) (omega arith)
      ∙ place_put_word b₂ i 3 k.g i₂ (omega arith) j next_place h (omega arith) (omega arith)
      ∙ place_put_word b₁ i 2 k.n i₁ (omega arith) j next_place h (omega arith) (omega arith)
      ∙ place_put_word b i 1 k.s I (omega arith) j next_place h (omega arith) (omega arith)

  -- the words of another record
  elsewhere : (j q : ℕ) → 1 ≤ j → q < record_words → j ≢ i → word_of (put_tuple b i k v) j q ≡ word_of b j q
  unfolding put_tuple b₁ b₂ b₃ b₄
  elsewhere j q h l d =
      record_put_word b₄ i value_place v i₄ (omega arith) j q h l d
      ∙ record_put_word b₃ i 4 k.m i₃ (omega arith) j q h l d
      ∙ record_put_word b₂ i 3 k.g i₂ (omega arith) j q h l d
      ∙ record_put_word b₁ i 2 k.n i₁ (omega arith) j q h l d
      ∙ record_put_word b i 1 k.s I (omega arith) j q h l d

  pub tuple_put_tuple_other : (j : ℕ) → 1 ≤ j → j ≢ i → tuple_at (put_tuple b i k v) j ≡ tuple_at b j
  unfolding tuple_at key_at
  tuple_put_tuple_other j h d =
      tuple_words (elsewhere j 1 h (omega arith) d) (elsewhere j 2 h (omega arith) d) (elsewhere j 3 h (omega arith) d)
      (elsewhere j 4 h (omega arith) d) (elsewhere j value_place h (omega arith) d)

  -- the places below 5 are as the fourth write left them, and so on down
  over_five : (q : ℕ) → q < 5 → word_of (put_tuple b i k v) i q ≡ word_of b₄ i q
  unfolding put_tuple b₁ b₂ b₃ b₄
  over_five q l = place_put_word b₄ i value_place v i₄ (omega arith) i q I.low (omega arith) (omega arith)

  over_four : (q : ℕ) → q < 4 → word_of b₄ i q ≡ word_of b₃ i q
  unfolding b₄
  over_four q l = place_put_word b₃ i 4 k.m i₃ (omega arith) i q I.low (omega arith) (omega arith)

  over_three : (q : ℕ) → q < 3 → word_of b₃ i q ≡ word_of b₂ i q
  unfolding b₃
  over_three q l = place_put_word b₂ i 3 k.g i₂ (omega arith) i q I.low (omega arith) (omega arith)

  over_two : (q : ℕ) → q < 2 → word_of b₂ i q ≡ word_of b₁ i q
  unfolding b₂
  over_two q l = place_put_word b₁ i 2 k.n i₁ (omega arith) i q I.low (omega arith) (omega arith)

  pub tuple_put_tuple : tuple_at (put_tuple b i k v) i ≡ record { key = k; value = v }
  unfolding put_tuple tuple_at key_at b₁ b₂ b₃ b₄
  tuple_put_tuple =
      tuple_words
      (over_five 1 (omega arith) ∙ over_four 1 (omega arith) ∙ over_three 1 (omega arith) ∙ over_two 1 (omega arith) ∙ same_put_word b i 1 k.s I (omega arith))
      (over_five 2 (omega arith) ∙ over_four 2 (omega arith) ∙ over_three 2 (omega arith) ∙ same_put_word b₁ i 2 k.n i₁ (omega arith))
      (over_five 3 (omega arith) ∙ over_four 3 (omega arith) ∙ same_put_word b₂ i 3 k.g i₂ (omega arith))
      (over_five 4 (omega arith) ∙ same_put_word b₃ i 4 k.m i₃ (omega arith))
      (same_put_word b₄ i value_place v i₄ (omega arith))

  pub past_put_tuple : past_records (put_tuple b i k v) ≡ past_records b
  unfolding put_tuple b₁ b₂ b₃ b₄
  past_put_tuple =
      past_put_word b₄ i value_place v i₄ (omega arith)
      ∙ past_put_word b₃ i 4 k.m i₃ (omega arith)
      ∙ past_put_word b₂ i 3 k.g i₂ (omega arith)
      ∙ past_put_word b₁ i 2 k.n i₁ (omega arith)
      ∙ past_put_word b i 1 k.s I (omega arith)
