-- The buffer that preparing leaves (specs/Prepare.antt) is what document 01 says of it.
use mathlib.Core.Bool.{Bool, true, false, cond, not}
use mathlib.Core.List.{List, [], ◌∷◌}
use mathlib.Core.Path.{◌≡◌, refl, sym, ap, ap₂, ◌∙◌, subst}
use Prim.Native.Nat.{ℕ, zero, suc, ◌+◌, ◌-◌, ◌*◌, ◌≤◌, ◌<◌}
use native.Mathlib.Omega.{arith}
use lib.Dec.{eqb}
use lib.ListN.{length, set, length-set}
use borrow.Author.Tests.{eqb-true, eqb-false}
use Rattle.std.specs.Prelude.{Ok, Err}
use Rattle.model.specs.declared.Refusal.TheVariants.{NotAStore}
use Rattle.model.specs.Keys.{NIL, space_key}
use Rattle.layouts.specs.Buffer.{word, head_words, record_words, next_place, fits_length, capacity_of, next, tuple_at, past_records, follower, Prepared, Preparing}
use Rattle.model.proofs.Bools.{clash, not_yes, not_no}
use Rattle.layouts.proofs.Sizes.{fits_least, fits_most, some_record, few_records, records_fit}
use Rattle.words.specs.Words.{Inside, put_next}
use Rattle.words.proofs.Words.{inside, inside_length, past_head, length_put_word, word_put_word, next_put_next, next_put_next_other}
use Rattle.words.proofs.Words.{tuple_put_next, past_put_next, length_put_tuple, word_put_tuple, next_put_tuple, tuple_put_tuple, past_put_tuple}
use Rattle.fresh.specs.Prepare.{headed, universe_in, chained, prepared_buffer, after_preparing}

-- ---- the chain of free records

pub chained_length : (C : ℕ) (b : List ℕ) (n : ℕ) → length (chained C b n) ≡ length b
unfolding chained
chained_length C b zero = refl
chained_length C b (suc n) = length_put_word (chained C b n) (n + 2) next_place _ ∙ chained_length C b n

-- the record whose next is written is there
pub chained_inside : (C : ℕ) (b b₁ : List ℕ) (n : ℕ) → head_words + record_words * C ≤ length b → b₁ ≡ chained C b n → n + 1 < C → Inside b₁ (n + 2)
chained_inside C b b₁ n fits e l = record { low = omega arith; high = omega (arith, fits, ap length e, chained_length C b n) }

module _ (C : ℕ) (b : List ℕ) (fits : head_words + record_words * C ≤ length b) where
  there : (n : ℕ) → n + 1 < C → Inside (chained C b n) (n + 2)
  there n l = chained_inside C b (chained C b n) n fits refl l

  chained_head : (n j : ℕ) → j < head_words → word (chained C b n) j ≡ word b j
  unfolding chained
  chained_head zero j h = refl
  chained_head (suc n) j h = word_put_word (chained C b n) (n + 2) next_place _ j h ∙ chained_head n j h

  -- record 1 is not written
  chained_first : (n : ℕ) → n + 1 ≤ C → next (chained C b n) 1 ≡ next b 1
  unfolding chained
  chained_first zero h = refl
  chained_first (suc n) h =
      next_put_next_other (chained C b n) (n + 2) _ (there n (omega arith)) 1 (omega arith) (λ z. omega arith) ∙ chained_first n (omega arith)

  chained_tuple : (n : ℕ) → n + 1 ≤ C → tuple_at (chained C b n) 1 ≡ tuple_at b 1
  unfolding chained
  chained_tuple zero h = refl
  chained_tuple (suc n) h = tuple_put_next (chained C b n) (n + 2) _ (there n (omega arith)) 1 (omega arith) ∙ chained_tuple n (omega arith)

  chained_next : (n i : ℕ) → n + 1 ≤ C → 2 ≤ i → i ≤ n + 1 → next (chained C b n) i ≡ follower C i
  unfolding chained
  chained_next zero i h low high = absurd (omega arith)
  chained_next (suc n) i h low high = go (eqb i (n + 2)) refl (chained_next n i (omega arith) low)
    where
      go : (t : Bool) → eqb i (n + 2) ≡ t → (i ≤ n + 1 → next (chained C b n) i ≡ follower C i)
          → next (put_next (chained C b n) (n + 2) (follower C (n + 2))) i ≡ follower C i
      go true e rest =
          let same : i ≡ n + 2 = eqb-true i (n + 2) e in
          ap (next (put_next (chained C b n) (n + 2) (follower C (n + 2)))) same
          ∙ next_put_next (chained C b n) (n + 2) _ (there n (omega arith))
          ∙ ap (follower C) (sym same)
      go false e rest =
          let other : i ≡ n + 2 → ⊥ = eqb-false i (n + 2) e in
          next_put_next_other (chained C b n) (n + 2) _ (there n (omega arith)) i (omega arith) other ∙ rest (omega arith)

  chained_past : (n : ℕ) → n + 1 ≤ C → past_records (chained C b n) ≡ past_records b
  unfolding chained
  chained_past zero h = refl
  chained_past (suc n) h = past_put_next (chained C b n) (n + 2) _ (there n (omega arith)) ∙ chained_past n (omega arith)

-- ---- words 0 to 3

record Headed (C : ℕ) (b' : List ℕ) : Type 0 where
  capacity : word b' 0 ≡ C
  used : word b' 1 ≡ 1
  free : word b' 2 ≡ follower C 1
  count : word b' 3 ≡ 1

head_words_lem : (C : ℕ) (b : List ℕ) → head_words ≤ length b → Headed C (headed C b)
unfolding headed
head_words_lem C [] h = absurd (omega arith)
head_words_lem C (a ∷ []) h = absurd (omega arith)
head_words_lem C (a ∷ b ∷ []) h = absurd (omega arith)
head_words_lem C (a ∷ b ∷ c ∷ []) h = absurd (omega arith)
head_words_lem C (a ∷ b ∷ c ∷ d ∷ ks) h = record { capacity = refl; used = refl; free = refl; count = refl }

headed_length : (C : ℕ) (b : List ℕ) → length (headed C b) ≡ length b
unfolding headed
headed_length C b = simp length-set

headed_past : (C : ℕ) (b : List ℕ) → past_records (headed C b) ≡ past_records b
unfolding headed
headed_past C b =
    past_head _ 3 1 (omega arith) ∙ past_head _ 2 (follower C 1) (omega arith) ∙ past_head _ 1 1 (omega arith) ∙ past_head b 0 C (omega arith)

-- ---- record 1

module _ (b : List ℕ) (I : Inside b 1) where
  abbrev ended : List ℕ
  ended = put_next b 1 0

  inside_ended : Inside ended 1
  inside_ended = inside_length b ended 1 (length_put_word b 1 next_place 0) I

  universe_length : length (universe_in b) ≡ length b
  unfolding universe_in
  universe_length = length_put_tuple ended 1 (space_key 0) NIL inside_ended ∙ length_put_word b 1 next_place 0

  universe_head : (j : ℕ) → j < head_words → word (universe_in b) j ≡ word b j
  unfolding universe_in
  universe_head j h = word_put_tuple ended 1 (space_key 0) NIL inside_ended j h ∙ word_put_word b 1 next_place 0 j h

  universe_ends : next (universe_in b) 1 ≡ 0
  unfolding universe_in
  universe_ends = next_put_tuple ended 1 (space_key 0) NIL inside_ended 1 (omega arith) ∙ next_put_next b 1 0 I

  universe_held : tuple_at (universe_in b) 1 ≡ record { key = space_key 0; value = NIL }
  unfolding universe_in
  universe_held = tuple_put_tuple ended 1 (space_key 0) NIL inside_ended

  universe_past : past_records (universe_in b) ≡ past_records b
  unfolding universe_in
  universe_past = past_put_tuple ended 1 (space_key 0) NIL inside_ended ∙ past_put_next b 1 0 I

-- the words written one after another
pub heads_put : (b b₁ b₂ b₃ b₄ : List ℕ) (C f : ℕ) → f ≡ follower C 1 → b₁ ≡ set b 0 C → b₂ ≡ set b₁ 1 1 → b₃ ≡ set b₂ 2 f → b₄ ≡ set b₃ 3 1
    → b₄ ≡ headed C b
unfolding headed
heads_put b b₁ b₂ b₃ b₄ C f e p q r s =
    s ∙ ap (λ (l : List ℕ). set l 3 1) (r ∙ ap₂ (λ (l : List ℕ) (w : ℕ). set l 2 w) (q ∙ ap (λ (l : List ℕ). set l 1 1) p) e)

-- ---- preparing

module _ (b : List ℕ) (fits : fits_length b ≡ true) where
  abbrev C : ℕ
  C = capacity_of b

  abbrev begun : List ℕ
  begun = universe_in (headed C b)

  some : 1 ≤ C
  some = some_record b (fits_least b fits) (fits_most b fits)

  inside_headed : Inside (headed C b) 1
  inside_headed = inside_length b (headed C b) 1 (headed_length C b) (inside b 1 (omega arith) some)

  begun_length : length begun ≡ length b
  begun_length = universe_length (headed C b) inside_headed ∙ headed_length C b

  room : head_words + record_words * C ≤ length begun
  room = omega (arith, records_fit b (fits_least b fits) (fits_most b fits), begun_length)

  heads : Headed C (headed C b)
  heads = head_words_lem C b (omega (arith, fits_least b fits))

  head_kept : (j : ℕ) → j < head_words → word (prepared_buffer b) j ≡ word (headed C b) j
  unfolding prepared_buffer
  head_kept j h = chained_head C begun room (C - 1) j h ∙ universe_head (headed C b) inside_headed j h

  pub prepared : Prepared b (prepared_buffer b)
  unfolding prepared_buffer
  prepared =
      let all : (C - 1) + 1 ≤ C = omega (arith, some) in
      record {
        fits = fits;
        size = chained_length C begun (C - 1) ∙ begun_length;
        capacity = head_kept 0 (omega arith) ∙ heads.capacity;
        used_head = head_kept 1 (omega arith) ∙ heads.used;
        free_head = head_kept 2 (omega arith) ∙ heads.free;
        used = head_kept 3 (omega arith) ∙ heads.count;
        universe_last = chained_first C begun room (C - 1) all ∙ universe_ends (headed C b) inside_headed;
        universe = chained_tuple C begun room (C - 1) all ∙ universe_held (headed C b) inside_headed;
        free = λ i h k. chained_next C begun room (C - 1) i all h (omega (arith, some));
        past = chained_past C begun room (C - 1) all ∙ universe_past (headed C b) inside_headed ∙ headed_past C b;
      }

-- ---- the functions that write

-- what they require follows from a length that fits
pub long_enough : (b : List ℕ) → fits_length b ≡ true → head_words ≤ length b
long_enough b fits = omega (arith, fits_least b fits)

pub records_few : (b : List ℕ) (c : ℕ) → fits_length b ≡ true → c ≡ capacity_of b → c ≤ 2048
records_few b c fits e = omega (arith, e, few_records b (fits_least b fits) (fits_most b fits))

pub universe_ready : (b b₁ : List ℕ) → fits_length b ≡ true → length b₁ ≡ length b → Inside b₁ 1
universe_ready b b₁ fits e = inside_length b b₁ 1 e (inside b 1 (omega arith) (some_record b (fits_least b fits) (fits_most b fits)))

pub records_room : (b : List ℕ) (c : ℕ) → fits_length b ≡ true → c ≡ capacity_of b → head_words + record_words * c ≤ length b
records_room b c fits e = omega (arith, e, records_fit b (fits_least b fits) (fits_most b fits))

-- what they write one after another
pub filled : (b b₁ b₂ b₃ : List ℕ) (c : ℕ) → c ≡ capacity_of b → b₁ ≡ headed c b → b₂ ≡ universe_in b₁ → b₃ ≡ chained c b₂ (c - 1) → b₃ ≡ prepared_buffer b
unfolding prepared_buffer
filled b b₁ b₂ b₃ c size head one free =
    free ∙ ap (λ (l : List ℕ). chained c l (c - 1)) (one ∙ ap universe_in head) ∙ ap (λ (k : ℕ). chained k (universe_in (headed k b)) (k - 1)) size

-- ---- preparing

module _ (b : List ℕ) (t : Bool) (tested : t ≡ fits_length b) where
  pub tested_fits : not t ≡ false → fits_length b ≡ true
  tested_fits n = sym tested ∙ not_no t n

  pub prepared_records : (c : ℕ) → not t ≡ false → c ≡ capacity_of b → c ≤ 2048
  prepared_records c n e = records_few b c (tested_fits n) e

  pub prepares : (b' : List ℕ) (c : ℕ) → not t ≡ false → c ≡ capacity_of b → b' ≡ prepared_buffer b → Preparing b (Ok c) b'
  prepares b' c n size whole =
      let fits = tested_fits n in
      record {
        outside = λ f. absurd (clash fits f);
        inside = λ f. (ap Ok size, subst (Prepared b) (sym whole) (prepared b fits));
      }

  pub after_prepared : (b' : List ℕ) → not t ≡ false → b' ≡ prepared_buffer b → b' ≡ after_preparing b
  unfolding after_preparing
  after_prepared b' n whole = whole ∙ sym (ap (λ (x : Bool). cond x (prepared_buffer b) b) (tested_fits n))

  pub refuses : not t ≡ true → Preparing b (Err NotAStore) b
  refuses n = record { outside = λ f. (refl, refl); inside = λ f. absurd (clash f (sym tested ∙ not_yes t n)) }

  pub after_refused : not t ≡ true → b ≡ after_preparing b
  unfolding after_preparing
  after_refused n = sym (ap (λ (x : Bool). cond x (prepared_buffer b) b) (sym tested ∙ not_yes t n))
