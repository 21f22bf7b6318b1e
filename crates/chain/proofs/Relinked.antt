-- A tuple linked or unlinked: what is read afterwards, and that the chains are chains again.
-- First from the words to a record of plain reads (`Inserted`, `Removed`), then from the reads to the rules.
use mathlib.Core.Bool.{Bool, true, false}
use mathlib.Core.List.{List, ◌∷◌, ◌++◌, map, map-append}
use mathlib.Core.Logic.{◌≢◌}
use mathlib.Core.Path.{◌≡◌, refl, sym, ap, ap₂, ◌∙◌, subst}
use Prim.Native.Nat.{ℕ, ◌+◌, ◌-◌, ◌≤◌, ◌<◌}
use native.Mathlib.Omega.{arith}
use lib.Dec.{eqb}
use lib.ListN.{length, set, length-set, length-append}
use lib.Seq.{get_or-set_same}
use borrow.Author.Tests.{eqb-true, eqb-false}
use Rattle.model.specs.declared.Key.{Key}
use Rattle.model.specs.Keys.{Value, Tuple}
use Rattle.layouts.specs.Buffer.{word, capacity_of, next, tuple_at, past_records, one_if, count}
use Rattle.layouts.specs.Chains.{Chain, ChainRules, Within}
use Rattle.layouts.proofs.Chains.{chain_agree, chain_within, count_append, hit}
use Rattle.words.specs.Words.{Inside, put_next, put_tuple}
use Rattle.words.proofs.Words.{next_head, tuple_head, word_head, past_head, length_put_next, word_put_next, next_put_next, next_put_next_other, tuple_put_next, past_put_next}
use Rattle.words.proofs.Words.{length_put_tuple, word_put_tuple, next_put_tuple, tuple_put_tuple, tuple_put_tuple_other, past_put_tuple}
use Rattle.layouts.proofs.Sizes.{capacity_length}
use Rattle.chain.specs.Links.{Linking, insert_after, Unlinking, remove_after}
use Rattle.chain.proofs.Paths.{Path, chain_split, path_chain, path_agree, map_agree, counted_within, within_left, within_right}

-- ---- what is read after a tuple is linked

pub record Inserted (b b' : List ℕ) (before taken : ℕ) (t : Tuple) : Type 0 where
  pub size : length b' ≡ length b
  pub capacity : word b' 0 ≡ word b 0
  pub used_head : word b' 1 ≡ word b 1
  pub free_head : word b' 2 ≡ next b taken
  pub used : word b' 3 ≡ word b 3 + 1
  pub next_taken : next b' taken ≡ next b before
  pub next_before : next b' before ≡ taken
  pub next_other : (j : ℕ) → 1 ≤ j → j ≢ taken → j ≢ before → next b' j ≡ next b j
  pub tuple_taken : tuple_at b' taken ≡ t
  pub tuple_other : (j : ℕ) → 1 ≤ j → j ≢ taken → tuple_at b' j ≡ tuple_at b j
  pub past : past_records b' ≡ past_records b

-- a record is a record of each buffer of the same length
inside_same : (b b' : List ℕ) (i : ℕ) → length b' ≡ length b → Inside b i → Inside b' i
inside_same b b' i e I = record { low = I.low; high = omega (arith, I.high) }

module _ (b : List ℕ) (before : ℕ) (k : Key) (v : Value) (L : Linking b before) (apart : before ≢ word b 2) where
  taken : ℕ
  taken = word b 2

  b₁ : List ℕ
  b₁ = set b 2 (next b taken)

  b₂ : List ℕ
  b₂ = put_tuple b₁ taken k v

  b₃ : List ℕ
  b₃ = put_next b₂ taken (next b before)

  b₄ : List ℕ
  b₄ = put_next b₃ before taken

  l₁ : length b₁ ≡ length b
  unfolding b₁ taken
  l₁ = length-set b 2 (next b (word b 2))

  I₁ : Inside b₁ taken
  unfolding taken
  I₁ = inside_same b b₁ (word b 2) l₁ L.taken

  l₂ : length b₂ ≡ length b
  unfolding b₂
  l₂ = length_put_tuple b₁ taken k v I₁ ∙ l₁

  I₂ : Inside b₂ taken
  unfolding taken
  I₂ = inside_same b b₂ (word b 2) l₂ L.taken

  l₃ : length b₃ ≡ length b
  unfolding b₃
  l₃ = length_put_next b₂ taken (next b before) I₂ ∙ l₂

  I₃ : Inside b₃ before
  I₃ = inside_same b b₃ before l₃ L.there

  l₄ : length b₄ ≡ length b
  unfolding b₄
  l₄ = length_put_next b₃ before taken I₃ ∙ l₃

  long : 4 ≤ length b
  long = omega (arith, L.there.high)

  pub insert_reads : Inserted b (insert_after b before k v) before (word b 2) (record { key = k; value = v })
  unfolding insert_after taken b₁ b₂ b₃ b₄
  insert_reads =
      let low : 1 ≤ before = L.there.low in
      let at : 1 ≤ word b 2 = L.taken.low in
      let last : 3 < 4 = omega arith in
      let second : 2 < 4 = omega arith in
      record {
        size = length-set b₄ 3 (word b 3 + 1) ∙ l₄;
        capacity =
            word_head b₄ 3 (word b 3 + 1) last 0 (omega arith)
            ∙ word_put_next b₃ before taken I₃ 0 (omega arith)
            ∙ word_put_next b₂ taken (next b before) I₂ 0 (omega arith)
            ∙ word_put_tuple b₁ taken k v I₁ 0 (omega arith)
            ∙ word_head b 2 (next b taken) second 0 (omega arith);
        used_head =
            word_head b₄ 3 (word b 3 + 1) last 1 (omega arith)
            ∙ word_put_next b₃ before taken I₃ 1 (omega arith)
            ∙ word_put_next b₂ taken (next b before) I₂ 1 (omega arith)
            ∙ word_put_tuple b₁ taken k v I₁ 1 (omega arith)
            ∙ word_head b 2 (next b taken) second 1 (omega arith);
        free_head =
            word_head b₄ 3 (word b 3 + 1) last 2 (omega arith)
            ∙ word_put_next b₃ before taken I₃ 2 (omega arith)
            ∙ word_put_next b₂ taken (next b before) I₂ 2 (omega arith)
            ∙ word_put_tuple b₁ taken k v I₁ 2 (omega arith)
            ∙ get_or-set_same b 2 (next b taken) 0 (omega (arith, long));
        used = get_or-set_same b₄ 3 (word b 3 + 1) 0 (omega (arith, l₄, long));
        next_taken =
            next_head b₄ 3 (word b 3 + 1) last taken
            ∙ next_put_next_other b₃ before taken I₃ taken at (λ e. apart (sym e))
            ∙ next_put_next b₂ taken (next b before) I₂;
        next_before = next_head b₄ 3 (word b 3 + 1) last before ∙ next_put_next b₃ before taken I₃;
        next_other =
            λ j h d e.
            next_head b₄ 3 (word b 3 + 1) last j
            ∙ next_put_next_other b₃ before taken I₃ j h e
            ∙ next_put_next_other b₂ taken (next b before) I₂ j h d
            ∙ next_put_tuple b₁ taken k v I₁ j h
            ∙ next_head b 2 (next b taken) second j;
        tuple_taken =
            tuple_head b₄ 3 (word b 3 + 1) last taken
            ∙ tuple_put_next b₃ before taken I₃ taken at
            ∙ tuple_put_next b₂ taken (next b before) I₂ taken at
            ∙ tuple_put_tuple b₁ taken k v I₁;
        tuple_other =
            λ j h d.
            tuple_head b₄ 3 (word b 3 + 1) last j
            ∙ tuple_put_next b₃ before taken I₃ j h
            ∙ tuple_put_next b₂ taken (next b before) I₂ j h
            ∙ tuple_put_tuple_other b₁ taken k v I₁ j h d
            ∙ tuple_head b 2 (next b taken) second j;
        past =
            past_head b₄ 3 (word b 3 + 1) last
            ∙ past_put_next b₃ before taken I₃
            ∙ past_put_next b₂ taken (next b before) I₂
            ∙ past_put_tuple b₁ taken k v I₁
            ∙ past_head b 2 (next b taken) second;
      }

-- ---- what is read after a tuple is unlinked

pub record Removed (b b' : List ℕ) (before gone : ℕ) : Type 0 where
  pub size : length b' ≡ length b
  pub capacity : word b' 0 ≡ word b 0
  pub used_head : word b' 1 ≡ word b 1
  pub free_head : word b' 2 ≡ gone
  pub used : word b' 3 ≡ word b 3 - 1
  pub next_before : next b' before ≡ next b gone
  pub next_gone : next b' gone ≡ word b 2
  pub next_other : (j : ℕ) → 1 ≤ j → j ≢ gone → j ≢ before → next b' j ≡ next b j
  pub tuple : (j : ℕ) → 1 ≤ j → tuple_at b' j ≡ tuple_at b j
  pub past : past_records b' ≡ past_records b

module _ (b : List ℕ) (before : ℕ) (L : Unlinking b before) (apart : before ≢ next b before) where
  gone : ℕ
  gone = next b before

  c₁ : List ℕ
  c₁ = put_next b before (next b gone)

  c₂ : List ℕ
  c₂ = put_next c₁ gone (word b 2)

  c₃ : List ℕ
  c₃ = set c₂ 2 gone

  m₁ : length c₁ ≡ length b
  unfolding c₁
  m₁ = length_put_next b before (next b gone) L.there

  J₁ : Inside c₁ gone
  unfolding gone
  J₁ = inside_same b c₁ (next b before) m₁ L.gone

  m₂ : length c₂ ≡ length b
  unfolding c₂
  m₂ = length_put_next c₁ gone (word b 2) J₁ ∙ m₁

  m₃ : length c₃ ≡ length b
  unfolding c₃
  m₃ = length-set c₂ 2 gone ∙ m₂

  enough : 4 ≤ length b
  enough = omega (arith, L.there.high)

  pub remove_reads : Removed b (remove_after b before) before (next b before)
  unfolding remove_after gone c₁ c₂ c₃
  remove_reads =
      let low : 1 ≤ before = L.there.low in
      let at : 1 ≤ next b before = L.gone.low in
      let last : 3 < 4 = omega arith in
      let second : 2 < 4 = omega arith in
      record {
        size = length-set c₃ 3 (word b 3 - 1) ∙ m₃;
        capacity =
            word_head c₃ 3 (word b 3 - 1) last 0 (omega arith)
            ∙ word_head c₂ 2 gone second 0 (omega arith)
            ∙ word_put_next c₁ gone (word b 2) J₁ 0 (omega arith)
            ∙ word_put_next b before (next b gone) L.there 0 (omega arith);
        used_head =
            word_head c₃ 3 (word b 3 - 1) last 1 (omega arith)
            ∙ word_head c₂ 2 gone second 1 (omega arith)
            ∙ word_put_next c₁ gone (word b 2) J₁ 1 (omega arith)
            ∙ word_put_next b before (next b gone) L.there 1 (omega arith);
        free_head = word_head c₃ 3 (word b 3 - 1) last 2 (omega arith) ∙ get_or-set_same c₂ 2 gone 0 (omega (arith, m₂, enough));
        used = get_or-set_same c₃ 3 (word b 3 - 1) 0 (omega (arith, m₃, enough));
        next_before =
            next_head c₃ 3 (word b 3 - 1) last before
            ∙ next_head c₂ 2 gone second before
            ∙ next_put_next_other c₁ gone (word b 2) J₁ before low apart
            ∙ next_put_next b before (next b gone) L.there;
        next_gone =
            next_head c₃ 3 (word b 3 - 1) last gone ∙ next_head c₂ 2 gone second gone ∙ next_put_next c₁ gone (word b 2) J₁;
        next_other =
            λ j h d e.
            next_head c₃ 3 (word b 3 - 1) last j
            ∙ next_head c₂ 2 gone second j
            ∙ next_put_next_other c₁ gone (word b 2) J₁ j h d
            ∙ next_put_next_other b before (next b gone) L.there j h e;
        tuple =
            λ j h.
            tuple_head c₃ 3 (word b 3 - 1) last j
            ∙ tuple_head c₂ 2 gone second j
            ∙ tuple_put_next c₁ gone (word b 2) J₁ j h
            ∙ tuple_put_next b before (next b gone) L.there j h;
        past =
            past_head c₃ 3 (word b 3 - 1) last
            ∙ past_head c₂ 2 gone second
            ∙ past_put_next c₁ gone (word b 2) J₁
            ∙ past_put_next b before (next b gone) L.there;
      }

-- ---- from the reads to the rules

same_or_other : (P : Type 0) (i j : ℕ) → (i ≡ j → P) → (i ≢ j → P) → P
same_or_other P i j f g = go (eqb i j) refl
  where
    go : (b : Bool) → eqb i j ≡ b → P
    go true e = f (eqb-true i j e)
    go false e = g (eqb-false i j e)

-- how often a record stands in the used and free chains, taken apart at `before`
sum_of : (k before : ℕ) (pre post free : List ℕ)
    → count k ((pre ++ before ∷ post) ++ free) ≡ count k pre + (one_if (eqb k before) + count k post) + count k free
unfolding count
sum_of k before pre post free =
    count_append k (pre ++ before ∷ post) free ∙ ap (λ (n : ℕ). n + count k free) (count_append k pre (before ∷ post))

-- the records of a buffer in parts: those before `before`, those after, the free ones, and the one that moves from one chain to the other
pub record Parts (C before moves : ℕ) (pre post free : List ℕ) : Type 0 where
  pub pre_within : Within C pre
  pub post_within : Within C post
  pub free_within : Within C free
  pub low : 1 ≤ before
  pub high : before ≤ C
  pub moves_low : 1 ≤ moves
  pub moves_high : moves ≤ C
  pub once : (k : ℕ) → 1 ≤ k → k ≤ C → count k pre + (one_if (eqb k before) + count k post) + (one_if (eqb k moves) + count k free) ≡ 1

module _ (C before moves : ℕ) (pre post free : List ℕ) (P : Parts C before moves pre post free) where
  -- a record of the lists is neither `before` nor the one that moves
  elsewhere : (k : ℕ) → 1 ≤ k → k ≤ C → 1 ≤ count k pre + count k post + count k free → (k ≢ moves) × (k ≢ before)
  elsewhere k h m one = (λ e. omega (arith, P.once k h m, hit k moves e), λ e. omega (arith, P.once k h m, hit k before e))

  pub apart : before ≢ moves
  apart e = omega (arith, P.once before P.low P.high, hit before before refl, hit before moves e)

  -- so links and tuples that are kept but for these two are kept on the lists
  module _ {A : Type 0} (f g : ℕ → A) (kept : (j : ℕ) → 1 ≤ j → j ≢ moves → j ≢ before → f j ≡ g j) where
    on_list : (is : List ℕ) → Within C is → ((k : ℕ) → count k is ≤ count k pre + count k post + count k free)
        → (k : ℕ) → 1 ≤ count k is → f k ≡ g k
    on_list is w part k one =
        let r = counted_within C is w k one in
        let d = elsewhere k r.0 r.1 (omega (arith, part k)) in
        kept k r.0 d.0 d.1

    on_pre : (k : ℕ) → 1 ≤ count k pre → f k ≡ g k
    on_pre = on_list pre P.pre_within (λ k. omega arith)

    on_post : (k : ℕ) → 1 ≤ count k post → f k ≡ g k
    on_post = on_list post P.post_within (λ k. omega arith)

    on_free : (k : ℕ) → 1 ≤ count k free → f k ≡ g k
    on_free = on_list free P.free_within (λ k. omega arith)

-- ---- a tuple linked

pub inserting : (b : List ℕ) (before taken : ℕ) (pre post free : List ℕ) → ChainRules b (pre ++ before ∷ post) (taken ∷ free)
    → Parts (capacity_of b) before taken pre post free
unfolding count
inserting b before taken pre post free R =
    let used = chain_within (next b) (capacity_of b) (word b 1) (pre ++ before ∷ post) R.used_chain R.used_head R.nexts in
    let rest = within_right (capacity_of b) pre (before ∷ post) used in
    let unused = chain_within (next b) (capacity_of b) (word b 2) (taken ∷ free) R.free_chain R.free_head R.nexts in
    record {
      pre_within = within_left (capacity_of b) pre (before ∷ post) used;
      post_within = rest.2;
      free_within = unused.2;
      low = rest.0;
      high = rest.1;
      moves_low = unused.0;
      moves_high = unused.1;
      once = λ k h m. sym (sum_of k before pre post (taken ∷ free)) ∙ R.once k h m;
    }

module _ (b b' : List ℕ) (before taken : ℕ) (t : Tuple) (pre post free : List ℕ)
    (R : ChainRules b (pre ++ before ∷ post) (taken ∷ free)) (N : Inserted b b' before taken t) where
  I : Parts (capacity_of b) before taken pre post free
  I = inserting b before taken pre post free R

  size_kept : capacity_of b' ≡ capacity_of b
  size_kept = capacity_length b b' N.size

  links : (j : ℕ) → 1 ≤ j → j ≢ taken → j ≢ before → next b j ≡ next b' j
  links j h d e = sym (N.next_other j h d e)

  tuples : (j : ℕ) → 1 ≤ j → j ≢ taken → j ≢ before → tuple_at b' j ≡ tuple_at b j
  tuples j h d e = N.tuple_other j h d

  new_used : Chain (next b') (word b' 1) (pre ++ before ∷ taken ∷ post)
  new_used =
      let P = I in
      let s = chain_split (next b) (word b 1) pre (before ∷ post) R.used_chain in
      let at : before ≡ s.0 = s.2.1 in
      let rest : Chain (next b) (next b before) post = subst (λ (i : ℕ). Chain (next b) (next b i) post) (sym at) s.2.2 in
      let after : Chain (next b') (next b' taken) post
      = subst (λ (i : ℕ). Chain (next b') i post) (sym N.next_taken)
      (chain_agree (next b) (next b') (next b before) post
      (on_post (capacity_of b) before taken pre post free P (next b) (next b') links) rest) in
      let from_taken : Chain (next b') taken (taken ∷ post) = (λ z. omega (arith, P.moves_low), refl, after) in
      let from_before : Chain (next b') before (before ∷ taken ∷ post)
      = (λ z. omega (arith, P.low), refl, subst (λ (i : ℕ). Chain (next b') i (taken ∷ post)) (sym N.next_before) from_taken) in
      subst (λ (i : ℕ). Chain (next b') i (pre ++ before ∷ taken ∷ post)) (sym N.used_head)
      (path_chain (next b') (word b 1) before pre (before ∷ taken ∷ post)
      (subst (λ (j : ℕ). Path (next b') (word b 1) pre j) (sym at)
      (path_agree (next b) (next b') (word b 1) s.0 pre (on_pre (capacity_of b) before taken pre post free P (next b) (next b') links) s.1))
      from_before)

  new_free : Chain (next b') (word b' 2) free
  new_free =
      let at : taken ≡ word b 2 = R.free_chain.1 in
      subst (λ (i : ℕ). Chain (next b') i free) (sym (N.free_head ∙ ap (next b) at))
      (chain_agree (next b) (next b') (next b (word b 2)) free
      (on_free (capacity_of b) before taken pre post free I (next b) (next b') links) R.free_chain.2)

  new_next : (i : ℕ) → 1 ≤ i → i ≤ capacity_of b → next b' i ≤ capacity_of b
  new_next i h m =
      let P = I in
      same_or_other (next b' i ≤ capacity_of b) i taken
      (λ e. subst (λ (j : ℕ). next b' j ≤ capacity_of b) (sym e) (omega (arith, N.next_taken, R.nexts before P.low P.high)))
      (λ d.
      same_or_other (next b' i ≤ capacity_of b) i before
      (λ e. subst (λ (j : ℕ). next b' j ≤ capacity_of b) (sym e) (omega (arith, N.next_before, P.moves_high)))
      (λ f. omega (arith, N.next_other i h d f, R.nexts i h m)))

  new_once : (i : ℕ) → 1 ≤ i → i ≤ capacity_of b → count i ((pre ++ before ∷ taken ∷ post) ++ free) ≡ 1
  unfolding count
  new_once i h m = sum_of i before pre (taken ∷ post) free ∙ omega (arith, I.once i h m)

  pub inserted_rules : ChainRules b' (pre ++ before ∷ taken ∷ post) free
  inserted_rules =
      record {
        least = omega (arith, N.size, R.least);
        most = omega (arith, N.size, R.most);
        capacity = N.capacity ∙ R.capacity ∙ sym size_kept;
        used_head = omega (arith, N.used_head, R.used_head, size_kept);
        free_head = omega (arith, N.free_head, R.nexts taken I.moves_low I.moves_high, size_kept);
        nexts = λ i h m. omega (arith, new_next i h (omega (arith, size_kept)), size_kept);
        used_chain = new_used;
        free_chain = new_free;
        once = λ i h m. new_once i h (omega (arith, size_kept));
        counted = omega (arith, N.used, R.counted, length-append pre (before ∷ post), length-append pre (before ∷ taken ∷ post));
      }

  -- the tuples are those of before, and the new one after `before`
  pub inserted_tuples : map (tuple_at b') (pre ++ before ∷ taken ∷ post) ≡ map (tuple_at b) pre ++ tuple_at b before ∷ t ∷ map (tuple_at b) post
  inserted_tuples =
      let P = I in
      map-append (tuple_at b') pre (before ∷ taken ∷ post)
      ∙ ap₂ ◌++◌ (map_agree (tuple_at b') (tuple_at b) pre (on_pre (capacity_of b) before taken pre post free P (tuple_at b') (tuple_at b) tuples))
      (ap₂ ◌∷◌ (N.tuple_other before P.low (apart (capacity_of b) before taken pre post free P))
      (ap₂ ◌∷◌ N.tuple_taken
      (map_agree (tuple_at b') (tuple_at b) post (on_post (capacity_of b) before taken pre post free P (tuple_at b') (tuple_at b) tuples))))

-- ---- a tuple unlinked

pub removing : (b : List ℕ) (before gone : ℕ) (pre post free : List ℕ) → ChainRules b (pre ++ before ∷ gone ∷ post) free
    → Parts (capacity_of b) before gone pre post free
unfolding count
removing b before gone pre post free R =
    let used = chain_within (next b) (capacity_of b) (word b 1) (pre ++ before ∷ gone ∷ post) R.used_chain R.used_head R.nexts in
    let rest = within_right (capacity_of b) pre (before ∷ gone ∷ post) used in
    record {
      pre_within = within_left (capacity_of b) pre (before ∷ gone ∷ post) used;
      post_within = rest.2.2;
      free_within = chain_within (next b) (capacity_of b) (word b 2) free R.free_chain R.free_head R.nexts;
      low = rest.0;
      high = rest.1;
      moves_low = rest.2.0;
      moves_high = rest.2.1;
      once = λ k h m. omega (arith, sum_of k before pre (gone ∷ post) free, R.once k h m);
    }

module _ (b b' : List ℕ) (before gone : ℕ) (pre post free : List ℕ)
    (R : ChainRules b (pre ++ before ∷ gone ∷ post) free) (N : Removed b b' before gone) where
  J : Parts (capacity_of b) before gone pre post free
  J = removing b before gone pre post free R

  kept_size : capacity_of b' ≡ capacity_of b
  kept_size = capacity_length b b' N.size

  kept_links : (j : ℕ) → 1 ≤ j → j ≢ gone → j ≢ before → next b j ≡ next b' j
  kept_links j h d e = sym (N.next_other j h d e)

  kept_tuples : (j : ℕ) → 1 ≤ j → j ≢ gone → j ≢ before → tuple_at b' j ≡ tuple_at b j
  kept_tuples j h d e = N.tuple j h

  left_used : Chain (next b') (word b' 1) (pre ++ before ∷ post)
  left_used =
      let P = J in
      let s = chain_split (next b) (word b 1) pre (before ∷ gone ∷ post) R.used_chain in
      let at : before ≡ s.0 = s.2.1 in
      let second : gone ≡ next b s.0 = s.2.2.1 in
      let rest : Chain (next b) (next b gone) post = subst (λ (i : ℕ). Chain (next b) (next b i) post) (sym second) s.2.2.2 in
      let from_before : Chain (next b') before (before ∷ post)
      = (
        λ z. omega (arith, P.low),
        refl,
        subst (λ (i : ℕ). Chain (next b') i post) (sym N.next_before)
            (chain_agree (next b) (next b') (next b gone) post
            (on_post (capacity_of b) before gone pre post free P (next b) (next b') kept_links) rest),
      ) in
      subst (λ (i : ℕ). Chain (next b') i (pre ++ before ∷ post)) (sym N.used_head)
      (path_chain (next b') (word b 1) before pre (before ∷ post)
      (subst (λ (j : ℕ). Path (next b') (word b 1) pre j) (sym at)
      (path_agree (next b) (next b') (word b 1) s.0 pre
      (on_pre (capacity_of b) before gone pre post free P (next b) (next b') kept_links) s.1))
      from_before)

  left_free : Chain (next b') (word b' 2) (gone ∷ free)
  left_free =
      let P = J in
      subst (λ (i : ℕ). Chain (next b') i (gone ∷ free)) (sym N.free_head) (
        λ z. omega (arith, P.moves_low),
        refl,
        subst (λ (i : ℕ). Chain (next b') i free) (sym N.next_gone)
            (chain_agree (next b) (next b') (word b 2) free (on_free (capacity_of b) before gone pre post free P (next b) (next b') kept_links) R.free_chain),
      )

  left_next : (i : ℕ) → 1 ≤ i → i ≤ capacity_of b → next b' i ≤ capacity_of b
  left_next i h m =
      let P = J in
      same_or_other (next b' i ≤ capacity_of b) i gone
      (λ e. subst (λ (j : ℕ). next b' j ≤ capacity_of b) (sym e) (omega (arith, N.next_gone, R.free_head)))
      (λ d.
      same_or_other (next b' i ≤ capacity_of b) i before
      (λ e. subst (λ (j : ℕ). next b' j ≤ capacity_of b) (sym e) (omega (arith, N.next_before, R.nexts gone P.moves_low P.moves_high)))
      (λ f. omega (arith, N.next_other i h d f, R.nexts i h m)))

  left_once : (i : ℕ) → 1 ≤ i → i ≤ capacity_of b → count i ((pre ++ before ∷ post) ++ gone ∷ free) ≡ 1
  unfolding count
  left_once i h m = sum_of i before pre post (gone ∷ free) ∙ J.once i h m

  pub removed_rules : ChainRules b' (pre ++ before ∷ post) (gone ∷ free)
  removed_rules =
      record {
        least = omega (arith, N.size, R.least);
        most = omega (arith, N.size, R.most);
        capacity = N.capacity ∙ R.capacity ∙ sym kept_size;
        used_head = omega (arith, N.used_head, R.used_head, kept_size);
        free_head = omega (arith, N.free_head, J.moves_high, kept_size);
        nexts = λ i h m. omega (arith, left_next i h (omega (arith, kept_size)), kept_size);
        used_chain = left_used;
        free_chain = left_free;
        once = λ i h m. left_once i h (omega (arith, kept_size));
        counted = omega (arith, N.used, R.counted, length-append pre (before ∷ post), length-append pre (before ∷ gone ∷ post));
      }
