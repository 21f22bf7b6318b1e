-- A key's value set: one value word written is the tuple list with the value assigned.
use mathlib.Core.Bool.{Bool, true, false, cond, not}
use mathlib.Core.List.{List, [], ◌∷◌, map}
use mathlib.Core.Logic.{◌≢◌}
use mathlib.Core.Path.{◌≡◌, refl, sym, ap, ap₂, ◌∙◌, subst}
use Prim.Native.Nat.{ℕ, ◌+◌, ◌≤◌}
use native.Mathlib.Omega.{arith}
use lib.Dec.{eqb}
use lib.ListN.{set}
use lib.Seq.{get_or-set_other}
use borrow.Author.Tests.{eq-eqb, ne_eqb}
use Rattle.model.specs.declared.Key.{Key}
use Rattle.model.specs.Ordered.{holds, Ascending}
use Rattle.model.specs.Keys.{Value, Tuple, key_of, space_key, compare_keys, same_key}
use Rattle.model.specs.Tuples.{Tuples, present, assign}
use Rattle.layouts.specs.Buffer.{word, record_start, value_place, capacity_of, next, key_at, tuple_at, used_of, free_of, tuples_of, count}
use Rattle.layouts.specs.Chains.{Chain, ChainRules, Within}
use Rattle.model.proofs.Bools.{clash, or_no_left, or_no_right}
use Rattle.model.proofs.Order.{keys}
use Rattle.model.proofs.Ordered.{above_not_held, ascending_tail}
use Rattle.model.proofs.Tuples.{same_key_lem, own_key, present_assign, assign_ascending}
use Rattle.model.proofs.Rules.{universe_first, first_universe}
use Rattle.layouts.proofs.Chains.{chain_within, chain_agree}
use Rattle.words.specs.Words.{Inside, put_word, put_value}
use Rattle.words.proofs.Words.{length_put_value, word_put_value, next_put_value, key_put_value, value_put_value, value_put_value_other, past_put_value}
use Rattle.layouts.proofs.Sizes.{capacity_length}
use Rattle.std.specs.Prelude.{Option, Some}
use Rattle.chain.specs.Links.{Linked, KeepsHints, find_in, record_named, Edited}
use Rattle.layouts.proofs.Store.{used_of_lem}
use Rattle.chain.proofs.Found.{found_inside, found_record, named_none, none_of, present_found}
use Rattle.chain.proofs.Paths.{counted_within}
use Rattle.edit.specs.Edits.{assign_in, Assigned}
use Rattle.edit.proofs.Built.{edited, unedited}

-- a key that is missing is assigned nothing
assign_absent : (k : Key) (v : Value) (ts : Tuples) → present k ts ≡ false → assign k v ts ≡ ts
unfolding assign holds
assign_absent k v [] e = refl
assign_absent k v (t ∷ ts) e =
    ap₂ ◌∷◌ (ap (λ (u : Bool). cond u (record { key = t.key; value = v }) t) (or_no_left (same_key k t.key) (present k ts) e))
    (assign_absent k v ts (or_no_right (same_key k t.key) (present k ts) e))

module _ (b : List ℕ) (k : Key) (v : Value) (at : ℕ) (I : Inside b at) where
  b' : List ℕ
  b' = put_value b at v

  -- a tuple by its key and value
  by_parts : (s t : Tuple) → s.key ≡ t.key → s.value ≡ t.value → s ≡ t
  by_parts s t e f = λ i. record { key = e i; value = f i }

  -- the record found has the key
  find_own : (js : List ℕ) → at ≡ find_in (key_at b) k js → at ≢ 0 → key_at b at ≡ k
  unfolding find_in
  find_own [] e n = absurd (n e)
  find_own (j ∷ js) e n = look (same_key k (key_at b j)) refl e (λ f. find_own js f n)
    where
      look : (t : Bool) → same_key k (key_at b j) ≡ t → at ≡ cond t j (find_in (key_at b) k js) → (at ≡ find_in (key_at b) k js → key_at b at ≡ k)
          → key_at b at ≡ k
      look true f g rest = ap (key_at b) g ∙ sym (same_key_lem k (key_at b j) f)
      look false f g rest = rest g

  -- records with another key are as before
  tuple_other_lem : (j : ℕ) → 1 ≤ j → key_at b at ≡ k → same_key k (key_at b j) ≡ false → tuple_at b' j ≡ tuple_at b j
  unfolding b'
  tuple_other_lem j h own differs =
      by_parts (tuple_at (put_value b at v) j) (tuple_at b j) (key_put_value b at v I j h)
      (value_put_value_other b at v I j h
      (λ e. clash (subst (λ (i : ℕ). same_key k (key_at b i) ≡ true) (sym e) (subst (λ (x : Key). same_key k x ≡ true) (sym own) (own_key k))) differs))

  absent_same : (is : List ℕ) → Within (capacity_of b) is → key_at b at ≡ k → present k (map (tuple_at b) is) ≡ false → map (tuple_at b') is ≡ map (tuple_at b) is
  unfolding holds tuple_at
  absent_same [] w own e = refl
  absent_same (i ∷ is) w own e =
      ap₂ ◌∷◌ (tuple_other_lem i w.0 own (or_no_left (same_key k (key_at b i)) (present k (map (tuple_at b) is)) e))
      (absent_same is w.2 own (or_no_right (same_key k (key_at b i)) (present k (map (tuple_at b) is)) e))

  assigned : (is : List ℕ) → Within (capacity_of b) is → Ascending key_of compare_keys (map (tuple_at b) is) → at ≡ find_in (key_at b) k is → at ≢ 0
      → map (tuple_at b') is ≡ assign k v (map (tuple_at b) is)
  unfolding find_in assign tuple_at
  assigned [] w h e d = refl
  assigned (i ∷ is) w h e d = go (same_key k (key_at b i)) refl e (assigned is w.2 (ascending_tail key_of compare_keys keys (key_at b i) (map (tuple_at b) is) h))
    where
      go : (t : Bool) → same_key k (key_at b i) ≡ t → at ≡ cond t i (find_in (key_at b) k is)
          → (at ≡ find_in (key_at b) k is → at ≢ 0 → map (tuple_at b') is ≡ assign k v (map (tuple_at b) is))
          → tuple_at b' i ∷ map (tuple_at b') is ≡ cond t (record { key = key_at b i; value = v }) (tuple_at b i) ∷ assign k v (map (tuple_at b) is)
      go true f here ih =
          let own : key_at b i ≡ k = sym (same_key_lem k (key_at b i) f) in
          let own' : key_at b at ≡ k = ap (key_at b) here ∙ own in
          let rest : present k (map (tuple_at b) is) ≡ false
          = subst (λ (x : Key). present x (map (tuple_at b) is) ≡ false) own (above_not_held key_of compare_keys keys (key_at b i) (map (tuple_at b) is) h) in
          ap₂ ◌∷◌ (subst (λ (x : ℕ). tuple_at b' x ≡ record { key = key_at b x; value = v }) here itself)
          (absent_same is w.2 own' rest ∙ sym (assign_absent k v (map (tuple_at b) is) rest))
        where
          itself : tuple_at b' at ≡ record { key = key_at b at; value = v }
          itself =
              unfold b' in
              (by_parts (tuple_at (put_value b at v) at) (record { key = key_at b at; value = v }) (key_put_value b at v I at I.low) (value_put_value b at v I))
      go false f there ih = ap₂ ◌∷◌ (tuple_other_lem i w.0 (find_own is there d) f) (ih there d)

  -- the chains do not see a value
  value_rules : (used free : List ℕ) → ChainRules b used free → ChainRules b' used free
  unfolding b'
  value_rules used free R =
      let same : capacity_of (put_value b at v) ≡ capacity_of b = capacity_length b (put_value b at v) (length_put_value b at v I) in
      let size = length_put_value b at v I in
      let links : (is : List ℕ) → Within (capacity_of b) is → (j : ℕ) → 1 ≤ count j is → next b j ≡ next (put_value b at v) j
      = λ is w j h. sym (next_put_value b at v I j (counted_within (capacity_of b) is w j h).0) in
      record {
        least = omega (arith, size, R.least);
        most = omega (arith, size, R.most);
        capacity = word_put_value b at v I 0 (omega arith) ∙ R.capacity ∙ sym same;
        used_head = omega (arith, word_put_value b at v I 1 (omega arith), R.used_head, same);
        free_head = omega (arith, word_put_value b at v I 2 (omega arith), R.free_head, same);
        nexts = λ i h m. omega (arith, next_put_value b at v I i h, R.nexts i h (omega (arith, same)), same);
        used_chain =
            subst (λ (i : ℕ). Chain (next (put_value b at v)) i used) (sym (word_put_value b at v I 1 (omega arith)))
            (chain_agree (next b) (next (put_value b at v)) (word b 1) used
            (links used (chain_within (next b) (capacity_of b) (word b 1) used R.used_chain R.used_head R.nexts)) R.used_chain);
        free_chain =
            subst (λ (i : ℕ). Chain (next (put_value b at v)) i free) (sym (word_put_value b at v I 2 (omega arith)))
            (chain_agree (next b) (next (put_value b at v)) (word b 2) free
            (links free (chain_within (next b) (capacity_of b) (word b 2) free R.free_chain R.free_head R.nexts)) R.free_chain);
        once = λ i h m. R.once i h (omega (arith, same));
        counted = word_put_value b at v I 3 (omega arith) ∙ R.counted;
      }

  value_put : Linked b → at ≡ find_in (key_at b) k (used_of b) → at ≢ 0 → Edited b (put_value b at v) (assign k v (tuples_of b))
  unfolding b' tuples_of
  value_put L e d =
      let R = L.chains in
      let ts : Tuples = tuples_of b in
      let h : Ascending key_of compare_keys (assign k v ts) = assign_ascending k v ts L.ascends in
      edited b (put_value b at v) (used_of b) (free_of b) (assign k v ts) (value_rules (used_of b) (free_of b) R)
      (assigned (used_of b) (chain_within (next b) (capacity_of b) (word b 1) (used_of b) R.used_chain R.used_head R.nexts) L.ascends e d)
      h
      (universe_first (assign k v ts) h (present_assign (space_key 0) k v ts ∙ first_universe ts L.first))
      (length_put_value b at v I) (past_put_value b at v I)

-- nor do hints
hints_kept : (b : List ℕ) (k : Key) (v : Value) (at : ℕ) (I : Inside b at) → Linked b → KeepsHints b (put_value b at v)
unfolding b'
hints_kept b k v at I L i H h =
    let R = H h in
    record {
      before = R.before;
      after = R.after;
      split = used_of_lem (put_value b at v) (used_of b) (free_of b) (value_rules b k v at I (used_of b) (free_of b) L.chains) ∙ R.split;
    }

module _ (b : List ℕ) (k : Key) (v : Value) (found : Option ℕ) (L : Linked b) (e : found ≡ record_named (find_in (key_at b) k (used_of b))) where
  -- the value of a key that a record holds is set ..
  pub value_set : (at : ℕ) (b' : List ℕ) → found ≡ Some at → b' ≡ put_value b at v → Assigned b k v b'
  unfolding assign_in
  value_set at b' is same =
      let I = found_inside b k found L e at is in
      let r = found_record b k found L e at is in
      let held : eqb at 0 ≡ false = ne_eqb at 0 r.1 in
      subst (Assigned b k v) (sym same)
      (record {
        words = ap (λ (t : Bool). cond t b (put_value b at v)) (sym held) ∙ ap (λ (i : ℕ). cond (eqb i 0) b (put_value b i v)) r.0;
        edited = value_put b k v at I L r.0 r.1;
        hints = hints_kept b k v at I L;
      })

  -- .. and nothing is set where the key is missing
  pub value_unset : ((at : ℕ) → found ≡ Some at → ⊥) → Assigned b k v b
  unfolding assign_in
  value_unset other =
      let z = named_none (find_in (key_at b) k (used_of b)) (sym e ∙ none_of found other) in
      record {
        words = sym (ap (λ (i : ℕ). cond (eqb i 0) b (put_value b i v)) z);
        edited =
            unedited b (assign k v (tuples_of b)) L
            (sym (assign_absent k v (tuples_of b) (present_found b k L ∙ ap not (eq-eqb _ 0 z))));
        hints = λ i H. H;
      }

-- no word but the value word of the record found is another afterwards
pub assigned_other : (b : List ℕ) (k : Key) (v : Value) (b' : List ℕ) (i : ℕ) → Assigned b k v b'
    → i ≢ record_start (find_in (key_at b) k (used_of b)) + value_place → word b' i ≡ word b i
unfolding assign_in put_word
assigned_other b k v b' i A d = ap (λ (x : List ℕ). word x i) A.words ∙ go (eqb (find_in (key_at b) k (used_of b)) 0)
  where
    go : (t : Bool) → word (cond t b (set b (record_start (find_in (key_at b) k (used_of b)) + value_place) v)) i ≡ word b i
    go true = refl
    go false = get_or-set_other b (record_start (find_in (key_at b) k (used_of b)) + value_place) i v 0 d
