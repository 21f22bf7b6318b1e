-- Marks: what they name is there, and what they show; one mark put.
use mathlib.Core.Bool.{Bool, true, false, cond, not, ◌&&◌, ◌||◌, false≢true}
use mathlib.Core.List.{List}
use mathlib.Core.Logic.{◌≢◌, ⊎_elim}
use mathlib.Core.Path.{◌≡◌, refl, sym, ap, ap₂, ◌∙◌, subst}
use Prim.Native.Nat.{ℕ, zero, suc, ◌+◌, ◌-◌, ◌*◌, ◌/◌, ◌%◌, ◌≤◌, ◌<◌}
use native.Mathlib.Omega.{arith}
use lib.Dec.{eqb, ltb}
use lib.ListN.{length, get_or, set, length-replicate, get_or-replicate, get_or-eq_default}
use lib.Seq.{get_or-set_same, get_or-set_other, set_out}
use borrow.Author.Tests.{eqb-true, eqb-false, eq-eqb, ne_eqb, ltb-true, ltb-false}
use Rattle.model.specs.declared.Key.{Key}
use Rattle.model.specs.Keys.{most_name, node_key, edge_key}
use Rattle.model.specs.OneCall.{name_count}
use Rattle.model.specs.Tuples.{present}
use Rattle.layouts.specs.Buffer.{capacity_of, key_at, tuples_of}
use Rattle.model.proofs.Bools.{or_cases, and_left, and_right, not_yes}
use Rattle.model.proofs.Tuples.{same_key_lem}
use Rattle.presence.specs.Presence.{is_at, no_marks, Held, Marked, MarksHold, MarksFit, mark_count, mark_tries, mark_step}
use Rattle.presence.specs.Presence.{node_mark, edge_mark, edge_record, node_slot, edge_slot, with_mark, with_node_mark, with_edge_mark, with_named, look_from, Tells, LooksFor, node_shown, edge_shown}

-- ---- places

pub node_slot_below : (s n : ℕ) → node_slot s n < mark_count
unfolding node_slot
node_slot_below s n = omega arith

pub edge_slot_below : (k : Key) → edge_slot k < mark_count
unfolding edge_slot
edge_slot_below k = omega arith

-- a place that is one of these fits
pub node_slot_fits : (s n at : ℕ) → at ≡ node_slot s n → at < mark_count
node_slot_fits s n at e = omega (arith, e, node_slot_below s n)

pub edge_slot_fits : (k : Key) (at : ℕ) → at ≡ edge_slot k → at < mark_count
edge_slot_fits k at e = omega (arith, e, edge_slot_below k)

-- ---- one mark

pub record_of_node : (w : ℕ) → w % name_count ≢ 0 → 0 ≡ edge_record w
unfolding edge_record
record_of_node w h = simp (ne_eqb (w % name_count) 0 h)

record_of_edge : (w : ℕ) → w % name_count ≡ 0 → w / name_count ≡ edge_record w
unfolding edge_record
record_of_edge w h = simp (eq-eqb (w % name_count) 0 h)

node_record : (s n : ℕ) → n ≢ 0 → n ≤ most_name → 0 ≡ edge_record (node_mark s n)
unfolding node_mark
node_record s n h l = record_of_node (s * name_count + n) (λ z. h (omega arith))

edge_record_lem : (i : ℕ) → i ≡ edge_record (edge_mark i)
unfolding edge_mark
edge_record_lem i =
    let z : (i * name_count) % name_count ≡ 0 = omega arith in
    let d : i ≡ (i * name_count) / name_count = omega arith in
    d ∙ record_of_edge (i * name_count) z

-- no record is held
none_held : (b : List ℕ) → Held b 0
none_held b = record { high = omega arith; has = λ n. absurd (n refl) }

no_mark : (b : List ℕ) → Marked b 0
unfolding node_mark
no_mark b =
    let z : ◌≡◌ {A = ℕ} (0 % name_count) 0 = omega arith in
    let d : ◌≡◌ {A = ℕ} 0 (0 / name_count) = omega arith in
    record { edge = subst (Held b) (d ∙ record_of_edge 0 z) (none_held b); node = λ s n h l e. absurd (h (omega arith)) }

module _ (b : List ℕ) where
  node_marked : (s n : ℕ) → n ≢ 0 → n ≤ most_name → present (node_key s n) (tuples_of b) ≡ true → Marked b (node_mark s n)
  unfolding node_mark
  node_marked s n h l t =
      record {
        edge = subst (Held b) (node_record s n h l) (none_held b);
        node =
            λ s' n' h' l' e.
            let p : s' ≡ s = omega arith in
            let q : n' ≡ n = omega arith in
            ap₂ (λ (x y : ℕ). present (node_key x y) (tuples_of b)) p q ∙ t;
      }

  edge_marked : (i : ℕ) → Held b i → Marked b (edge_mark i)
  unfolding node_mark edge_mark
  edge_marked i H = record { edge = subst (Held b) (edge_record_lem i) H; node = λ s n h l e. absurd (h (omega arith)) }

-- ---- what marks show

-- a record with a key, where the record is held
shown : (b : List ℕ) (i : ℕ) (k : Key) → Held b i → is_at b i k ≡ true → present k (tuples_of b) ≡ true
unfolding is_at
shown b i k H t =
    let i≢ : i ≢ 0 = eqb-false i 0 (not_yes (eqb i 0) (and_left (not (eqb i 0)) _ t)) in
    ap (λ (j : Key). present j (tuples_of b)) (sym (same_key_lem (key_at b i) k (and_right (not (eqb i 0)) _ t))) ∙ H.has i≢

-- what passes is a mark
looked : (p : ℕ → Bool) (Q : Type 0) (left : ℕ) (ms : List ℕ) (at : ℕ) → ((j : ℕ) → p (get_or ms j 0) ≡ true → Q) → look_from p left ms at ≡ true → Q
unfolding look_from
looked p Q zero ms at h e = absurd (false≢true e)
looked p Q (suc left) ms at h e =
    ⊎_elim (λ t. h at t) (λ t. looked p Q left ms ((at + mark_step) % mark_count) h (and_right (not (eqb (get_or ms at 0) 0)) _ t))
    (or_cases (p (get_or ms at 0)) _ e)

module _ (b ms : List ℕ) (M : MarksHold b ms) where
  pub show_node : (s n : ℕ) → n ≢ 0 → n ≤ most_name → node_shown ms s n ≡ true → present (node_key s n) (tuples_of b) ≡ true
  unfolding node_shown
  show_node s n h l e =
      looked (λ (w : ℕ). eqb w (node_mark s n)) (present (node_key s n) (tuples_of b) ≡ true) mark_tries ms (node_slot s n)
      (λ j t. (M.held j).node s n h l (eqb-true (get_or ms j 0) (node_mark s n) t)) e

  pub shown_node : (s n : ℕ) (r : Bool) → n ≢ 0 → n ≤ most_name → r ≡ node_shown ms s n → r ≡ true → r ≡ present (node_key s n) (tuples_of b)
  shown_node s n r h l e t = t ∙ sym (show_node s n h l (sym e ∙ t))

  pub show_edge : (k : Key) → edge_shown b ms k ≡ true → present (edge_key 0 k.n k.g k.m) (tuples_of b) ≡ true
  unfolding edge_shown
  show_edge k e =
      looked (λ (w : ℕ). is_at b (edge_record w) (edge_key 0 k.n k.g k.m)) (present (edge_key 0 k.n k.g k.m) (tuples_of b) ≡ true) mark_tries ms
      (edge_slot k) (λ j t. shown b (edge_record (get_or ms j 0)) (edge_key 0 k.n k.g k.m) (M.held j).edge t) e

pub marks_fit : (b ms : List ℕ) → MarksHold b ms → MarksFit b ms
marks_fit b ms M = record { low = λ j. (M.held j).edge.high }

-- what is left of looking at the marks, at a place after so many
pub record Looking (p : ℕ → Bool) (ms : List ℕ) (from at tried : ℕ) : Type 0 where
  pub rest : look_from p (mark_tries - tried) ms at ≡ look_from p mark_tries ms from

module _ (p : ℕ → Bool) (ms : List ℕ) (from : ℕ) where
  module _ (at tried : ℕ) (L : Looking p ms from at tried) where
    one : tried < mark_tries
        → cond (p (get_or ms at 0)) true (cond (eqb (get_or ms at 0) 0) false (look_from p (mark_tries - (tried + 1)) ms ((at + mark_step) % mark_count)))
        ≡ look_from p mark_tries ms from
    unfolding look_from
    one h = go (mark_tries - tried) L.rest (mark_tries - (tried + 1)) (omega arith)
      where
        same : (x y z : Bool) → cond x true (cond y false z) ≡ (x || (not y && z))
        same true y z = refl
        same false true z = refl
        same false false z = refl

        go : (l : ℕ) → look_from p l ms at ≡ look_from p mark_tries ms from → (m : ℕ) → l ≡ suc m
            → cond (p (get_or ms at 0)) true (cond (eqb (get_or ms at 0) 0) false (look_from p m ms ((at + mark_step) % mark_count))) ≡ look_from p mark_tries ms from
        go l r m e =
            same (p (get_or ms at 0)) (eqb (get_or ms at 0) 0) (look_from p m ms ((at + mark_step) % mark_count)) ∙ sym (ap (λ (x : ℕ). look_from p x ms at) e) ∙ r

    module _ (h : tried < mark_tries) where
      pub look_found : p (get_or ms at 0) ≡ true → true ≡ look_from p mark_tries ms from
      look_found t =
          sym (ap (λ (x : Bool). cond x true (cond (eqb (get_or ms at 0) 0) false (look_from p (mark_tries - (tried + 1)) ms ((at + mark_step) % mark_count)))) t) ∙ one h

      module _ (t : p (get_or ms at 0) ≡ false) (w : ℕ) (e : w ≡ get_or ms at 0) where
        further : cond (eqb (get_or ms at 0) 0) false (look_from p (mark_tries - (tried + 1)) ms ((at + mark_step) % mark_count)) ≡ look_from p mark_tries ms from
        further =
            sym (ap (λ (x : Bool). cond x true (cond (eqb (get_or ms at 0) 0) false (look_from p (mark_tries - (tried + 1)) ms ((at + mark_step) % mark_count)))) t) ∙ one h

        pub look_none : w ≡ 0 → false ≡ look_from p mark_tries ms from
        look_none z =
            sym (ap (λ (x : Bool). cond x false (look_from p (mark_tries - (tried + 1)) ms ((at + mark_step) % mark_count))) (eq-eqb (get_or ms at 0) 0 (sym e ∙ z))) ∙ further

        pub look_next : w ≢ 0 → Looking p ms from ((at + mark_step) % mark_count) (tried + 1)
        look_next n =
            record {
              rest =
                  sym (ap (λ (x : Bool). cond x false (look_from p (mark_tries - (tried + 1)) ms ((at + mark_step) % mark_count))) (ne_eqb (get_or ms at 0) 0 (λ z. n (e ∙ z))))
                  ∙ further;
            }

    pub look_end : mark_tries ≤ tried → false ≡ look_from p mark_tries ms from
    unfolding look_from
    look_end z = let none : mark_tries - tried ≡ 0 = omega arith in sym (ap (λ (x : ℕ). look_from p x ms at) none) ∙ L.rest

-- the same by the answers of a call
pub record LookingFor (told : ℕ → Bool → Type 0) (ms : List ℕ) (from at tried : ℕ) : Type 0 where
  pub below : at < mark_count
  pub rest : (p : ℕ → Bool) → Tells told ms p → Looking p ms from at tried

module _ (told : ℕ → Bool → Type 0) (ms : List ℕ) (from : ℕ) where
  module _ (at tried : ℕ) (L : LookingFor told ms from at tried) where
    module _ (h : tried < mark_tries) (w : ℕ) (e : w ≡ get_or ms at 0) (r : Bool) (f : told w r) where
      answer : (p : ℕ → Bool) → Tells told ms p → p (get_or ms at 0) ≡ r
      answer p t = sym (t at r (subst (λ (x : ℕ). told x r) e f))

      pub looking_found : r ≡ true → LooksFor told ms from true
      looking_found y p t = look_found p ms from at tried (L.rest p t) h (answer p t ∙ y)

      pub looking_none : r ≡ false → w ≡ 0 → LooksFor told ms from false
      looking_none y z p t = look_none p ms from at tried (L.rest p t) h (answer p t ∙ y) w e z

      pub looking_next : r ≡ false → w ≢ 0 → LookingFor told ms from ((at + mark_step) % mark_count) (tried + 1)
      looking_next y n = record { below = omega arith; rest = λ p t. look_next p ms from at tried (L.rest p t) h (answer p t ∙ y) w e n }

    pub looking_end : mark_tries ≤ tried → LooksFor told ms from false
    looking_end z p t = look_end p ms from at tried (L.rest p t) z

-- ---- no marks

length_no_marks : length no_marks ≡ mark_count
length_no_marks = length-replicate {A = ℕ} mark_count 0

pub no_marks_lem : (b ms : List ℕ) → ms ≡ no_marks → MarksHold b ms
no_marks_lem b ms e = subst (MarksHold b) (sym e) (record { held = λ j. subst (Marked b) (sym (none j)) (no_mark b) })
  where
    none : (j : ℕ) → get_or no_marks j 0 ≡ 0
    none j = go (ltb j mark_count) refl
      where
        go : (t : Bool) → ltb j mark_count ≡ t → get_or no_marks j 0 ≡ 0
        go true e = get_or-replicate mark_count j 0 0 (ltb-true j mark_count e)
        go false e = get_or-eq_default no_marks 0 {n = j} (omega (arith, ltb-false j mark_count e, length_no_marks))

-- ---- marks put

-- what holds of every mark and of a mark holds of every mark with that mark put
module _ (P : ℕ → Type 0) (i : ℕ) (p : P i) where
  set_all : (ms : List ℕ) (at : ℕ) → ((j : ℕ) → P (get_or ms j 0)) → (j : ℕ) → P (get_or (set ms at i) j 0)
  set_all ms at h j = go (eqb j at) refl
    where
      go : (t : Bool) → eqb j at ≡ t → P (get_or (set ms at i) j 0)
      go false e = subst P (sym (get_or-set_other ms at j i 0 (eqb-false j at e))) (h j)
      go true e = within (ltb at (length ms)) refl
        where
          same : get_or (set ms at i) j 0 ≡ get_or (set ms at i) at 0
          same = ap (λ (x : ℕ). get_or (set ms at i) x 0) (eqb-true j at e)

          within : (t : Bool) → ltb at (length ms) ≡ t → P (get_or (set ms at i) j 0)
          within true f = subst P (sym (same ∙ get_or-set_same ms at i 0 (ltb-true at (length ms) f))) p
          within false f = subst (λ (xs : List ℕ). P (get_or xs j 0)) (sym (set_out ms at i (ltb-false at (length ms) f))) (h j)

  either : (t : Bool) (xs ys : List ℕ) → ((j : ℕ) → P (get_or xs j 0)) → ((j : ℕ) → P (get_or ys j 0)) → (j : ℕ) → P (get_or (cond t xs ys) j 0)
  either true xs ys x y = x
  either false xs ys x y = y

  mark_all : (left : ℕ) (ms : List ℕ) (at : ℕ) → ((j : ℕ) → P (get_or ms j 0)) → (j : ℕ) → P (get_or (with_mark left ms at i) j 0)
  unfolding with_mark
  mark_all zero ms at h = h
  mark_all (suc left) ms at h =
      either (eqb (get_or ms at 0) 0) (set ms at i) (with_mark left ms ((at + mark_step) % mark_count) i) (set_all ms at h)
      (mark_all left ms ((at + mark_step) % mark_count) h)

-- what holds of every mark, and of the marks of a key and its record
module _ (P : ℕ → Type 0) (k : Key) (i : ℕ) (n : k.g ≡ 0 → k.n ≢ 0 → P (node_mark k.s k.n)) (r : P (edge_mark i)) where
  named_all : (ms : List ℕ) → ((j : ℕ) → P (get_or ms j 0)) → (j : ℕ) → P (get_or (with_named ms k i) j 0)
  unfolding with_named with_node_mark with_edge_mark
  named_all ms h = go (eqb k.g 0) refl (eqb k.n 0) refl (eqb k.s 0)
    where
      go : (g : Bool) → eqb k.g 0 ≡ g → (z : Bool) → eqb k.n 0 ≡ z → (s : Bool) → (j : ℕ)
          → P
          (get_or
          (cond g (cond z ms (with_mark mark_tries ms (node_slot k.s k.n) (node_mark k.s k.n))) (cond s (with_mark mark_tries ms (edge_slot k) (edge_mark i)) ms)) j 0)
      go true e true f s = h
      go true e false f s =
          mark_all P (node_mark k.s k.n) (n (eqb-true k.g 0 e) (eqb-false k.n 0 f)) mark_tries ms (node_slot k.s k.n) h
      go false e z f true = mark_all P (edge_mark i) r mark_tries ms (edge_slot k) h
      go false e z f false = h

module _ (b ms : List ℕ) (k : Key) (i : ℕ) (low : k.n ≤ most_name) (ms' : List ℕ) (e : ms' ≡ with_named ms k i) where
  pub named_marks : MarksHold b ms → Held b i → (k.g ≡ 0 → present (node_key k.s k.n) (tuples_of b) ≡ true) → MarksHold b ms'
  named_marks M H t =
      subst (MarksHold b) (sym e)
      (record {
        held =
            named_all (Marked b) k i (λ g n. node_marked b k.s k.n n low (t g)) (edge_marked b i H) ms M.held;
      })

  pub named_fit : MarksFit b ms → i ≤ capacity_of b → MarksFit b ms'
  named_fit F h =
      subst (MarksFit b) (sym e)
      (record {
        low =
            named_all (λ (w : ℕ). edge_record w ≤ capacity_of b) k i (λ g n. omega (arith, node_record k.s k.n n low)) (omega (arith, edge_record_lem i)) ms
            F.low;
      })

-- what is left of the search for a place, at a place after so many
pub record Placing (ms₀ ms : List ℕ) (i at₀ at tried : ℕ) : Type 0 where
  pub same : ms ≡ ms₀
  pub below : at < mark_count
  pub rest : with_mark (mark_tries - tried) ms₀ at i ≡ with_mark mark_tries ms₀ at₀ i

module _ (ms₀ : List ℕ) (i : ℕ) where
  module _ (ms : List ℕ) (at₀ at tried : ℕ) (P : Placing ms₀ ms i at₀ at tried) where
    -- one more place is looked at
    one_place : tried < mark_tries
        → cond (eqb (get_or ms₀ at 0) 0) (set ms₀ at i) (with_mark (mark_tries - (tried + 1)) ms₀ ((at + mark_step) % mark_count) i)
        ≡ with_mark mark_tries ms₀ at₀ i
    unfolding with_mark
    one_place h =
        let more : mark_tries - tried ≡ suc (mark_tries - (tried + 1)) = omega arith in
        sym (ap (λ (x : ℕ). with_mark x ms₀ at i) more) ∙ P.rest

    module _ (h : tried < mark_tries) (m : ℕ) (e : m ≡ get_or ms at 0) where
      here : m ≡ get_or ms₀ at 0
      here = e ∙ ap (λ (xs : List ℕ). get_or xs at 0) P.same

      pub place_free : m ≡ 0 → (ms' : List ℕ) → ms' ≡ set ms at i → ms' ≡ with_mark mark_tries ms₀ at₀ i
      place_free z ms' f =
          f ∙ ap (λ (xs : List ℕ). set xs at i) P.same
          ∙ sym
          (ap (λ (t : Bool). cond t (set ms₀ at i) (with_mark (mark_tries - (tried + 1)) ms₀ ((at + mark_step) % mark_count) i)) (eq-eqb (get_or ms₀ at 0) 0 (sym here ∙ z)))
          ∙ one_place h

      pub place_next : m ≢ 0 → Placing ms₀ ms i at₀ ((at + mark_step) % mark_count) (tried + 1)
      place_next n =
          record {
            same = P.same;
            below = omega arith;
            rest =
                sym
                (ap (λ (t : Bool). cond t (set ms₀ at i) (with_mark (mark_tries - (tried + 1)) ms₀ ((at + mark_step) % mark_count) i))
                (ne_eqb (get_or ms₀ at 0) 0 (λ z. n (here ∙ z))))
                ∙ one_place h;
          }

    pub place_none : mark_tries ≤ tried → ms ≡ with_mark mark_tries ms₀ at₀ i
    unfolding with_mark
    place_none h = let none : mark_tries - tried ≡ 0 = omega arith in P.same ∙ sym (ap (λ (x : ℕ). with_mark x ms₀ at i) none) ∙ P.rest
