-- The ends of edges, sought from the first record of the edge's space on.
use mathlib.Core.Bool.{Bool, true, false, cond, not, ◌||◌, false≢true, and-false}
use mathlib.Core.List.{List, ◌∷◌}
use mathlib.Core.Logic.{◌≢◌}
use mathlib.Core.Path.{◌≡◌, refl, sym, ap, ◌∙◌, subst}
use Prim.Native.Nat.{ℕ, ◌≤◌, ◌<◌, compare, Ordering}
use native.Mathlib.Omega.{arith}
use lib.Dec.{eqb, compare_is_eq}
use borrow.Author.Tests.{eqb-true, eqb-false, eq-eqb, ne_eqb}
use Rattle.model.specs.declared.Key.{Key}
use Rattle.model.specs.Ordered.{is_less, then_by, Above, Ascending}
use Rattle.model.specs.Keys.{key_of, space_key, node_key, compare_keys, same_key}
use Rattle.model.specs.Tuples.{Tuples, present}
use Rattle.layouts.specs.Buffer.{word, next, key_at, tuple_at, tuples_of}
use Rattle.model.specs.Rules.{ascends_from_universe, every_key}
use Rattle.model.proofs.Bools.{and_left, and_right, failed}
use Rattle.model.proofs.Order.{keys, compare_eq, compare_lt, lt≢gt}
use Rattle.model.proofs.Ordered.{above_less, test_above}
use Rattle.model.proofs.Tuples.{same_key_lem}
use Rattle.layouts.specs.Chains.{Rest}
use Rattle.presence.specs.Presence.{Walkable, tuples_from, Seekable, is_at, is_before, Sorted, ends_present, space_start}
use Rattle.presence.proofs.Rest.{used_from_head, on_head, tuples_next, EveryLeft, every_start, every_next, every_no, every_end_lem, present_cons, Seeking, seek_end, before_less}
use Rattle.presence.proofs.Support.{from_head, head_some}

-- ---- keys

-- a key below another is in the same space or an earlier one
less_space : (j k : Key) → compare_keys j k ≡ Ordering.lt → j.s ≤ k.s
unfolding compare_keys
less_space j k e = go (compare j.s k.s) refl e
  where
    go : (o : Ordering) → compare j.s k.s ≡ o
        → then_by o (then_by (compare j.n k.n) (then_by (compare j.g k.g) (compare j.m k.m))) ≡ Ordering.lt → j.s ≤ k.s
    go Ordering.lt f h = omega (arith, compare_lt j.s k.s f)
    go Ordering.eq f h = omega (arith, compare_eq j.s k.s f)
    go Ordering.gt f h = absurd (lt≢gt (sym h))

other_space : (j k : Key) → (j.s ≡ k.s → ⊥) → same_key j k ≡ false
other_space j k h = failed (same_key j k) (λ e. h (ap (λ (x : Key). x.s) (same_key_lem j k e)))

-- ---- the walk

-- the tuples from `space` on are all of its space and later ones, those from `at` on all of later spaces
pub record Spanning (b : List ℕ) (space at : ℕ) : Type 0 where
  pub every : EveryLeft (ends_present (tuples_of b)) b at
  pub first : Seekable b space
  pub named : space ≢ 0
  pub above : Above key_of compare_keys (key_at b space) (tuples_from b at)
  pub later : (j : Key) → (key_at b space).s < j.s → present j (tuples_of b) ≡ present j (tuples_from b at)
  pub here : (j : Key) → (key_at b space).s ≤ j.s → present j (tuples_of b) ≡ present j (tuples_from b space)

-- the same at a tuple, with the first record of its own space
pub record Entered (b : List ℕ) (space at : ℕ) : Type 0 where
  pub first : Seekable b space
  pub here : (j : Key) → j.s ≡ (key_at b at).s → present j (tuples_of b) ≡ present j (tuples_from b space)
  pub onward : (n : ℕ) → n ≡ next b at → ends_present (tuples_of b) (key_at b at) ≡ true → Spanning b space n

above_at : (k : Key) (b : List ℕ) (i : ℕ) (ts : Tuples) → Above key_of compare_keys k (tuple_at b i ∷ ts)
    → (compare_keys k (key_at b i) ≡ Ordering.lt) × Above key_of compare_keys (key_at b i) ts
unfolding tuple_at
above_at k b i ts h = h

at_ascends : (b : List ℕ) (i : ℕ) (ts : Tuples) → Above key_of compare_keys (key_at b i) ts → Ascending key_of compare_keys (tuple_at b i ∷ ts)
unfolding tuple_at
at_ascends b i ts h = h

module _ (b : List ℕ) (w : Walkable b) where
  -- a tuple of another space is passed over
  pass : (at n : ℕ) → Rest b at → at ≢ 0 → n ≡ next b at → (j : Key) → (j.s ≡ (key_at b at).s → ⊥)
      → present j (tuples_from b at) ≡ present j (tuples_from b n)
  pass at n O at≢ e j h =
      ap (present j) (tuples_next b at n w O at≢ e) ∙ present_cons j b at (tuples_from b n)
      ∙ ap (λ (a : Bool). a || present j (tuples_from b n)) (other_space j (key_at b at) h)

  pub entered : (space at sp : ℕ) → Spanning b space at → at ≢ 0 → sp ≡ space_start b space at → Entered b sp at
  unfolding space_start
  entered space at sp S at≢ e = subst (λ (x : ℕ). Entered b x at) (sym e) (go (eqb (key_at b space).s (key_at b at).s) refl)
    where
      O : Rest b at
      O = S.every.on

      split : (n : ℕ) → n ≡ next b at → (compare_keys (key_at b space) (key_at b at) ≡ Ordering.lt) × Above key_of compare_keys (key_at b at) (tuples_from b n)
      split n f = above_at (key_at b space) b at (tuples_from b n) (subst (Above key_of compare_keys (key_at b space)) (tuples_next b at n w O at≢ f) S.above)

      go : (t : Bool) → eqb (key_at b space).s (key_at b at).s ≡ t → Entered b (cond t space at) at
      go true f =
          let same : (key_at b space).s ≡ (key_at b at).s = eqb-true (key_at b space).s (key_at b at).s f in
          record {
            first = S.first;
            here = λ j h. S.here j (omega arith);
            onward =
                λ n f t.
                record {
                  every = every_next (ends_present (tuples_of b)) b at n w S.every at≢ f t;
                  first = S.first;
                  named = S.named;
                  above = above_less key_of compare_keys keys (key_at b space) (key_at b at) (tuples_from b n) (split n f).0 (split n f).1;
                  later = λ j h. S.later j h ∙ pass at n O at≢ f j (λ z. omega arith);
                  here = S.here;
                };
          }
      go false f =
          let other : (key_at b space).s ≡ (key_at b at).s → ⊥ = eqb-false (key_at b space).s (key_at b at).s f in
          let below : (key_at b space).s ≤ (key_at b at).s = less_space (key_at b space) (key_at b at) (split (next b at) refl).0 in
          let seekable : Seekable b at
          = record {
            walkable = w;
            on = O;
            ascends =
                subst (Ascending key_of compare_keys) (sym (tuples_next b at (next b at) w O at≢ refl))
                (at_ascends b at (tuples_from b (next b at)) (split (next b at) refl).1);
          } in
          record {
            first = seekable;
            here = λ j h. S.later j (omega arith);
            onward =
                λ n f t.
                record {
                  every = every_next (ends_present (tuples_of b)) b at n w S.every at≢ f t;
                  first = seekable;
                  named = at≢;
                  above = (split n f).1;
                  later = λ j h. S.later j (omega arith) ∙ pass at n O at≢ f j (λ z. omega arith);
                  here = λ j h. S.later j (omega arith);
                };
          }

-- ---- the tests of one tuple

module _ (ts : Tuples) (k : Key) where
  pub ends_none : k.g ≡ 0 → ends_present ts k ≡ true
  unfolding ends_present
  ends_none g = simp (eq-eqb k.g 0 g)

  pub ends_no_first : k.g ≢ 0 → present (node_key k.s k.n) ts ≡ false → ends_present ts k ≡ false
  unfolding ends_present
  ends_no_first g e = simp (ne_eqb k.g 0 g, e)

  pub ends_no_second : k.g ≢ 0 → present (node_key k.s k.m) ts ≡ false → ends_present ts k ≡ false
  unfolding ends_present
  ends_no_second g e = simp (ne_eqb k.g 0 g, e) (and-false (present (node_key k.s k.n) ts))

  pub ends_both : k.g ≢ 0 → present (node_key k.s k.n) ts ≡ true → present (node_key k.s k.m) ts ≡ true → ends_present ts k ≡ true
  unfolding ends_present
  ends_both g e f = simp (ne_eqb k.g 0 g, e, f)

-- a record with the key has none below it
pub at_not_before : (b : List ℕ) (i : ℕ) (k : Key) → is_at b i k ≡ true → is_before b i k ≡ false
unfolding is_at
at_not_before b i k t =
    failed (is_before b i k) (λ f. never (compare_keys (key_at b i) k) (and_right (not (eqb i 0)) _ t) (before_less b i k f))
  where
    never : (o : Ordering) → compare_is_eq o ≡ true → is_less o ≡ true → ⊥
    never Ordering.lt e f = false≢true e
    never Ordering.eq e f = false≢true f
    never Ordering.gt e f = false≢true e

-- ---- the start

first_universe : (b : List ℕ) (i : ℕ) (ts : Tuples) → ascends_from_universe (tuple_at b i ∷ ts) ≡ true
    → (key_at b i ≡ space_key 0) × Above key_of compare_keys (key_at b i) ts
unfolding ascends_from_universe tuple_at
first_universe b i ts e = (
  same_key_lem (key_at b i) (space_key 0) (and_left (same_key (key_at b i) (space_key 0)) _ e),
  test_above key_of compare_keys keys (key_at b i) ts (and_right (same_key (key_at b i) (space_key 0)) _ e),
)

pub spanning_start : (b : List ℕ) (h n : ℕ) → Sorted b → h ≡ word b 1 → n ≡ next b h → Spanning b h n
spanning_start b h n S e f =
    let w = S.used.walkable in
    let O : Rest b h = on_head b h S.used e in
    let h≢ : h ≢ 0 = head_some b h S e in
    let more = tuples_next b h n w O h≢ f in
    let u = first_universe b h (tuples_from b n) (ap ascends_from_universe (sym more ∙ used_from_head b h e) ∙ S.ascends) in
    record {
      every =
          every_next (ends_present (tuples_of b)) b h n w (every_start (ends_present (tuples_of b)) b h S.used e) h≢ f
          (ends_none (tuples_of b) (key_at b h) (ap (λ (x : Key). x.g) u.0));
      first = from_head b h S e;
      named = h≢;
      above = u.1;
      later = λ j l. ap (present j) (sym (used_from_head b h e)) ∙ pass b w h n O h≢ f j (λ z. omega arith);
      here = λ j l. ap (present j) (sym (used_from_head b h e));
    }

-- ---- one tuple

-- a tuple of the walk, with the first record of its space and its key
pub record AtTuple (b : List ℕ) (space at sp : ℕ) (k : Key) : Type 0 where
  pub walkable : Walkable b
  pub spanning : Spanning b space at
  pub some : at ≢ 0
  pub start : sp ≡ space_start b space at
  pub key : k ≡ key_at b at

pub at_tuple : (b : List ℕ) (space at sp : ℕ) (k : Key) → Walkable b → Spanning b space at → at ≢ 0 → sp ≡ space_start b space at → k ≡ key_at b at
    → AtTuple b space at sp k
at_tuple b space at sp k w S n e f = record { walkable = w; spanning = S; some = n; start = e; key = f }

module _ (b : List ℕ) (space at sp : ℕ) (k : Key) (T : AtTuple b space at sp k) where
  E : Entered b sp at
  E = entered b T.walkable space at sp T.spanning T.some T.start

  e : k ≡ key_at b at
  e = T.key

  pub own_space : Seekable b sp
  own_space = E.first

  -- a search from the first record of the space finds what the store has
  found : (j : Key) → j.s ≡ k.s → (i : Key) → i ≡ j → (r : Bool) → r ≡ present i (tuples_from b sp) → r ≡ present j (tuples_of b)
  found j h i z r g = g ∙ ap (λ (x : Key). present x (tuples_from b sp)) z ∙ sym (E.here j (h ∙ ap (λ (x : Key). x.s) e))

  -- no edge
  pub no_edge : k.g ≡ 0 → ends_present (tuples_of b) (key_at b at) ≡ true
  no_edge g = ap (ends_present (tuples_of b)) (sym e) ∙ ends_none (tuples_of b) k g

  module _ (g : k.g ≢ 0) (i : Key) (one : i ≡ node_key k.s k.n) (r : Bool) (h : r ≡ present i (tuples_from b sp)) where
    pub no_first_end : r ≡ false → ends_present (tuples_of b) (key_at b at) ≡ false
    no_first_end z =
        ap (ends_present (tuples_of b)) (sym e) ∙ ends_no_first (tuples_of b) k g (sym (found (node_key k.s k.n) refl i one r h) ∙ z)

    module _ (j : Key) (two : j ≡ node_key k.s k.m) (seek : ℕ) (K : Seeking b j sp seek) where
      pub no_second_end : (x y : Bool) → x ≡ is_at b seek j → x ≡ false → y ≡ is_before b seek j → y ≡ false
          → ends_present (tuples_of b) (key_at b at) ≡ false
      no_second_end x y ex fx ey fy =
          let a : is_at b seek j ≡ false = sym ex ∙ fx in
          let l : is_before b seek j ≡ false = sym ey ∙ fy in
          ap (ends_present (tuples_of b)) (sym e)
          ∙ ends_no_second (tuples_of b) k g (sym (found (node_key k.s k.m) refl j two (is_at b seek j) (seek_end b j sp seek K l)) ∙ a)

      pub both_ends : r ≡ true → (x : Bool) → x ≡ is_at b seek j → x ≡ true → ends_present (tuples_of b) (key_at b at) ≡ true
      both_ends z x ex tx =
          let a : is_at b seek j ≡ true = sym ex ∙ tx in
          ap (ends_present (tuples_of b)) (sym e)
          ∙ ends_both (tuples_of b) k g (sym (found (node_key k.s k.n) refl i one r h) ∙ z)
          (sym (found (node_key k.s k.m) refl j two (is_at b seek j) (seek_end b j sp seek K (at_not_before b seek j a))) ∙ a)

  -- on to the next tuple, or out with no
  pub go_on : (n : ℕ) → n ≡ next b at → ends_present (tuples_of b) (key_at b at) ≡ true → Spanning b sp n
  go_on n h t = E.onward n h t

  pub leave : ends_present (tuples_of b) (key_at b at) ≡ false → eqb at 0 ≡ every_key (ends_present (tuples_of b)) (tuples_of b)
  leave t = ne_eqb at 0 T.some ∙ every_no (ends_present (tuples_of b)) b at T.walkable T.spanning.every T.some t

pub finish : (b : List ℕ) (space at : ℕ) → Spanning b space at → at ≡ 0 → eqb at 0 ≡ every_key (ends_present (tuples_of b)) (tuples_of b)
finish b space at S z = eq-eqb at 0 z ∙ every_end_lem (ends_present (tuples_of b)) b at S.every z
