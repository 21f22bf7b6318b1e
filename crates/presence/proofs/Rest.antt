-- Walks of the used chain once it is known to end: what is left of the chain, of its tuples and of a test on them.
use mathlib.Core.Bool.{Bool, true, false, not, ◌&&◌, ◌||◌, true≢false}
use mathlib.Core.List.{List, [], ◌∷◌, map}
use mathlib.Core.Logic.{◌≢◌}
use mathlib.Core.Option.{Option}
use mathlib.Core.Path.{◌≡◌, refl, sym, ap, ◌∙◌, subst}
use Prim.Native.Nat.{ℕ, ◌≤◌, ◌<◌, Ordering}
use native.Mathlib.Omega.{arith}
use lib.Dec.{eqb, compare_is_eq}
use lib.ListN.{length}
use borrow.Author.Tests.{eqb-true, eqb-false, ne_eqb}
use Rattle.model.specs.declared.Key.{Key}
use Rattle.model.specs.Ordered.{is_less, holds, Ascending}
use Rattle.model.specs.Keys.{key_of, compare_keys, same_key}
use Rattle.model.specs.Tuples.{Tuples, present}
use Rattle.layouts.specs.Buffer.{word, capacity_of, next, key_at, tuple_at, walk, or_nothing, used_chain, used_of, tuples_of}
use Rattle.model.specs.Rules.{ascends_from_universe, every_key}
use Rattle.layouts.specs.Chains.{Rest}
use Rattle.model.proofs.Bools.{or_left, or_right, and_left, and_right, not_yes}
use Rattle.model.proofs.Order.{keys, opposite}
use Rattle.model.proofs.Ordered.{is_less_true, above_not_held, ascending_tail}
use Rattle.model.proofs.Tuples.{own_key}
use Rattle.layouts.proofs.Chains.{walk_zero}
use Rattle.words.specs.Words.{Inside}
use Rattle.chain.proofs.Walks.{walk_meets, step}
use Rattle.presence.specs.Presence.{Walkable, UsedEnds, records_from, tuples_from, Seekable, is_at, is_before, Held}
use Rattle.layouts.proofs.Sizes.{records_fit}
use Rattle.presence.proofs.ChainEnds.{met_by_walk}

-- ---- one record on

pub record_inside : (b : List ℕ) (i : ℕ) → Walkable b → i ≤ capacity_of b → i ≢ 0 → Inside b i
record_inside b i w h n = record { low = omega arith; high = omega (arith, records_fit b w.least w.most) }

-- the used chain from its head
pub used_from_head : (b : List ℕ) (h : ℕ) → h ≡ word b 1 → tuples_from b h ≡ tuples_of b
unfolding tuples_from records_from tuples_of used_of used_chain
used_from_head b h e = ap (λ (i : ℕ). map (tuple_at b) (or_nothing (walk (next b) (capacity_of b) i))) e

pub on_head : (b : List ℕ) (h : ℕ) → UsedEnds b → h ≡ word b 1 → Rest b h
unfolding records_from used_chain
on_head b h U e =
    let M = met_by_walk b (word b 1) U.ended in
    subst (Rest b) (sym e) (record { high = U.walkable.used_head; rest = records_from b (word b 1); chain = M.chain; within = M.within; short = M.short })

-- the records from a record on are what is left to walk
records_rest : (b : List ℕ) (at : ℕ) (R : Rest b at) → records_from b at ≡ R.rest
unfolding records_from or_nothing
records_rest b at R = ap or_nothing (walk_meets b at R)

-- one record on
records_next : (b : List ℕ) (at n : ℕ) (R : Rest b at) → at ≢ 0 → n ≡ next b at → records_from b at ≡ at ∷ records_from b n
records_next b at n R at≢ e =
    let S = step b at R at≢ in
    records_rest b at R
    ∙ S.split
    ∙ ap (λ (is : List ℕ). at ∷ is) (sym (records_rest b (next b at) S.after) ∙ ap (records_from b) (sym e))

module _ (b : List ℕ) (at n : ℕ) (w : Walkable b) (O : Rest b at) (at≢ : at ≢ 0) (e : n ≡ next b at) where
  pub on_next : Rest b n
  on_next = subst (Rest b) (sym e) (step b at O at≢).after

  pub tuples_next : tuples_from b at ≡ tuple_at b at ∷ tuples_from b n
  unfolding tuples_from
  tuples_next = ap (map (tuple_at b)) (records_next b at n O at≢ e)

  pub fewer : length (records_from b n) < length (records_from b at)
  fewer = omega (arith, ap length (records_next b at n O at≢ e))

pub tuples_none : (b : List ℕ) (at : ℕ) → at ≡ 0 → tuples_from b at ≡ []
unfolding tuples_from records_from or_nothing
tuples_none b at e =
    ap (λ (i : ℕ). map (tuple_at b) (or_nothing (walk (next b) (capacity_of b) i))) e
    ∙ ap (λ (r : Option (List ℕ)). map (tuple_at b) (or_nothing r)) (walk_zero (next b) (capacity_of b))

-- is a key there, at one tuple and after it
pub present_cons : (k : Key) (b : List ℕ) (i : ℕ) (ts : Tuples) → present k (tuple_at b i ∷ ts) ≡ (same_key k (key_at b i) || present k ts)
unfolding holds tuple_at
present_cons k b i ts = refl

-- ---- a test on every key

-- what is left of it at a record
pub record EveryLeft (p : Key → Bool) (b : List ℕ) (at : ℕ) : Type 0 where
  pub on : Rest b at
  pub left : every_key p (tuples_of b) ≡ every_key p (tuples_from b at)
  pub among : (k : Key) → present k (tuples_from b at) ≡ true → present k (tuples_of b) ≡ true

every_cons : (p : Key → Bool) (b : List ℕ) (i : ℕ) (ts : Tuples) → every_key p (tuple_at b i ∷ ts) ≡ (p (key_at b i) && every_key p ts)
unfolding every_key tuple_at
every_cons p b i ts = refl

module _ (p : Key → Bool) (b : List ℕ) where
  pub every_start : (h : ℕ) → UsedEnds b → h ≡ word b 1 → EveryLeft p b h
  every_start h U e =
      record {
        on = on_head b h U e;
        left = ap (every_key p) (sym (used_from_head b h e));
        among = λ k t. ap (present k) (sym (used_from_head b h e)) ∙ t;
      }

  pub every_end_lem : (at : ℕ) → EveryLeft p b at → at ≡ 0 → true ≡ every_key p (tuples_of b)
  unfolding every_key
  every_end_lem at E z = sym (E.left ∙ ap (every_key p) (tuples_none b at z))

  module _ (at n : ℕ) (w : Walkable b) (E : EveryLeft p b at) (at≢ : at ≢ 0) (e : n ≡ next b at) where
    one_more : every_key p (tuples_of b) ≡ (p (key_at b at) && every_key p (tuples_from b n))
    one_more = E.left ∙ ap (every_key p) (tuples_next b at n w E.on at≢ e) ∙ every_cons p b at (tuples_from b n)

    pub every_next : p (key_at b at) ≡ true → EveryLeft p b n
    every_next t =
        record {
          on = on_next b at n w E.on at≢ e;
          left = one_more ∙ ap (λ (a : Bool). a && every_key p (tuples_from b n)) t;
          among =
              λ k h.
              E.among k
              (ap (present k) (tuples_next b at n w E.on at≢ e) ∙ present_cons k b at (tuples_from b n) ∙ or_right (same_key k (key_at b at)) _ h);
        }

  -- a record of the walk is held
  pub every_held : (at : ℕ) → Walkable b → EveryLeft p b at → Held b at
  every_held at w E =
      record {
        high = E.on.high;
        has =
            λ at≢.
            E.among (key_at b at)
            (ap (present (key_at b at)) (tuples_next b at (next b at) w E.on at≢ refl) ∙ present_cons (key_at b at) b at (tuples_from b (next b at))
            ∙ or_left (same_key (key_at b at) (key_at b at)) _ (own_key (key_at b at)));
      }

  -- with the key and the test's answer as the walk has them
  pub every_told_next : (at n : ℕ) (k : Key) (r : Bool) → Walkable b → EveryLeft p b at → at ≢ 0 → n ≡ next b at → k ≡ key_at b at → r ≡ p k → r ≡ true
      → EveryLeft p b n
  every_told_next at n k r w E at≢ e f g t = every_next at n w E at≢ e (ap p (sym f) ∙ sym g ∙ t)

  pub every_no : (at : ℕ) → Walkable b → EveryLeft p b at → at ≢ 0 → p (key_at b at) ≡ false → false ≡ every_key p (tuples_of b)
  every_no at w E at≢ t =
      sym (one_more at (next b at) w E at≢ refl ∙ ap (λ (a : Bool). a && every_key p (tuples_from b (next b at))) t)

  pub every_told_no : (at : ℕ) (k : Key) (r : Bool) → Walkable b → EveryLeft p b at → at ≢ 0 → k ≡ key_at b at → r ≡ p k → r ≡ false
      → false ≡ every_key p (tuples_of b)
  every_told_no at k r w E at≢ f g t = every_no at w E at≢ (ap p (sym f) ∙ sym g ∙ t)

-- the used chain is not empty where its keys ascend from (0,0,0,0)
module _ (b : List ℕ) (U : UsedEnds b) where
  pub ascends_empty : (h : ℕ) → h ≡ word b 1 → h ≡ 0 → false ≡ ascends_from_universe (tuples_of b)
  unfolding ascends_from_universe
  ascends_empty h e z = sym (ap ascends_from_universe (sym (used_from_head b h e) ∙ tuples_none b h z))

-- ---- a key sought in a chain whose keys ascend

-- what is left of the search at a record
pub record Seeking (b : List ℕ) (k : Key) (from at : ℕ) : Type 0 where
  pub seekable : Seekable b at
  pub left : present k (tuples_from b from) ≡ present k (tuples_from b at)

-- the tests of a record
module _ (b : List ℕ) (i : ℕ) (k : Key) where
  before_not_none : is_before b i k ≡ true → i ≢ 0
  unfolding is_before
  before_not_none t = eqb-false i 0 (not_yes (eqb i 0) (and_left (not (eqb i 0)) _ t))

  pub before_less : is_before b i k ≡ true → is_less (compare_keys (key_at b i) k) ≡ true
  unfolding is_before
  before_less t = and_right (not (eqb i 0)) _ t

  before_no : is_before b i k ≡ false → i ≢ 0 → is_less (compare_keys (key_at b i) k) ≡ false
  unfolding is_before
  before_no t n = simp (ne_eqb i 0 n) at t

flip_key : (j k : Key) → compare_keys k j ≡ opposite (compare_keys j k)
flip_key j k = keys.compares.flip j k

not_present : (k : Key) (b : List ℕ) (i : ℕ) (ts : Tuples) → compare_keys k (key_at b i) ≡ Ordering.lt → Ascending key_of compare_keys (tuple_at b i ∷ ts)
    → present k (tuple_at b i ∷ ts) ≡ false
unfolding tuple_at
not_present k b i ts e h = above_not_held key_of compare_keys keys k (tuple_at b i ∷ ts) (e, h)

module _ (b : List ℕ) (k : Key) where
  pub seek_start : (from : ℕ) → Seekable b from → Seeking b k from from
  seek_start from S = record { seekable = S; left = refl }

  module _ (from at : ℕ) (S : Seeking b k from at) where
    seek_on : Rest b at
    seek_on = S.seekable.on

    seek_w : Walkable b
    seek_w = S.seekable.walkable

    pub seek_inside : (r : Bool) → r ≡ is_before b at k → r ≡ true → Inside b at
    seek_inside r f y = record_inside b at seek_w seek_on.high (before_not_none b at k (sym f ∙ y))

    pub seek_next : (n : ℕ) (r : Bool) → r ≡ is_before b at k → r ≡ true → n ≡ next b at → Seeking b k from n
    seek_next n r f y e =
        let t : is_before b at k ≡ true = sym f ∙ y in
        let at≢ = before_not_none b at k t in
        let more = tuples_next b at n seek_w seek_on at≢ e in
        let asc : Ascending key_of compare_keys (tuple_at b at ∷ tuples_from b n) = subst (Ascending key_of compare_keys) more S.seekable.ascends in
        let lower : same_key k (key_at b at) ≡ false
        = ap compare_is_eq (flip_key (key_at b at) k ∙ ap opposite (is_less_true (compare_keys (key_at b at) k) (before_less b at k t))) in
        record {
          seekable =
              record {
                walkable = seek_w;
                on = on_next b at n seek_w seek_on at≢ e;
                ascends = ascending_tail key_of compare_keys keys (tuple_at b at).key (tuples_from b n) asc;
              };
          left =
              S.left ∙ ap (present k) more ∙ present_cons k b at (tuples_from b n) ∙ ap (λ (a : Bool). a || present k (tuples_from b n)) lower;
        }

    pub seek_fewer : (n : ℕ) (r : Bool) → r ≡ is_before b at k → r ≡ true → n ≡ next b at → length (records_from b n) < length (records_from b at)
    seek_fewer n r f y e = fewer b at n seek_w seek_on (before_not_none b at k (sym f ∙ y)) e

    -- found, or nowhere
    pub seek_end : is_before b at k ≡ false → is_at b at k ≡ present k (tuples_from b from)
    unfolding is_at
    seek_end t = go (eqb at 0) refl ∙ sym S.left
      where
        go : (z : Bool) → eqb at 0 ≡ z → (not z && same_key (key_at b at) k) ≡ present k (tuples_from b at)
        go true e = sym (ap (present k) (tuples_none b at (eqb-true at 0 e)) ∙ (unfold holds in refl))
        go false e =
            let at≢ : at ≢ 0 = eqb-false at 0 e in
            let more = tuples_next b at (next b at) seek_w seek_on at≢ refl in
            let asc : Ascending key_of compare_keys (tuple_at b at ∷ tuples_from b (next b at)) = subst (Ascending key_of compare_keys) more S.seekable.ascends in
            by_order (compare_keys (key_at b at) k) refl asc (before_no b at k t at≢) ∙ sym (ap (present k) more)
          where
            by_order : (o : Ordering) → compare_keys (key_at b at) k ≡ o → Ascending key_of compare_keys (tuple_at b at ∷ tuples_from b (next b at))
                → is_less (compare_keys (key_at b at) k) ≡ false
                → same_key (key_at b at) k ≡ present k (tuple_at b at ∷ tuples_from b (next b at))
            by_order Ordering.lt f asc l = absurd (true≢false (sym (ap is_less f) ∙ l))
            by_order Ordering.eq f asc l =
                ap compare_is_eq f
                ∙ sym
                (present_cons k b at (tuples_from b (next b at))
                ∙ ap (λ (a : Bool). a || present k (tuples_from b (next b at))) (ap compare_is_eq (flip_key (key_at b at) k ∙ ap opposite f)))
            by_order Ordering.gt f asc l =
                ap compare_is_eq f ∙ sym (not_present k b at (tuples_from b (next b at)) (flip_key (key_at b at) k ∙ ap opposite f) asc)

    pub seek_told : (r t : Bool) → r ≡ is_at b at k → t ≡ is_before b at k → t ≡ false → r ≡ present k (tuples_from b from)
    seek_told r t e f z = e ∙ seek_end (sym f ∙ z)
