-- What a key's place tells: whether the key is present, which record holds it, and where a new one goes.
use mathlib.Core.Bool.{Bool, true, false, cond, not, ◌||◌, false≢true}
use mathlib.Core.List.{List, [], ◌∷◌, ◌++◌, map, cons-ne-nil}
use mathlib.Core.Logic.{◌≢◌}
use mathlib.Core.Path.{◌≡◌, refl, sym, ap, ◌∙◌, subst}
use Prim.Native.Nat.{ℕ, Ordering}
use native.Mathlib.Omega.{arith}
use lib.Dec.{eqb, compare_is_eq}
use borrow.Author.Tests.{eq-eqb, eqb-true, ne_eqb}
use Rattle.model.specs.declared.Key.{Key}
use Rattle.model.specs.Ordered.{is_less, holds, Above, Ascending}
use Rattle.model.specs.Keys.{key_of, compare_keys, same_key}
use Rattle.model.specs.Tuples.{Tuples, present, value_at}
use Rattle.layouts.specs.Buffer.{capacity_of, key_at, tuple_at, used_of, tuples_of}
use Rattle.model.proofs.Order.{keys, opposite}
use Rattle.model.proofs.Ordered.{is_less_true, Below, below_not_held, above_not_held, ascending_tail, above_less}
use Rattle.layouts.specs.Chains.{Within}
use Rattle.words.specs.Words.{Inside}
use Rattle.words.proofs.Words.{inside}
use Rattle.chain.specs.declared.Place.{Place}
use Rattle.std.specs.Prelude.{Option, Some, None, is_some, unwrap_or}
use Rattle.chain.specs.Links.{Linked, place, place_in, find_in, record_named}
use Rattle.chain.proofs.Walks.{used_rest}
use Rattle.chain.proofs.Paths.{within_right}

-- ---- a record named by a number

pub named_some : (i : ℕ) → is_some (record_named i) ≡ not (eqb i 0)
unfolding record_named
named_some i = go (eqb i 0)
  where
    go : (t : Bool) → is_some (cond t None (Some i)) ≡ not t
    go true = refl
    go false = refl

pub named_record : (i j : ℕ) → record_named i ≡ Some j → (j ≡ i) × (j ≢ 0)
unfolding record_named
named_record i j e = go (eqb i 0) refl e
  where
    go : (t : Bool) → eqb i 0 ≡ t → cond t None (Some i) ≡ Some j → (j ≡ i) × (j ≢ 0)
    go true f e = absurd (false≢true (ap is_some e))
    go false f e =
        let same = sym (ap (λ o. unwrap_or o 0) e) in
        (same, λ z. false≢true (sym f ∙ eq-eqb i 0 (sym same ∙ z)))

pub named_none : (i : ℕ) → record_named i ≡ None → i ≡ 0
unfolding record_named
named_none i e = go (eqb i 0) refl e
  where
    go : (t : Bool) → eqb i 0 ≡ t → cond t None (Some i) ≡ None → i ≡ 0
    go true f e = eqb-true i 0 f
    go false f e = absurd (false≢true (sym (ap is_some e)))

pub none_of : (o : Option ℕ) → ((i : ℕ) → o ≡ Some i → ⊥) → o ≡ None
none_of (Some i) other = absurd (other i refl)
none_of None other = refl

-- the last of some records, or `last` where there are none
abbrev pub last_of : ℕ → List ℕ → ℕ
last_of last [] = last
last_of last (i ∷ is) = last_of i is

-- a list that is not empty ends with its last
pub snoc : (is : List ℕ) → is ≢ [] → (last : ℕ) → (init : List ℕ) × (is ≡ init ++ (last_of last is ∷ []))
snoc [] h last = absurd (h refl)
snoc (i ∷ []) h last = ([], refl)
snoc (i ∷ j ∷ js) h last =
    let r = snoc (j ∷ js) (cons-ne-nil j js) i in (i ∷ r.0, ap (λ (ys : List ℕ). i ∷ ys) r.1)

-- the first of some records, or 0
abbrev pub head_of : List ℕ → ℕ
head_of [] = 0
head_of (i ∷ is) = i

module _ (b : List ℕ) (k : Key) where
  abbrev tuples_at : List ℕ → Tuples
  tuples_at is = map (tuple_at b) is

  -- the first record's key is not below k
  abbrev pub NotBelow : List ℕ → Type 0
  NotBelow [] = Unit {0}
  NotBelow (i ∷ is) = is_less (compare_keys (key_at b i) k) ≡ false

  -- records cut at the key's place
  pub record Parted (last : ℕ) (is : List ℕ) : Type 0 where
    pub pre : List ℕ
    pub post : List ℕ
    pub split : is ≡ pre ++ post
    pub below : Below key_of compare_keys keys k (map (tuple_at b) pre)
    pub stop : NotBelow post
    pub at_place : place_in (key_at b) k last is ≡ place (last_of last pre) (head_of post)

  pub parted : (last : ℕ) (is : List ℕ) → Parted last is
  unfolding place_in tuple_at
  parted last [] = record { pre = []; post = []; split = refl; below = tt; stop = tt; at_place = refl }
  parted last (i ∷ is) = go (is_less (compare_keys (key_at b i) k)) refl (parted i is)
    where
      go : (t : Bool) → is_less (compare_keys (key_at b i) k) ≡ t → Parted i is → Parted last (i ∷ is)
      go true e P =
          record {
            pre = i ∷ P.pre;
            post = P.post;
            split = ap (λ (js : List ℕ). i ∷ js) P.split;
            below = (is_less_true (compare_keys (key_at b i) k) e, P.below);
            stop = P.stop;
            at_place = ap (λ (t : Bool). cond t (place_in (key_at b) k i is) (place last i)) e ∙ P.at_place;
          }
      go false e P =
          record {
            pre = [];
            post = i ∷ is;
            split = refl;
            below = tt;
            stop = e;
            at_place = ap (λ (t : Bool). cond t (place_in (key_at b) k i is) (place last i)) e;
          }

  -- ---- finding

  find_append : (xs ys : List ℕ) → present k (tuples_at xs) ≡ false → find_in (key_at b) k (xs ++ ys) ≡ find_in (key_at b) k ys
  unfolding find_in holds tuple_at
  find_append [] ys e = refl
  find_append (x ∷ xs) ys e = go (same_key k (key_at b x)) (find_append xs ys) e
    where
      go : (t : Bool) → (present k (tuples_at xs) ≡ false → find_in (key_at b) k (xs ++ ys) ≡ find_in (key_at b) k ys)
          → (t || present k (tuples_at xs)) ≡ false → cond t x (find_in (key_at b) k (xs ++ ys)) ≡ find_in (key_at b) k ys
      go true ih f = absurd (false≢true (sym f))
      go false ih f = ih f

  find_absent : (xs : List ℕ) → present k (tuples_at xs) ≡ false → find_in (key_at b) k xs ≡ 0
  unfolding find_in holds tuple_at
  find_absent [] e = refl
  find_absent (x ∷ xs) e = go (same_key k (key_at b x)) (find_absent xs) e
    where
      go : (t : Bool) → (present k (tuples_at xs) ≡ false → find_in (key_at b) k xs ≡ 0) → (t || present k (tuples_at xs)) ≡ false
          → cond t x (find_in (key_at b) k xs) ≡ 0
      go true ih f = absurd (false≢true (sym f))
      go false ih f = ih f

  -- a record that is not below and not the key's own is above, and so are all after it
  pub above_all : (i : ℕ) (is : List ℕ) → NotBelow (i ∷ is) → same_key k (key_at b i) ≡ false → Ascending key_of compare_keys (tuples_at (i ∷ is))
      → Above key_of compare_keys k (tuples_at (i ∷ is))
  unfolding tuple_at
  above_all i is stop differs h = (go (compare_keys (key_at b i) k) refl, h)
    where
      back : compare_keys k (key_at b i) ≡ opposite (compare_keys (key_at b i) k)
      back = keys.compares.flip (key_at b i) k

      go : (o : Ordering) → compare_keys (key_at b i) k ≡ o → compare_keys k (key_at b i) ≡ Ordering.lt
      go Ordering.lt e = absurd (false≢true (sym stop ∙ ap is_less e))
      go Ordering.eq e = absurd (false≢true (sym differs ∙ ap compare_is_eq (back ∙ ap opposite e)))
      go Ordering.gt e = back ∙ ap opposite e

  ascending_right : (xs ys : List ℕ) → Ascending key_of compare_keys (tuples_at (xs ++ ys)) → Ascending key_of compare_keys (tuples_at ys)
  ascending_right [] ys h = h
  ascending_right (x ∷ xs) ys h = ascending_right xs ys (ascending_tail key_of compare_keys keys _ (tuples_at (xs ++ ys)) h)

  -- what stands at the key's place
  pub record AtPlace (before at : ℕ) : Type 0 where
    pub pre : List ℕ
    pub post : List ℕ
    pub split : used_of b ≡ pre ++ post
    pub below : Below key_of compare_keys keys k (map (tuple_at b) pre)
    pub stop : NotBelow post
    pub ascends : Ascending key_of compare_keys (map (tuple_at b) post)
    pub last : before ≡ last_of 0 pre
    pub head : at ≡ head_of post
    pub within : Within (capacity_of b) post

  pub at_place : (p : Place) → Linked b → p ≡ place_in (key_at b) k 0 (used_of b) → AtPlace p.before p.at
  unfolding used_rest tuples_of
  at_place p L e =
      let P = parted 0 (used_of b) in
      let q : p ≡ place (last_of 0 P.pre) (head_of P.post) = e ∙ P.at_place in
      record {
        pre = P.pre;
        post = P.post;
        split = P.split;
        below = P.below;
        stop = P.stop;
        ascends = ascending_right P.pre P.post (subst (λ (is : List ℕ). Ascending key_of compare_keys (map (tuple_at b) is)) P.split L.ascends);
        last = ap (λ (r : Place). r.before) q;
        head = ap (λ (r : Place). r.at) q;
        within = within_right (capacity_of b) P.pre P.post (subst (Within (capacity_of b)) P.split (used_rest b L.chains).within);
      }

  find_post : (is : List ℕ) → NotBelow is → Within (capacity_of b) is → Ascending key_of compare_keys (tuples_at is)
      → (t : Bool) → t ≡ same_key k (key_at b (head_of is)) → find_in (key_at b) k is ≡ cond (eqb (head_of is) 0) 0 (cond t (head_of is) 0)
  unfolding find_in
  find_post [] stop w h t e = refl
  find_post (i ∷ is) stop w h t e =
      sym (ap (λ (u : Bool). cond u 0 (cond t i 0)) (ne_eqb i 0 (λ z. omega (arith, w.0))) ∙ go t e)
    where
      go : (t : Bool) → t ≡ same_key k (key_at b i) → cond t i 0 ≡ cond (same_key k (key_at b i)) i (find_in (key_at b) k is)
      go true f = ap (λ (u : Bool). cond u i (find_in (key_at b) k is)) f
      go false f =
          let all = above_all i is stop (sym f) h in
          sym (find_absent is (above_not_held key_of compare_keys keys k (tuples_at is)
          (above_less key_of compare_keys keys k _ (tuples_at is) all.0 all.1)))
          ∙ ap (λ (u : Bool). cond u i (find_in (key_at b) k is)) f

  -- the record that holds the key stands at its place
  pub find_at : (before at : ℕ) → AtPlace before at → (t : Bool) → t ≡ same_key k (key_at b at)
      → find_in (key_at b) k (used_of b) ≡ cond (eqb at 0) 0 (cond t at 0)
  find_at before at A t e =
      ap (find_in (key_at b) k) A.split
      ∙ find_append A.pre A.post (below_not_held key_of compare_keys keys k (tuples_at A.pre) A.below)
      ∙ find_post A.post A.stop A.within A.ascends t (e ∙ ap (λ (i : ℕ). same_key k (key_at b i)) A.head)
      ∙ ap (λ (i : ℕ). cond (eqb i 0) 0 (cond t i 0)) (sym A.head)

  -- ---- what the record found tells

  found_present : (is : List ℕ) → Within (capacity_of b) is → present k (tuples_at is) ≡ not (eqb (find_in (key_at b) k is) 0)
  unfolding find_in holds tuple_at
  found_present [] w = refl
  found_present (i ∷ is) w = go (same_key k (key_at b i)) (found_present is w.2)
    where
      go : (t : Bool) → present k (tuples_at is) ≡ not (eqb (find_in (key_at b) k is) 0)
          → (t || present k (tuples_at is)) ≡ not (eqb (cond t i (find_in (key_at b) k is)) 0)
      go true ih = sym (ap not (ne_eqb i 0 (λ z. omega (arith, w.0))))
      go false ih = ih

  found_value : (is : List ℕ) → Within (capacity_of b) is
      → value_at k (tuples_at is) ≡ cond (eqb (find_in (key_at b) k is) 0) 0 (tuple_at b (find_in (key_at b) k is)).value
  unfolding find_in value_at tuple_at
  found_value [] w = refl
  found_value (i ∷ is) w = go (same_key k (key_at b i)) (found_value is w.2)
    where
      go : (t : Bool) → value_at k (tuples_at is) ≡ cond (eqb (find_in (key_at b) k is) 0) 0 (tuple_at b (find_in (key_at b) k is)).value
          → cond t (tuple_at b i).value (value_at k (tuples_at is))
          ≡ cond (eqb (cond t i (find_in (key_at b) k is)) 0) 0 (tuple_at b (cond t i (find_in (key_at b) k is))).value
      go true ih = sym (ap (λ (u : Bool). cond u 0 (tuple_at b i).value) (ne_eqb i 0 (λ z. omega (arith, w.0))))
      go false ih = ih

  pub present_found : (L : Linked b) → present k (tuples_of b) ≡ not (eqb (find_in (key_at b) k (used_of b)) 0)
  unfolding used_rest tuples_of
  present_found L = found_present (used_of b) (used_rest b L.chains).within

  pub value_found : (L : Linked b)
      → value_at k (tuples_of b) ≡ cond (eqb (find_in (key_at b) k (used_of b)) 0) 0 (tuple_at b (find_in (key_at b) k (used_of b))).value
  unfolding used_rest tuples_of
  value_found L = found_value (used_of b) (used_rest b L.chains).within

  -- ---- the answers of `find`, `has` and `value_at`

  head_inside : (is : List ℕ) → Within (capacity_of b) is → head_of is ≢ 0 → Inside b (head_of is)
  head_inside [] w h = absurd (h refl)
  head_inside (i ∷ is) w h = inside b i w.0 w.1

  module _ (p : Place) (L : Linked b) (e : p ≡ place_in (key_at b) k 0 (used_of b)) where
    here : AtPlace p.before p.at
    here = at_place p L e

    pub place_inside : p.at ≢ 0 → Inside b p.at
    place_inside h =
        subst (Inside b) (sym here.head) (head_inside here.post here.within (λ z. h (here.head ∙ z)))

    none_found : p.at ≡ 0 → 0 ≡ find_in (key_at b) k (used_of b)
    none_found z =
        sym (find_at p.before p.at here (same_key k (key_at b p.at)) refl
        ∙ ap (λ (t : Bool). cond t 0 (cond (same_key k (key_at b p.at)) p.at 0)) (eq-eqb p.at 0 z))

    find_some : p.at ≢ 0 → (key : Key) (t : Bool) → key ≡ key_at b p.at → t ≡ same_key k key
        → cond t p.at 0 ≡ find_in (key_at b) k (used_of b)
    find_some h key t ek et =
        sym (find_at p.before p.at here t (et ∙ ap (same_key k) ek)
        ∙ ap (λ (u : Bool). cond u 0 (cond t p.at 0)) (ne_eqb p.at 0 h))

    pub find_none : p.at ≡ 0 → None ≡ record_named (find_in (key_at b) k (used_of b))
    unfolding record_named
    find_none z = ap record_named (none_found z)

    pub find_yes : p.at ≢ 0 → (key : Key) (t : Bool) → key ≡ key_at b p.at → t ≡ same_key k key → t ≡ true
        → Some p.at ≡ record_named (find_in (key_at b) k (used_of b))
    unfolding record_named
    find_yes h key t ek et is =
        sym (ap (λ (u : Bool). cond u None (Some p.at)) (ne_eqb p.at 0 h))
        ∙ ap record_named (sym (ap (λ (u : Bool). cond u p.at 0) is) ∙ find_some h key t ek et)

    pub find_no : p.at ≢ 0 → (key : Key) (t : Bool) → key ≡ key_at b p.at → t ≡ same_key k key → t ≡ false
        → None ≡ record_named (find_in (key_at b) k (used_of b))
    unfolding record_named
    find_no h key t ek et is = ap record_named (sym (ap (λ (u : Bool). cond u p.at 0) is) ∙ find_some h key t ek et)

  find_within : (is : List ℕ) → Within (capacity_of b) is → find_in (key_at b) k is ≢ 0 → Inside b (find_in (key_at b) k is)
  unfolding find_in
  find_within [] w h = absurd (h refl)
  find_within (i ∷ is) w h = go (same_key k (key_at b i)) (find_within is w.2) h
    where
      go : (t : Bool) → (find_in (key_at b) k is ≢ 0 → Inside b (find_in (key_at b) k is)) → cond t i (find_in (key_at b) k is) ≢ 0
          → Inside b (cond t i (find_in (key_at b) k is))
      go true ih d = inside b i w.0 w.1
      go false ih d = ih d

  module _ (found : Option ℕ) (L : Linked b) (e : found ≡ record_named (find_in (key_at b) k (used_of b))) where
    pub has_found : (t : Bool) → t ≡ is_some found → t ≡ present k (tuples_of b)
    has_found t is = is ∙ ap is_some e ∙ named_some (find_in (key_at b) k (used_of b)) ∙ sym (present_found L)

    pub found_record : (at : ℕ) → found ≡ Some at → (at ≡ find_in (key_at b) k (used_of b)) × (at ≢ 0)
    found_record at is = named_record (find_in (key_at b) k (used_of b)) at (sym e ∙ is)

    pub found_inside : (at : ℕ) → found ≡ Some at → Inside b at
    unfolding used_rest
    found_inside at is =
        let r = found_record at is in
        subst (Inside b) (sym r.0) (find_within (used_of b) (used_rest b L.chains).within (λ z. r.1 (r.0 ∙ z)))

    pub value_none : found ≡ None → 0 ≡ value_at k (tuples_of b)
    value_none is =
        let z = named_none (find_in (key_at b) k (used_of b)) (sym e ∙ is) in
        sym (value_found L ∙ ap (λ (i : ℕ). cond (eqb i 0) 0 (tuple_at b i).value) z)

    pub value_some : (at : ℕ) → found ≡ Some at → (v : ℕ) → v ≡ (tuple_at b at).value → v ≡ value_at k (tuples_of b)
    unfolding tuple_at
    value_some at is v ev =
        let r = found_record at is in
        ev
        ∙ sym (value_found L
        ∙ ap (λ (i : ℕ). cond (eqb i 0) 0 (tuple_at b i).value) (sym r.0)
        ∙ ap (λ (t : Bool). cond t 0 (tuple_at b at).value) (ne_eqb at 0 r.1))
