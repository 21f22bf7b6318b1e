-- Laws of sets as ascending lists (specs/Ordered.antt).
use mathlib.Core.Bool.{Bool, true, false, ◌||◌, or_assoc, false≢true, true≢false}
use mathlib.Core.List.{List, [], ◌∷◌, ◌++◌}
use mathlib.Core.Logic.{⊎_elim}
use mathlib.Core.Path.{◌≡◌, refl, sym, ap, ap₂, ◌∙◌, subst}
use Prim.Native.Nat.{suc, Ordering}
use lib.Dec.{compare_is_eq}
use lib.ListN.{length}
use Rattle.model.specs.Ordered.{by_order, is_less, holds, put, ascends_from, Above, Ascending}
use Rattle.model.proofs.Bools.{or_cases, or_left, and_left, and_right, and_both, clash}
use Rattle.model.proofs.Order.{IsOrder, opposite, lt≢eq, lt≢gt}

or_again : (a b : Bool) → (a || b) ≡ (a || (a || b))
or_again true b = refl
or_again false b = refl

or_swap : (a b c : Bool) → (a || (b || c)) ≡ (b || (a || c))
or_swap true true c = refl
or_swap true false c = refl
or_swap false b c = refl

pub is_eq_true : (o : Ordering) → compare_is_eq o ≡ true → o ≡ Ordering.eq
is_eq_true Ordering.lt e = absurd (false≢true e)
is_eq_true Ordering.eq e = refl
is_eq_true Ordering.gt e = absurd (false≢true e)

pub is_less_true : (o : Ordering) → is_less o ≡ true → o ≡ Ordering.lt
is_less_true Ordering.lt e = refl
is_less_true Ordering.eq e = absurd (false≢true e)
is_less_true Ordering.gt e = absurd (false≢true e)

module _ {A K : Type 0} (key : A → K) (order : K → K → Ordering) (L : IsOrder order) where
  -- more is less the other way round
  flipped : (j k : K) → order j k ≡ Ordering.gt → order k j ≡ Ordering.lt
  flipped j k e = L.compares.flip j k ∙ ap opposite e

  -- a key is held at an element exactly when it is the element's
  pub at_element : (k j : K) → compare_is_eq (order k j) ≡ true → k ≡ j
  at_element k j e = L.same k j (is_eq_true (order k j) e)

  pub self : (k : K) → compare_is_eq (order k k) ≡ true
  self k = ap compare_is_eq (L.compares.reflexive k)

  -- after `put` the element's key is held, and what was held before
  pub holds_put : (k : K) (a : A) (xs : List A)
      → holds key order k (put key order a xs) ≡ (compare_is_eq (order k (key a)) || holds key order k xs)
  unfolding holds put
  holds_put k a [] = refl
  holds_put k a (x ∷ xs) = go (order (key a) (key x)) refl (holds_put k a xs)
    where
      go : (o : Ordering) → order (key a) (key x) ≡ o → holds key order k (put key order a xs) ≡ (compare_is_eq (order k (key a)) || holds key order k xs)
          → holds key order k (by_order o (a ∷ x ∷ xs) (x ∷ xs) (x ∷ put key order a xs))
          ≡ (compare_is_eq (order k (key a)) || (compare_is_eq (order k (key x)) || holds key order k xs))
      go Ordering.lt e ih = refl
      go Ordering.eq e ih =
          or_again (compare_is_eq (order k (key x))) (holds key order k xs)
          ∙ ap (λ (j : K). compare_is_eq (order k j) || (compare_is_eq (order k (key x)) || holds key order k xs)) (sym (L.same (key a) (key x) e))
      go Ordering.gt e ih =
          ap (λ (b : Bool). compare_is_eq (order k (key x)) || b) ih ∙ or_swap (compare_is_eq (order k (key x))) (compare_is_eq (order k (key a))) (holds key order k xs)

  -- ---- ascending

  pub above_less : (j k : K) (xs : List A) → order j k ≡ Ordering.lt → Above key order k xs → Above key order j xs
  above_less j k [] e h = tt
  above_less j k (x ∷ xs) e h = (L.compares.transitive j k (key x) e h.0, h.1)

  pub ascending_tail : (k : K) (xs : List A) → Above key order k xs → Ascending key order xs
  ascending_tail k [] h = tt
  ascending_tail k (x ∷ xs) h = h.1

  -- a key below all is not held
  pub above_not_held : (k : K) (xs : List A) → Above key order k xs → holds key order k xs ≡ false
  unfolding holds
  above_not_held k [] h = refl
  above_not_held k (x ∷ xs) h =
      ap₂ ◌||◌ (ap compare_is_eq h.0) (above_not_held k xs (above_less k (key x) xs h.0 h.1))

  -- a key that is held is above
  pub above_held : (k j : K) (xs : List A) → Above key order k xs → holds key order j xs ≡ true → order k j ≡ Ordering.lt
  unfolding holds
  above_held k j [] h e = absurd (false≢true e)
  above_held k j (x ∷ xs) h e =
      ⊎_elim (λ f. subst (λ (i : K). order k i ≡ Ordering.lt) (sym (at_element j (key x) f)) h.0)
      (λ f. L.compares.transitive k (key x) j h.0 (above_held (key x) j xs h.1 f))
      (or_cases (compare_is_eq (order j (key x))) (holds key order j xs) e)

  pub put_above : (k : K) (a : A) (xs : List A) → Above key order k xs → order k (key a) ≡ Ordering.lt → Above key order k (put key order a xs)
  unfolding put
  put_above k a [] h e = (e, tt)
  put_above k a (x ∷ xs) h e = go (order (key a) (key x)) refl (put_above (key x) a xs h.1)
    where
      go : (o : Ordering) → order (key a) (key x) ≡ o → (order (key x) (key a) ≡ Ordering.lt → Above key order (key x) (put key order a xs))
          → Above key order k (by_order o (a ∷ x ∷ xs) (x ∷ xs) (x ∷ put key order a xs))
      go Ordering.lt f ih = (e, (f, h.1))
      go Ordering.eq f ih = h
      go Ordering.gt f ih = (h.0, ih (flipped (key a) (key x) f))

  pub put_ascending : (a : A) (xs : List A) → Ascending key order xs → Ascending key order (put key order a xs)
  unfolding put
  put_ascending a [] h = tt
  put_ascending a (x ∷ xs) h = go (order (key a) (key x)) refl
    where
      go : (o : Ordering) → order (key a) (key x) ≡ o → Ascending key order (by_order o (a ∷ x ∷ xs) (x ∷ xs) (x ∷ put key order a xs))
      go Ordering.lt f = (f, h)
      go Ordering.eq f = h
      go Ordering.gt f = put_above (key x) a xs h (flipped (key a) (key x) f)

  -- what is held is not put again
  pub put_held : (a : A) (xs : List A) → Ascending key order xs → holds key order (key a) xs ≡ true → put key order a xs ≡ xs
  unfolding holds put
  put_held a [] h e = absurd (false≢true e)
  put_held a (x ∷ xs) h e = go (order (key a) (key x)) refl (put_held a xs (ascending_tail (key x) xs h))
    where
      go : (o : Ordering) → order (key a) (key x) ≡ o → (holds key order (key a) xs ≡ true → put key order a xs ≡ xs)
          → by_order o (a ∷ x ∷ xs) (x ∷ xs) (x ∷ put key order a xs) ≡ x ∷ xs
      go Ordering.lt f ih = absurd (clash e (above_not_held (key a) (x ∷ xs) (f, h)))
      go Ordering.eq f ih = refl
      go Ordering.gt f ih =
          ap (λ (ys : List A). x ∷ ys) (ih (subst (λ (o : Ordering). (compare_is_eq o || holds key order (key a) xs) ≡ true) f e))

  -- what is not held makes the list longer by one
  pub put_length : (a : A) (xs : List A) → holds key order (key a) xs ≡ false → length (put key order a xs) ≡ suc (length xs)
  unfolding holds put
  put_length a [] e = refl
  put_length a (x ∷ xs) e = go (order (key a) (key x)) refl (put_length a xs)
    where
      go : (o : Ordering) → order (key a) (key x) ≡ o → (holds key order (key a) xs ≡ false → length (put key order a xs) ≡ suc (length xs))
          → length (by_order o (a ∷ x ∷ xs) (x ∷ xs) (x ∷ put key order a xs)) ≡ suc (suc (length xs))
      go Ordering.lt f ih = refl
      go Ordering.eq f ih = absurd (true≢false (subst (λ (o : Ordering). (compare_is_eq o || holds key order (key a) xs) ≡ false) f e))
      go Ordering.gt f ih = ap suc (ih (subst (λ (o : Ordering). (compare_is_eq o || holds key order (key a) xs) ≡ false) f e))

  -- ---- a list cut at a key's place

  -- all keys are below k
  abbrev pub Below : K → List A → Type 0
  Below k [] = Unit {0}
  Below k (x ∷ xs) = (order (key x) k ≡ Ordering.lt) × Below k xs

  -- less is more the other way round
  more : (j k : K) → order j k ≡ Ordering.lt → order k j ≡ Ordering.gt
  more j k e = L.compares.flip j k ∙ ap opposite e

  pub holds_append : (k : K) (xs ys : List A) → holds key order k (xs ++ ys) ≡ (holds key order k xs || holds key order k ys)
  unfolding holds
  holds_append k [] ys = refl
  holds_append k (x ∷ xs) ys =
      ap (λ (b : Bool). compare_is_eq (order k (key x)) || b) (holds_append k xs ys)
      ∙ sym (or_assoc (compare_is_eq (order k (key x))) (holds key order k xs) (holds key order k ys))

  pub below_not_held : (k : K) (xs : List A) → Below k xs → holds key order k xs ≡ false
  unfolding holds
  below_not_held k [] h = refl
  below_not_held k (x ∷ xs) h = ap₂ ◌||◌ (ap compare_is_eq (more (key x) k h.0)) (below_not_held k xs h.1)

  -- an element goes behind those whose keys are below its own
  pub put_below : (a : A) (xs ys : List A) → Below (key a) xs → put key order a (xs ++ ys) ≡ xs ++ put key order a ys
  unfolding put
  put_below a [] ys h = refl
  put_below a (x ∷ xs) ys h =
      ap (λ (o : Ordering). by_order o (a ∷ x ∷ (xs ++ ys)) (x ∷ (xs ++ ys)) (x ∷ put key order a (xs ++ ys))) (more (key x) (key a) h.0)
      ∙ ap (λ (zs : List A). x ∷ zs) (put_below a xs ys h.1)

  -- and before one whose key is above
  pub put_before : (a x : A) (xs : List A) → order (key a) (key x) ≡ Ordering.lt → put key order a (x ∷ xs) ≡ a ∷ x ∷ xs
  unfolding put
  put_before a x xs e = ap (λ (o : Ordering). by_order o (a ∷ x ∷ xs) (x ∷ xs) (x ∷ put key order a xs)) e

  -- ---- one list for one set

  -- the first of an ascending list that holds what another holds is not above the other's first
  not_above : (x y : A) (xs ys : List A) → Above key order (key y) ys → holds key order (key x) (y ∷ ys) ≡ true → order (key x) (key y) ≡ Ordering.lt → ⊥
  unfolding holds
  not_above x y xs ys h e lt =
      ⊎_elim (λ f. lt≢eq (sym lt ∙ is_eq_true (order (key x) (key y)) f))
      (λ f. lt≢gt (sym lt ∙ more (key y) (key x) (above_held (key y) (key x) ys h f)))
      (or_cases (compare_is_eq (order (key x) (key y))) (holds key order (key x) ys) e)

  pub same_members : ((a b : A) → key a ≡ key b → a ≡ b) → (xs ys : List A) → Ascending key order xs → Ascending key order ys
      → ((k : K) → holds key order k xs ≡ holds key order k ys) → xs ≡ ys
  unfolding holds
  same_members inj [] [] h i same = refl
  same_members inj [] (y ∷ ys) h i same = absurd (false≢true (same (key y) ∙ or_left _ (holds key order (key y) ys) (self (key y))))
  same_members inj (x ∷ xs) [] h i same = absurd (false≢true (sym (same (key x)) ∙ or_left _ (holds key order (key x) xs) (self (key x))))
  same_members inj (x ∷ xs) (y ∷ ys) h i same =
      go (order (key x) (key y)) refl
      (same_members inj xs ys (ascending_tail (key x) xs h) (ascending_tail (key y) ys i))
    where
      has_x : holds key order (key x) (y ∷ ys) ≡ true
      has_x = sym (same (key x)) ∙ or_left _ (holds key order (key x) xs) (self (key x))

      has_y : holds key order (key y) (x ∷ xs) ≡ true
      has_y = same (key y) ∙ or_left _ (holds key order (key y) ys) (self (key y))

      tails : key x ≡ key y → (k : K) → holds key order k xs ≡ holds key order k ys
      tails e k = part (compare_is_eq (order k (key x))) refl
        where
          part : (t : Bool) → compare_is_eq (order k (key x)) ≡ t → holds key order k xs ≡ holds key order k ys
          part true f =
              subst (λ (j : K). holds key order j xs ≡ holds key order j ys) (sym (at_element k (key x) f))
              (above_not_held (key x) xs h ∙ sym (subst (λ (j : K). holds key order j ys ≡ false) (sym e) (above_not_held (key y) ys i)))
          part false f =
              ap (λ (t : Bool). t || holds key order k xs) (sym f)
              ∙ same k
              ∙ ap (λ (t : Bool). t || holds key order k ys) (ap (λ (j : K). compare_is_eq (order k j)) (sym e) ∙ f)

      go : (o : Ordering) → order (key x) (key y) ≡ o → (((k : K) → holds key order k xs ≡ holds key order k ys) → xs ≡ ys) → x ∷ xs ≡ y ∷ ys
      go Ordering.lt e ih = absurd (not_above x y xs ys i has_x e)
      go Ordering.eq e ih = let k : key x ≡ key y = L.same (key x) (key y) e in ap₂ ◌∷◌ (inj x y k) (ih (tails k))
      go Ordering.gt e ih = absurd (not_above y x ys xs h has_y (flipped (key x) (key y) e))

  -- ---- the test

  pub test_above : (k : K) (xs : List A) → ascends_from key order k xs ≡ true → Above key order k xs
  unfolding ascends_from
  test_above k [] e = tt
  test_above k (x ∷ xs) e =
      (is_less_true (order k (key x)) (and_left (is_less (order k (key x))) _ e), test_above (key x) xs (and_right (is_less (order k (key x))) _ e))

  pub above_test : (k : K) (xs : List A) → Above key order k xs → ascends_from key order k xs ≡ true
  unfolding ascends_from
  above_test k [] h = refl
  above_test k (x ∷ xs) h = and_both (is_less (order k (key x))) _ (ap is_less h.0) (above_test (key x) xs h.1)
