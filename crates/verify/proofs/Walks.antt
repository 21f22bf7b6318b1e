-- Walks of at most C records, and what they say of the two chains.
use mathlib.Core.Bool.{Bool, true, false, cond, not, ◌&&◌, ◌||◌, and-false}
use mathlib.Core.List.{List, [], ◌∷◌, ◌++◌}
use mathlib.Core.Logic.{◌≢◌}
use mathlib.Core.Option.{none, some, map}
use mathlib.Core.Option as maybe
use mathlib.Core.Path.{◌≡◌, refl, sym, ap, ap₂, ◌∙◌, subst}
use Prim.Native.Nat.{ℕ, zero, suc, ◌+◌, ◌-◌, ◌≤◌, ◌<◌}
use native.Mathlib.Omega.{arith}
use lib.Dec.{eqb, leb, ltb}
use lib.ListN.{length}
use borrow.Author.Tests.{eqb-true, eqb-false, eq-eqb, ne_eqb, le-leb, lt-leb, leb-true, ltb-true, ltb-false}
use Rattle.layouts.specs.Buffer.{word, capacity_of, next, walk, ends, or_nothing, used_chain, free_chain, used_of, free_of, count}
use Rattle.layouts.specs.Chains.{Chain, Within}
use Rattle.model.proofs.Bools.{and_left, and_right, and_both}
use Rattle.layouts.proofs.Chains.{walk_chain, chain_within, count_append, miss}
use Rattle.model.proofs.Numbers.{every_up_to_lem, up_to_every}
use Rattle.verify.specs.declared.chains.Walk.{Walk}
use Rattle.verify.specs.declared.chains.Walked.{Walked}
use Rattle.presence.specs.Presence.{Walkable, all_within, ends_within}
use Rattle.verify.specs.Checks.{nexts_within, met_once, chains_right, links_right, steps, last_met, walked_on, walked_from, stepped, in_run, along_run, FreeWalk}
use Rattle.layouts.proofs.Sizes.{some_record}
use Rattle.presence.proofs.ChainEnds.{Met, met_by_walk}
use Rattle.verify.proofs.Once.{last_or, once_test}
use Rattle.std.specs.Prelude.{Option, is_some, Some, None}
use Rattle.std.proofs.lemmas.Option.{same_Some}

-- ---- one walk

-- a record of at most C more
ends_more : (C i : ℕ) (r : maybe.Option (List ℕ)) → leb i C ≡ true → ends_within C (map (λ (is : List ℕ). i ∷ is) r) ≡ ends_within C r
unfolding ends_within all_within
ends_more C i none t = refl
ends_more C i (some is) t = ap (λ (a : Bool). a && all_within C is) t

-- a record above C
ends_far : (C i : ℕ) (r : maybe.Option (List ℕ)) → leb i C ≡ false → ends_within C (map (λ (is : List ℕ). i ∷ is) r) ≡ false
unfolding ends_within all_within
ends_far C i none t = refl
ends_far C i (some is) t = ap (λ (a : Bool). a && all_within C is) t

-- what is found: these, where the chain ends
abbrev found : Bool → ℕ → ℕ → Option Walked
found t count last = cond t (Some (record { count = count; last = last })) None

module _ (b : List ℕ) where
  pub walked_on_lem : (left at last n : ℕ) → at ≢ 0 → left ≢ 0 → left ≤ capacity_of b → at ≤ capacity_of b → n ≡ next b at
      → walked_on b (record { at = n; left = left - 1; last = at }) ≡ walked_on b (record { at = at; left = left; last = last })
  unfolding walked_on walk steps last_met
  walked_on_lem zero at last n at≢ left≢ few high e = absurd (left≢ refl)
  walked_on_lem (suc left) zero last n at≢ left≢ few high e = absurd (at≢ refl)
  walked_on_lem (suc left) (suc i) last n at≢ left≢ few high e =
      let z : suc left - 1 ≡ left = omega arith in
      let S : ℕ = steps (next b) left (next b (suc i)) in
      let q : (capacity_of b - left) + S ≡ (capacity_of b - suc left) + suc S = omega arith in
      ap₂ (λ (m k : ℕ). walked_on b (record { at = m; left = k; last = suc i })) e z
      ∙ ap₂ (λ (t : Bool) (c : ℕ). found t c (last_met (next b) left (next b (suc i)) (suc i)))
      (sym (ends_more (capacity_of b) (suc i) (walk (next b) left (next b (suc i))) (le-leb (suc i) (capacity_of b) high))) q

  run_told : (at : ℕ) → in_run b at ≡ true → (at ≢ 0) × (at ≤ capacity_of b) × (at + 1 ≡ next b at)
  unfolding in_run
  run_told at e =
      let low = ltb-true 0 at (and_left (ltb 0 at) _ e) in
      let more = and_right (ltb 0 at) _ e in (
        λ z. absurd (omega (arith, low, z)),
        leb-true at (capacity_of b) (and_left (leb at (capacity_of b)) _ more),
        sym (eqb-true (next b at) (at + 1) (and_right (leb at (capacity_of b)) _ more)),
      )

  pub run_low : (at : ℕ) → in_run b at ≡ true → at ≤ capacity_of b
  run_low at e = (run_told at e).1

  -- a walk that has passed so many of the records that it may meet
  module _ (most passed at last : ℕ) where
    module _ (h : passed < most) where
      more : most - passed ≡ suc (most - (passed + 1))
      more = omega arith

      along_one : along_run b (most - passed) at last
          ≡ cond (in_run b at) (along_run b (most - (passed + 1)) (at + 1) at) (record { at = at; left = most - passed; last = last })
      unfolding along_run
      along_one =
          ap (λ (k : ℕ). along_run b k at last) more
          ∙ ap (λ (k : ℕ). cond (in_run b at) (along_run b (most - (passed + 1)) (at + 1) at) (record { at = at; left = k; last = last })) (sym more)

      pub along_on : in_run b at ≡ true → along_run b (most - (passed + 1)) (at + 1) at ≡ along_run b (most - passed) at last
      along_on e =
          sym
          (along_one
          ∙ ap (λ (t : Bool). cond t (along_run b (most - (passed + 1)) (at + 1) at) (record { at = at; left = most - passed; last = last })) e)

  pub walked_end : (left at last : ℕ) → at ≡ 0
      → Some (record { count = capacity_of b - left; last = last }) ≡ walked_on b (record { at = at; left = left; last = last })
  walked_end left at last z = go left ∙ ap (λ (i : ℕ). walked_on b (record { at = i; left = left; last = last })) (sym z)
    where
      none_more : (k : ℕ) → k ≡ k + 0
      none_more k = omega arith

      go : (k : ℕ) → Some (record { count = capacity_of b - k; last = last }) ≡ walked_on b (record { at = 0; left = k; last = last })
      go zero = unfold walked_on walk steps last_met ends_within all_within in ap (λ (c : ℕ). found true c last) (none_more (capacity_of b - 0))
      go (suc k) = unfold walked_on walk steps last_met ends_within all_within in ap (λ (c : ℕ). found true c last) (none_more (capacity_of b - suc k))

  -- a walk along records that follow one another finds what the walk itself finds
  pub along_same : (left at last : ℕ) → left ≤ capacity_of b
      → (walked_on b (along_run b left at last) ≡ walked_on b (record { at = at; left = left; last = last })) × ((along_run b left at last).left ≤ left)
  unfolding along_run
  along_same zero at last few = (refl, omega arith)
  along_same (suc left) at last few = go (in_run b at) refl (along_same left (at + 1) at (omega (arith, few)))
    where
      here : Walk
      here = record { at = at; left = suc left; last = last }

      chosen : Bool → Walk
      chosen t = cond t (along_run b left (at + 1) at) here

      go : (t : Bool) → in_run b at ≡ t
          → (walked_on b (along_run b left (at + 1) at) ≡ walked_on b (record { at = at + 1; left = left; last = at })) × ((along_run b left (at + 1) at).left ≤ left)
          → (walked_on b (chosen (in_run b at)) ≡ walked_on b here) × ((chosen (in_run b at)).left ≤ suc left)
      go false e rest = let w = ap chosen e in (ap (walked_on b) w, omega (arith, ap (λ (x : Walk). x.left) w))
      go true e rest =
          let w = ap chosen e in
          let in_it = run_told at e in
          let z : suc left - 1 ≡ left = omega arith in (
            ap (walked_on b) w ∙ rest.0 ∙ ap (λ (k : ℕ). walked_on b (record { at = at + 1; left = k; last = at })) (sym z)
                ∙ walked_on_lem (suc left) at last (at + 1) in_it.0 (λ e. absurd (omega (arith, e))) few in_it.1 in_it.2,
            omega (arith, ap (λ (x : Walk). x.left) w, rest.1),
          )

  -- one record on, and along those that follow one another
  pub walked_run : (left at last n : ℕ) (w : Walk) → at ≢ 0 → left ≢ 0 → left ≤ capacity_of b → at ≤ capacity_of b → n ≡ next b at
      → w ≡ along_run b (left - 1) n at → (walked_on b w ≡ walked_on b (record { at = at; left = left; last = last })) × (w.left < left)
  walked_run left at last n w at≢ left≢ few high e same =
      let run = along_same (left - 1) n at (omega (arith, few)) in
      let shorter : w.left ≡ (along_run b (left - 1) n at).left = ap (λ (x : Walk). x.left) same in
      (ap (walked_on b) same ∙ run.0 ∙ walked_on_lem left at last n at≢ left≢ few high e, omega (arith, shorter, run.1, left≢))

  pub walked_long : (left at last : ℕ) → at ≢ 0 → left ≡ 0 → None ≡ walked_on b (record { at = at; left = left; last = last })
  walked_long left at last at≢ z = go at at≢ ∙ ap (λ (k : ℕ). walked_on b (record { at = at; left = k; last = last })) (sym z)
    where
      go : (i : ℕ) → i ≢ 0 → None ≡ walked_on b (record { at = i; left = 0; last = last })
      go zero n = absurd (n refl)
      go (suc i) n = unfold walked_on walk ends_within in refl

  pub walked_far : (left at last : ℕ) → capacity_of b < at → None ≡ walked_on b (record { at = at; left = left; last = last })
  unfolding walked_on walk steps last_met
  walked_far left zero last h = absurd (omega arith)
  walked_far zero (suc i) last h = unfold ends_within in refl
  walked_far (suc left) (suc i) last h =
      ap
      (λ (t : Bool).
      found t ((capacity_of b - suc left) + suc (steps (next b) left (next b (suc i)))) (last_met (next b) left (next b (suc i)) (suc i)))
      (sym (ends_far (capacity_of b) (suc i) (walk (next b) left (next b (suc i))) (lt-leb (suc i) (capacity_of b) h)))

-- ---- the free chain walked beside the used one

module _ (b : List ℕ) (w : Walk) where
  pub free_next : (most : ℕ) → most ≢ 0 → FreeWalk b w most → (v : Walk) → v ≡ stepped b w → FreeWalk b v (most - 1)
  unfolding stepped
  free_next most n F v e = subst (λ (x : Walk). FreeWalk b x (most - 1)) (sym e) (go (eqb w.at 0) (ltb (capacity_of b) w.at) refl refl)
    where
      stays : FreeWalk b w (most - 1)
      stays = record { few = F.few; enough = omega (arith, F.enough); same = F.same }

      go : (s t : Bool) → eqb w.at 0 ≡ s → ltb (capacity_of b) w.at ≡ t
          → FreeWalk b (cond (s || t) w (record { at = next b w.at; left = w.left - 1; last = w.at })) (most - 1)
      go true t f g = stays
      go false true f g = stays
      go false false f g =
          let left≢ : w.left ≢ 0 = λ z. n (omega (arith, F.enough)) in
          record {
            few = omega (arith, F.few);
            enough = omega (arith, F.enough);
            same =
                walked_on_lem b w.left w.at w.last (next b w.at) (eqb-false w.at 0 f) left≢ F.few
                (ltb-false (capacity_of b) w.at g) refl ∙ F.same;
          }

pub free_first : (b : List ℕ) (w : Walk) (C : ℕ) → C ≡ capacity_of b → w ≡ record { at = word b 2; left = capacity_of b; last = 0 } → FreeWalk b w (C - 1)
unfolding walked_from
free_first b w C e f =
    subst (λ (x : Walk). FreeWalk b x (C - 1)) (sym f)
    (record {
      few = omega arith;
      enough = omega arith;
      same = refl;
    })

-- ---- a walk that ends

steps_most : (link : ℕ → ℕ) (most i : ℕ) → steps link most i ≤ most
unfolding steps
steps_most link zero i = omega arith
steps_most link (suc most) zero = omega arith
steps_most link (suc most) (suc i) = omega (arith, steps_most link most (link (suc i)))

steps_chain : (link : ℕ → ℕ) (most i : ℕ) (is : List ℕ) → Chain link i is → length is ≤ most → steps link most i ≡ length is
unfolding steps
steps_chain link zero i [] c h = refl
steps_chain link (suc most) i [] c h = ap (steps link (suc most)) c
steps_chain link zero i (j ∷ js) c h = absurd (omega arith)
steps_chain link (suc most) zero (j ∷ js) c h = absurd (c.0 refl)
steps_chain link (suc most) (suc i) (j ∷ js) c h = ap suc (steps_chain link most (link (suc i)) js c.2 (omega arith))

last_chain : (link : ℕ → ℕ) (most i d : ℕ) (is : List ℕ) → Chain link i is → length is ≤ most → last_met link most i d ≡ last_or d is
unfolding last_met
last_chain link zero i d [] c h = refl
last_chain link (suc most) i d [] c h = ap (λ (k : ℕ). last_met link (suc most) k d) c
last_chain link zero i d (j ∷ js) c h = absurd (omega arith)
last_chain link (suc most) zero d (j ∷ js) c h = absurd (c.0 refl)
last_chain link (suc most) (suc i) d (j ∷ js) c h =
    last_chain link most (link (suc i)) (suc i) js c.2 (omega arith) ∙ ap (λ (k : ℕ). last_or k js) (sym c.1)

within_all : (C : ℕ) (is : List ℕ) → Within C is → all_within C is ≡ true
unfolding all_within
within_all C [] w = refl
within_all C (i ∷ is) w = and_both (leb i C) _ (le-leb i C w.1) (within_all C is w.2)

pub ends_by_walk : (C : ℕ) (r : maybe.Option (List ℕ)) → ends_within C r ≡ true → ends r ≡ true
unfolding ends_within ends
ends_by_walk C none t = t
ends_by_walk C (some is) t = refl

-- where every next is at most C, a chain that ends has no record above C
pub ends_nexts : (b : List ℕ) (head : ℕ) → head ≤ capacity_of b → nexts_within b ≡ true
    → ends_within (capacity_of b) (walk (next b) (capacity_of b) head) ≡ ends (walk (next b) (capacity_of b) head)
unfolding ends_within ends nexts_within
ends_nexts b head h t = go (walk (next b) (capacity_of b) head) refl
  where
    nexts : (j : ℕ) → 1 ≤ j → j ≤ capacity_of b → next b j ≤ capacity_of b
    nexts j l k = leb-true (next b j) (capacity_of b) (every_up_to_lem (λ (i : ℕ). leb (next b i) (capacity_of b)) (capacity_of b) t j l k)

    go : (r : maybe.Option (List ℕ)) → walk (next b) (capacity_of b) head ≡ r → ends_within (capacity_of b) r ≡ ends r
    go none f = refl
    go (some is) f =
        within_all (capacity_of b) is
        (chain_within (next b) (capacity_of b) head is (walk_chain (next b) (capacity_of b) head is f) h nexts)

-- the next of a record that a chain meets is met too, or 0
link_within : (link : ℕ → ℕ) (C h : ℕ) (is : List ℕ) → Chain link h is → Within C is → (i : ℕ) → 1 ≤ count i is → link i ≤ C
unfolding count
link_within link C h [] c w i k = absurd (omega arith)
link_within link C h (j ∷ js) c w i k = go (eqb i j) refl (link_within link C (link h) js c.2 w.2 i)
  where
    head_within : (is : List ℕ) → Chain link (link h) is → Within C is → link h ≤ C
    head_within [] d v = omega (arith, d)
    head_within (x ∷ xs) d v = omega (arith, d.1, v.1)

    go : (t : Bool) → eqb i j ≡ t → (1 ≤ count i js → link i ≤ C) → link i ≤ C
    go true e later = subst (λ (x : ℕ). link x ≤ C) (sym (eqb-true i j e ∙ c.1)) (head_within js c.2 w.2)
    go false e later = later (omega (arith, miss i j (eqb-false i j e)))

-- what a walk from a head finds
pub found_ends : (b : List ℕ) (head : ℕ) (r : Option Walked) → r ≡ walked_from b head
    → is_some r ≡ ends_within (capacity_of b) (walk (next b) (capacity_of b) head)
unfolding walked_from walked_on
found_ends b head r from =
    ap (λ (x : Option Walked). is_some x) from ∙ go (ends_within (capacity_of b) (walk (next b) (capacity_of b) head)) _ _
  where
    go : (t : Bool) (c l : ℕ) → is_some (found t c l) ≡ t
    go true c l = refl
    go false c l = refl

module _ (b : List ℕ) (head : ℕ) (u : Walked) (from : Some u ≡ walked_from b head) where
  pub found_met : Met b head (or_nothing (walk (next b) (capacity_of b) head))
  found_met = met_by_walk b head (sym (found_ends b head _ from))

  whole : u
      ≡ record {
        count = (capacity_of b - capacity_of b) + steps (next b) (capacity_of b) head;
        last = last_met (next b) (capacity_of b) head 0;
      }
  unfolding walked_from walked_on
  whole =
      same_Some _ _
      (from
      ∙ ap
      (λ (t : Bool).
      found t ((capacity_of b - capacity_of b) + steps (next b) (capacity_of b) head) (last_met (next b) (capacity_of b) head 0))
      (sym (found_ends b head _ from)))

  pub found_count : u.count ≡ length (or_nothing (walk (next b) (capacity_of b) head))
  found_count =
      omega (
        arith,
        ap (λ (x : Walked). x.count) whole,
        steps_chain (next b) (capacity_of b) head (or_nothing (walk (next b) (capacity_of b) head)) found_met.chain found_met.short,
      )

  pub found_last : u.last ≡ last_or 0 (or_nothing (walk (next b) (capacity_of b) head))
  found_last =
      ap (λ (x : Walked). x.last) whole
      ∙ last_chain (next b) (capacity_of b) head 0 (or_nothing (walk (next b) (capacity_of b) head)) found_met.chain found_met.short

  pub found_most : u.count ≤ capacity_of b
  found_most = omega (arith, found_count, found_met.short)

-- ---- the two chains

-- a chain with a next above C
pub links_no_end : (b : List ℕ) (head : ℕ) → head ≤ capacity_of b → ends_within (capacity_of b) (walk (next b) (capacity_of b) head) ≡ false
    → (ends (walk (next b) (capacity_of b) head) ≡ false → chains_right b ≡ false) → false ≡ links_right b
unfolding links_right
links_no_end b head h f no' = go (nexts_within b) refl
  where
    go : (t : Bool) → nexts_within b ≡ t → false ≡ (t && chains_right b)
    go false e = refl
    go true e = sym (no' (sym (ends_nexts b head h e) ∙ f))

module _ (b : List ℕ) (w : Walkable b) (u : Walked) (used : Some u ≡ walked_from b (word b 1)) (r : Option Walked) (free : r ≡ walked_from b (word b 2)) where
  pub no_free : r ≡ None → false ≡ links_right b
  unfolding chains_right free_chain
  no_free e =
      links_no_end b (word b 2) w.free_head (sym (found_ends b (word b 2) r free) ∙ ap (λ (x : Option Walked). is_some x) e)
      (λ z. ap (λ (t : Bool). ends (used_chain b) && (t && (met_once b && eqb (word b 3) (length (used_of b))))) z ∙ and-false (ends (used_chain b)))

  module _ (f : Walked) (f_some : r ≡ Some f) (C : ℕ) (size : C ≡ capacity_of b) where
    free_some : Some f ≡ walked_from b (word b 2)
    free_some = sym f_some ∙ free

    used_met : Met b (word b 1) (used_of b)
    unfolding used_of used_chain
    used_met = found_met b (word b 1) u used

    free_met : Met b (word b 2) (free_of b)
    unfolding free_of free_chain
    free_met = found_met b (word b 2) f free_some

    used_count : u.count ≡ length (used_of b)
    unfolding used_of used_chain
    used_count = found_count b (word b 1) u used

    free_count : f.count ≡ length (free_of b)
    unfolding free_of free_chain
    free_count = found_count b (word b 2) f free_some

    used_last : u.last ≡ last_or 0 (used_of b)
    unfolding used_of used_chain
    used_last = found_last b (word b 1) u used

    free_last : f.last ≡ last_or 0 (free_of b)
    unfolding free_of free_chain
    free_last = found_last b (word b 2) f free_some

    -- each record exactly once, by counts and last records
    once : met_once b ≡ (eqb (u.count + f.count) C && not (eqb u.last f.last))
    unfolding met_once
    once =
        once_test (next b) (capacity_of b) (word b 1) (word b 2) (used_of b) (free_of b) (some_record b w.least w.most)
        used_met.chain free_met.chain used_met.within free_met.within
        ∙ sym
        (ap₂ ◌&&◌ (ap₂ eqb (ap₂ ◌+◌ used_count free_count) size) (ap not (ap₂ eqb used_last free_last)))

    -- chains that meet each record meet each next
    met_nexts : met_once b ≡ true → nexts_within b ≡ true
    unfolding met_once nexts_within
    met_nexts t =
        up_to_every (λ (i : ℕ). leb (next b i) (capacity_of b)) (capacity_of b)
        (λ i l h.
        le-leb (next b i) (capacity_of b)
        (go i (count i (used_of b)) refl
        (sym (count_append i (used_of b) (free_of b)) ∙ eqb-true _ 1 (every_up_to_lem (λ (i : ℕ). eqb (count i (used_of b ++ free_of b)) 1) (capacity_of b) t i l h))))
      where
        go : (i n : ℕ) → count i (used_of b) ≡ n → count i (used_of b) + count i (free_of b) ≡ 1 → next b i ≤ capacity_of b
        go i zero e s = link_within (next b) (capacity_of b) (word b 2) (free_of b) free_met.chain free_met.within i (omega arith)
        go i (suc n) e s = link_within (next b) (capacity_of b) (word b 1) (used_of b) used_met.chain used_met.within i (omega arith)

    ended : chains_right b ≡ (met_once b && eqb (word b 3) (length (used_of b)))
    unfolding chains_right used_chain free_chain
    ended =
        simp (ends_by_walk _ _ (sym (found_ends b (word b 1) _ used)), ends_by_walk _ _ (sym (found_ends b (word b 2) _ free_some)))

    with_once : (t : Bool) → met_once b ≡ t → links_right b ≡ (t && eqb (word b 3) (length (used_of b)))
    unfolding links_right
    with_once false e = ap (λ (t : Bool). nexts_within b && t) (ended ∙ ap (λ (t : Bool). t && eqb (word b 3) (length (used_of b))) e) ∙ and-false (nexts_within b)
    with_once true e =
        ap (λ (t : Bool). t && chains_right b) (met_nexts e) ∙ ended ∙ ap (λ (t : Bool). t && eqb (word b 3) (length (used_of b))) e

    pub no_count : (u.count + f.count ≡ C → ⊥) → eqb (u.count + f.count) C ≡ links_right b
    no_count h = ne_eqb (u.count + f.count) C h ∙ sym (with_once false (once ∙ simp (ne_eqb (u.count + f.count) C h)))

    pub no_last : u.count + f.count ≡ C → u.last ≡ f.last → not (eqb u.last f.last) ≡ links_right b
    no_last h k = ap not (eq-eqb u.last f.last k) ∙ sym (with_once false (once ∙ simp (eq-eqb (u.count + f.count) C h, eq-eqb u.last f.last k)))

    pub all_right : (n : ℕ) → u.count + f.count ≡ C → (u.last ≡ f.last → ⊥) → n ≡ word b 3 → eqb n u.count ≡ links_right b
    all_right n h k e =
        ap₂ eqb e used_count ∙ sym (with_once true (once ∙ simp (eq-eqb (u.count + f.count) C h, ne_eqb u.last f.last k)))
