-- What tuples name, looked for while the used chain is walked: the tests of one key, one record taken, and the second ends that are kept.
use mathlib.Core.Bool.{Bool, true, false, cond, not, ◌&&◌, ◌||◌}
use mathlib.Core.List.{List}
use mathlib.Core.Logic.{◌≢◌}
use mathlib.Core.Path.{◌≡◌, sym, ap, ◌∙◌, subst}
use Prim.Native.Nat.{ℕ, ◌+◌, ◌-◌, ◌≤◌, ◌<◌}
use native.Mathlib.Omega.{arith}
use lib.Dec.{eqb, leb}
use lib.ListN.{length, length-replicate, get_or, take}
use Rattle.std.proofs.lemmas.List.{length-take-le, get_or-take}
use borrow.Author.Tests.{eqb-true, eqb-false, eq-eqb, ne_eqb, leb-true}
use Rattle.model.specs.declared.Key.{Key}
use Rattle.model.specs.Keys.{most_name, node_key}
use Rattle.model.specs.Tuples.{Tuples, present}
use Rattle.layouts.specs.Buffer.{capacity_of, key_at, tuples_of}
use Rattle.model.specs.Numbers.{every_up_to}
use Rattle.model.specs.Rules.{small_key, no_edge_without_node, edge_has_end}
use Rattle.model.proofs.Bools.{and_left, and_right, not_yes, failed, clash}
use Rattle.model.proofs.Numbers.{every_up_to_lem, up_to_every}
use Rattle.presence.specs.declared.kept.KeptRecords.{KeptRecords}
use Rattle.presence.specs.Presence.{end_there, every_end, none_kept, kept_count, KeptHold, good_key, shaped_key}

-- ---- the words of a good key

-- a good key without g has no m
pub good_end : (k : Key) → good_key k ≡ true → k.g ≡ 0 → k.m ≡ 0
unfolding good_key shaped_key edge_has_end
good_end k e g =
    let h = and_right (no_edge_without_node k) _ (and_right (small_key k) _ e) in
    eqb-true k.m 0 (sym (ap (λ (t : Bool). cond t (eqb k.m 0) (not (eqb k.m 0))) (eq-eqb k.g 0 g)) ∙ h)

-- a good key without n has no g
pub good_nameless : (k : Key) → good_key k ≡ true → k.n ≡ 0 → k.g ≡ 0
unfolding good_key shaped_key no_edge_without_node
good_nameless k e n =
    let h = and_left (not (eqb k.n 0) || (eqb k.g 0 && eqb k.m 0)) (edge_has_end k) (and_right (small_key k) _ e) in
    let f : (eqb k.g 0 && eqb k.m 0) ≡ true
    = sym (ap (λ (t : Bool). not t || (eqb k.g 0 && eqb k.m 0)) (eq-eqb k.n 0 n)) ∙ h in
    eqb-true k.g 0 (and_left (eqb k.g 0) (eqb k.m 0) f)

-- and with g it has m
pub good_second : (k : Key) → good_key k ≡ true → k.g ≢ 0 → k.m ≢ 0
unfolding good_key shaped_key edge_has_end
good_second k e g =
    let h = and_right (no_edge_without_node k) _ (and_right (small_key k) _ e) in
    eqb-false k.m 0
    (not_yes (eqb k.m 0) (sym (ap (λ (t : Bool). cond t (eqb k.m 0) (not (eqb k.m 0))) (ne_eqb k.g 0 g)) ∙ h))

module _ (k : Key) (e : good_key k ≡ true) where
  small : small_key k ≡ true
  unfolding good_key
  small = and_left (small_key k) _ e

  pub good_s : k.s ≤ most_name
  unfolding small_key
  good_s = leb-true k.s most_name (and_left (leb k.s most_name) _ small)

  pub good_n : k.n ≤ most_name
  unfolding small_key
  good_n = leb-true k.n most_name (and_left (leb k.n most_name) _ (and_right (leb k.s most_name) _ small))

  pub good_m : k.m ≤ most_name
  unfolding small_key
  good_m =
      leb-true k.m most_name
      (and_right (leb k.g most_name) _ (and_right (leb k.n most_name) _ (and_right (leb k.s most_name) _ small)))

  -- without g it is the key of a node or a space
  pub good_node : k.g ≡ 0 → k ≡ node_key k.s k.n
  good_node g = λ i. record { s = k.s; n = k.n; g = g i; m = good_end k e g i }

  pub good_end_some : k.g ≢ 0 → k.m ≢ 0
  good_end_some g = good_second k e g

-- ---- the second end of one key

module _ (ts : Tuples) (k : Key) where
  pub there_edge : k.g ≢ 0 → (t : Bool) → t ≡ present (node_key k.s k.m) ts → (j : Key) → k ≡ j → t ≡ end_there ts j
  unfolding end_there
  there_edge g t h j e =
      let own : present (node_key k.s k.m) ts ≡ end_there ts k = simp (ne_eqb k.g 0 g) in
      h ∙ own ∙ ap (end_there ts) e

-- ---- second ends that are kept

pub none_kept_lem : (b : List ℕ) (kept : KeptRecords) → kept ≡ none_kept → KeptHold b kept
none_kept_lem b kept e =
    subst (KeptHold b) (sym e) (record { size = length-replicate {A = ℕ} kept_count 0; few = omega arith; named = λ j h. absurd (omega arith) })

-- a kept record is a record with a good key
pub kept_record : (b : List ℕ) (kept : KeptRecords) (j i : ℕ) → KeptHold b kept → j < kept.count → i ≡ get_or kept.records j 0
    → (i ≢ 0) × (i ≤ capacity_of b) × (good_key (key_at b i) ≡ true)
kept_record b kept j i K h e = subst (λ (x : ℕ). (x ≢ 0) × (x ≤ capacity_of b) × (good_key (key_at b x) ≡ true)) (sym e) (K.named j h)

-- the second ends of the first so many kept records are there
pub record EndsThere (b : List ℕ) (kept : KeptRecords) (tried : ℕ) : Type 0 where
  pub each : (j : ℕ) → j < tried → end_there (tuples_of b) (key_at b (get_or kept.records j 0)) ≡ true

module _ (b : List ℕ) (kept : KeptRecords) (K : KeptHold b kept) (j : ℕ) (xs : List ℕ) (taken : xs ≡ take kept.count kept.records) where
  kept_length : length xs ≡ kept.count
  kept_length = ap length taken ∙ length-take-le kept.count kept.records (omega (arith, K.size, K.few))

  pub ends_all : EndsThere b kept j → length xs ≤ j → true ≡ every_end b kept
  unfolding every_end
  ends_all E h =
      sym
      (up_to_every (λ (i : ℕ). end_there (tuples_of b) (key_at b (get_or kept.records (i - 1) 0))) kept.count
      (λ i low high. E.each (i - 1) (omega (arith, kept_length))))

  module _ (h : j < length xs) (i : ℕ) (e : i ≡ get_or xs j 0) where
    below : j < kept.count
    below = omega (arith, kept_length)

    same_record : i ≡ get_or kept.records j 0
    same_record = e ∙ ap (λ (ys : List ℕ). get_or ys j 0) taken ∙ get_or-take kept.count kept.records j 0 below

    module _ (r : Bool) (f : r ≡ end_there (tuples_of b) (key_at b i)) where
      this_end : end_there (tuples_of b) (key_at b (get_or kept.records j 0)) ≡ r
      this_end = ap (λ (x : ℕ). end_there (tuples_of b) (key_at b x)) (sym same_record) ∙ sym f

      pub ends_no : r ≡ false → false ≡ every_end b kept
      unfolding every_end
      ends_no y = sym (failed (every_up_to test kept.count) (λ t. clash (every_up_to_lem test kept.count t (j + 1) (omega arith) (omega (arith, below))) here))
        where
          test : ℕ → Bool
          test k = end_there (tuples_of b) (key_at b (get_or kept.records (k - 1) 0))

          here : test (j + 1) ≡ false
          here = let z : j + 1 - 1 ≡ j = omega arith in ap (λ (k : ℕ). end_there (tuples_of b) (key_at b (get_or kept.records k 0))) z ∙ this_end ∙ y
