-- The walk of the used chain as one definition: it ends, is given up, or takes one more record.
use mathlib.Core.Bool.{Bool, true, false, cond, ◌&&◌}
use mathlib.Core.List.{List}
use mathlib.Core.Logic.{◌≢◌}
use mathlib.Core.Path.{◌≡◌, refl, sym, ap, ◌∙◌}
use Prim.Native.Nat.{ℕ, zero, suc, ◌-◌}
use native.Mathlib.Omega.{arith}
use lib.Dec.{eqb}
use borrow.Author.Tests.{eq-eqb, ne_eqb}
use Rattle.model.specs.declared.Key.{Key}
use Rattle.layouts.specs.Buffer.{word, capacity_of, next, key_at}
use Rattle.model.proofs.Bools.{and_both}
use Rattle.verify.specs.declared.chains.Walk.{Walk}
use Rattle.presence.specs.declared.kept.KeptRecords.{KeptRecords}
use Rattle.verify.specs.declared.keys.Used.{Used}
use Rattle.std.specs.Prelude.{Option, Some, None}
use Rattle.presence.specs.Presence.{with_named, settled, kept_with}
use Rattle.verify.specs.Checks.{stepped, may_meet, key_follows, starts_right, UsedRun, run_stopped, run_ended, may_take, used_run, used_run_of}

abbrev left_of : Option Used → List ℕ → KeptRecords → UsedRun
left_of u marks kept = record { used = u; marks = marks; kept = kept }

module _ (b marks : List ℕ) (kept : KeptRecords) (t : Bool) (T : t ≡ starts_right b) where
  begun : Bool → UsedRun
  begun s =
      cond s
      (used_run b (capacity_of b - 1) (next b (word b 1)) (word b 1) true (record { at = word b 2; left = capacity_of b; last = 0 }) marks kept)
      (run_stopped marks kept)

  pub run_unstarted : t ≡ false → (u : Option Used) → u ≡ None → left_of u marks kept ≡ used_run_of b marks kept
  unfolding used_run_of begun
  run_unstarted e u s = ap (λ (x : Option Used). left_of x marks kept) s ∙ sym (ap begun (sym T ∙ e))

  pub run_started : t ≡ true → (C at last : ℕ) (free : Walk) → C ≡ capacity_of b → last ≡ word b 1 → at ≡ next b last
      → free ≡ record { at = word b 2; left = capacity_of b; last = 0 }
      → used_run b (C - 1) at last true free marks kept ≡ used_run_of b marks kept
  unfolding used_run_of begun
  run_started e C at last free c l a w =
      let first : at ≡ next b (word b 1) = a ∙ ap (next b) l in
      (λ i. used_run b (c i - 1) (first i) (l i) true (w i) marks kept) ∙ sym (ap begun (sym T ∙ e))

module _ (b : List ℕ) (left at last : ℕ) (sure : Bool) (free : Walk) (marks : List ℕ) (kept : KeptRecords) where
  pub run_end : at ≡ 0 → (C : ℕ) → C ≡ capacity_of b → (u : Option Used)
      → u ≡ Some (record { walked = record { count = C - left; last = last }; sure = sure; free = free }) → left_of u marks kept ≡ used_run b left at last sure free marks kept
  unfolding used_run
  run_end z C c u e =
      ap (λ (x : Option Used). left_of x marks kept) e ∙ ap (λ (n : ℕ). run_ended (n - left) last sure free marks kept) c ∙ go left
    where
      yes_end : eqb at 0 ≡ true
      yes_end = eq-eqb at 0 z

      go : (k : ℕ) → run_ended (capacity_of b - k) last sure free marks kept ≡ used_run b k at last sure free marks kept
      go zero = sym (ap (λ (t : Bool). cond t (run_ended (capacity_of b - 0) last sure free marks kept) (run_stopped marks kept)) yes_end)
      go (suc k) =
          sym
          (ap
          (λ (t : Bool).
          cond t (run_ended (capacity_of b - suc k) last sure free marks kept)
          (cond (may_take b (suc k) last at)
          (used_run b k (next b at) at (sure && settled b marks (key_at b last) (key_at b at)) (stepped b free) (with_named marks (key_at b at) at)
          (kept_with marks kept (key_at b at) at))
          (run_stopped marks kept)))
          yes_end)

  not_taken : at ≢ 0 → may_take b left last at ≡ false → run_stopped marks kept ≡ used_run b left at last sure free marks kept
  unfolding used_run
  not_taken n = go left
    where
      no_end : eqb at 0 ≡ false
      no_end = ne_eqb at 0 n

      go : (k : ℕ) → may_take b k last at ≡ false → run_stopped marks kept ≡ used_run b k at last sure free marks kept
      go zero e = sym (ap (λ (t : Bool). cond t (run_ended (capacity_of b - 0) last sure free marks kept) (run_stopped marks kept)) no_end)
      go (suc k) e =
          sym
          (λ i.
          cond (no_end i) (run_ended (capacity_of b - suc k) last sure free marks kept)
          (cond (e i)
          (used_run b k (next b at) at (sure && settled b marks (key_at b last) (key_at b at)) (stepped b free) (with_named marks (key_at b at) at)
          (kept_with marks kept (key_at b at) at))
          (run_stopped marks kept)))

  taken : at ≢ 0 → left ≢ 0 → may_take b left last at ≡ true
      → used_run b (left - 1) (next b at) at (sure && settled b marks (key_at b last) (key_at b at)) (stepped b free) (with_named marks (key_at b at) at)
      (kept_with marks kept (key_at b at) at)
      ≡ used_run b left at last sure free marks kept
  unfolding used_run
  taken n more = go left more
    where
      no_end : eqb at 0 ≡ false
      no_end = ne_eqb at 0 n

      go : (k : ℕ) → k ≢ 0 → may_take b k last at ≡ true
          → used_run b (k - 1) (next b at) at (sure && settled b marks (key_at b last) (key_at b at)) (stepped b free) (with_named marks (key_at b at) at)
          (kept_with marks kept (key_at b at) at)
          ≡ used_run b k at last sure free marks kept
      go zero m e = absurd (m refl)
      go (suc k) m e =
          let z : suc k - 1 ≡ k = omega arith in
          ap
          (λ (j : ℕ).
          used_run b j (next b at) at (sure && settled b marks (key_at b last) (key_at b at)) (stepped b free) (with_named marks (key_at b at) at)
          (kept_with marks kept (key_at b at) at))
          z
          ∙ sym
          (λ i.
          cond (no_end i) (run_ended (capacity_of b - suc k) last sure free marks kept)
          (cond (e i)
          (used_run b k (next b at) at (sure && settled b marks (key_at b last) (key_at b at)) (stepped b free) (with_named marks (key_at b at) at)
          (kept_with marks kept (key_at b at) at))
          (run_stopped marks kept)))

  module _ (n : at ≢ 0) (C : ℕ) (c : C ≡ capacity_of b) (t : Bool) (T : t ≡ may_meet C left at) where
    met : may_meet (capacity_of b) left at ≡ t
    met = sym (T ∙ ap (λ (x : ℕ). may_meet x left at) c)

    pub run_far : t ≡ false → (u : Option Used) → u ≡ None → left_of u marks kept ≡ used_run b left at last sure free marks kept
    unfolding may_take
    run_far e u s =
        ap (λ (x : Option Used). left_of x marks kept) s
        ∙ not_taken n (ap (λ (x : Bool). x && key_follows (key_at b last) (key_at b at)) (met ∙ e))

    module _ (yes_met : t ≡ true) (k : Key) (K : k ≡ key_at b at) (j : Key) (J : j ≡ key_at b last) (v : Bool) (told : v ≡ key_follows j k) where
      follows : key_follows (key_at b last) (key_at b at) ≡ v
      follows = sym (told ∙ (λ i. key_follows (J i) (K i)))

      pub run_no : v ≡ false → (u : Option Used) → u ≡ None → left_of u marks kept ≡ used_run b left at last sure free marks kept
      unfolding may_take
      run_no e u s =
          ap (λ (x : Option Used). left_of x marks kept) s
          ∙ not_taken n ((λ i. (met ∙ yes_met) i && key_follows (key_at b last) (key_at b at)) ∙ follows ∙ e)

      pub run_on : v ≡ true → left ≢ 0 → (sure' : Bool) → sure' ≡ (sure && settled b marks j k) → (marks' : List ℕ) → marks' ≡ with_named marks k at
          → (kept' : KeptRecords) → kept' ≡ kept_with marks kept k at → (a : ℕ) → a ≡ next b at → (w : Walk) → w ≡ stepped b free
          → used_run b (left - 1) a at sure' w marks' kept' ≡ used_run b left at last sure free marks kept
      unfolding may_take
      run_on e more sure' ef marks' em kept' el a ea w ew =
          let F : sure' ≡ (sure && settled b marks (key_at b last) (key_at b at)) = ef ∙ (λ i. sure && settled b marks (J i) (K i)) in
          let M : marks' ≡ with_named marks (key_at b at) at = em ∙ ap (λ (x : Key). with_named marks x at) K in
          let L : kept' ≡ kept_with marks kept (key_at b at) at = el ∙ ap (λ (x : Key). kept_with marks kept x at) K in
          (λ i. used_run b (left - 1) (ea i) at (F i) (ew i) (M i) (L i)) ∙ taken n more (and_both _ _ (met ∙ yes_met) (follows ∙ e))
