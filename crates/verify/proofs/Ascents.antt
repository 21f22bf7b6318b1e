-- Keys that ascend from (0,0,0,0): what is left of that test at a record of the used chain.
use mathlib.Core.Bool.{Bool, true, false, ◌&&◌}
use mathlib.Core.List.{List, ◌∷◌}
use mathlib.Core.Logic.{◌≢◌}
use mathlib.Core.Path.{◌≡◌, refl, sym, ap, ◌∙◌}
use Prim.Native.Nat.{ℕ}
use Rattle.model.specs.declared.Key.{Key}
use Rattle.model.specs.Ordered.{is_less, ascends_from}
use Rattle.model.specs.Keys.{key_of, space_key, compare_keys, same_key}
use Rattle.model.specs.Tuples.{Tuples}
use Rattle.layouts.specs.Buffer.{word, next, key_at, tuple_at, tuples_of}
use Rattle.model.specs.Rules.{ascends_from_universe}
use Rattle.layouts.specs.Chains.{Rest}
use Rattle.presence.specs.Presence.{UsedEnds, tuples_from}
use Rattle.presence.proofs.Rest.{used_from_head, on_head, on_next, tuples_next, tuples_none}

pub record AscendsLeft (b : List ℕ) (k : Key) (at : ℕ) : Type 0 where
  pub on : Rest b at
  pub left : ascends_from_universe (tuples_of b) ≡ ascends_from key_of compare_keys k (tuples_from b at)

universe_cons : (b : List ℕ) (i : ℕ) (ts : Tuples)
    → ascends_from_universe (tuple_at b i ∷ ts) ≡ (same_key (key_at b i) (space_key 0) && ascends_from key_of compare_keys (key_at b i) ts)
unfolding ascends_from_universe tuple_at
universe_cons b i ts = refl

ascends_cons : (b : List ℕ) (k : Key) (i : ℕ) (ts : Tuples)
    → ascends_from key_of compare_keys k (tuple_at b i ∷ ts) ≡ (is_less (compare_keys k (key_at b i)) && ascends_from key_of compare_keys (key_at b i) ts)
unfolding ascends_from tuple_at
ascends_cons b k i ts = refl

module _ (b : List ℕ) (U : UsedEnds b) where
  module _ (h n : ℕ) (e : h ≡ word b 1) (h≢ : h ≢ 0) (f : n ≡ next b h) where
    first : ascends_from_universe (tuples_of b) ≡ (same_key (key_at b h) (space_key 0) && ascends_from key_of compare_keys (key_at b h) (tuples_from b n))
    first =
        ap ascends_from_universe (sym (used_from_head b h e) ∙ tuples_next b h n U.walkable (on_head b h U e) h≢ f)
        ∙ universe_cons b h (tuples_from b n)

    pub ascends_start : (k : Key) → k ≡ key_at b h → same_key k (space_key 0) ≡ true → AscendsLeft b k n
    ascends_start k g t =
        record {
          on = on_next b h n U.walkable (on_head b h U e) h≢ f;
          left =
              first ∙ ap (λ (j : Key). same_key j (space_key 0) && ascends_from key_of compare_keys j (tuples_from b n)) (sym g)
              ∙ ap (λ (a : Bool). a && ascends_from key_of compare_keys k (tuples_from b n)) t;
        }

  pub ascends_not_first : (h : ℕ) → h ≡ word b 1 → h ≢ 0 → (k : Key) → k ≡ key_at b h → same_key k (space_key 0) ≡ false → false ≡ ascends_from_universe (tuples_of b)
  ascends_not_first h e h≢ k g t =
      sym
      (first h (next b h) e h≢ refl ∙ ap (λ (j : Key). same_key j (space_key 0) && ascends_from key_of compare_keys j (tuples_from b (next b h))) (sym g)
      ∙ ap (λ (a : Bool). a && ascends_from key_of compare_keys k (tuples_from b (next b h))) t)

  pub ascends_end : (k : Key) (at : ℕ) → AscendsLeft b k at → at ≡ 0 → true ≡ ascends_from_universe (tuples_of b)
  unfolding ascends_from
  ascends_end k at A z = sym (A.left ∙ ap (ascends_from key_of compare_keys k) (tuples_none b at z))

  module _ (k : Key) (at n : ℕ) (A : AscendsLeft b k at) (at≢ : at ≢ 0) (e : n ≡ next b at) (j : Key) (g : j ≡ key_at b at) where
    next_key : ascends_from_universe (tuples_of b) ≡ (is_less (compare_keys k j) && ascends_from key_of compare_keys j (tuples_from b n))
    next_key =
        A.left ∙ ap (ascends_from key_of compare_keys k) (tuples_next b at n U.walkable A.on at≢ e) ∙ ascends_cons b k at (tuples_from b n)
        ∙ ap (λ (i : Key). is_less (compare_keys k i) && ascends_from key_of compare_keys i (tuples_from b n)) (sym g)

    pub ascends_next : is_less (compare_keys k j) ≡ true → AscendsLeft b j n
    ascends_next t =
        record {
          on = on_next b at n U.walkable A.on at≢ e;
          left = next_key ∙ ap (λ (a : Bool). a && ascends_from key_of compare_keys j (tuples_from b n)) t;
        }

  pub ascends_no : (k : Key) (at : ℕ) → AscendsLeft b k at → at ≢ 0 → (j : Key) → j ≡ key_at b at → is_less (compare_keys k j) ≡ false
      → false ≡ ascends_from_universe (tuples_of b)
  ascends_no k at A at≢ j g t =
      sym (next_key k at (next b at) A at≢ refl j g ∙ ap (λ (a : Bool). a && ascends_from key_of compare_keys j (tuples_from b (next b at))) t)
