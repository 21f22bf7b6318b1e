-- The tests of the rules on tuples say yes exactly when the rules hold (specs/Rules.antt).
use mathlib.Core.Bool.{Bool, true, false, cond, not, ◌&&◌, ◌||◌, false≢true}
use mathlib.Core.List.{[], ◌∷◌}
use mathlib.Core.Logic.{◌↔◌, ◌≢◌, ⊎_elim}
use mathlib.Core.Option.{Option, none, some}
use mathlib.Core.Path.{◌≡◌, refl, sym, ap, ◌∙◌, subst}
use Prim.Native.Nat.{ℕ}
use native.Mathlib.Omega.{arith}
use lib.Dec.{eqb, leb}
use borrow.Author.Tests.{eqb-true, eqb-false, eq-eqb, ne_eqb, leb-true, le-leb}
use Rattle.model.specs.Ordered.{holds, Ascending}
use Rattle.model.specs.declared.Key.{Key}
use Rattle.model.specs.Keys.{most_name, key_of, space_key, node_key, is_node, is_edge, compare_keys, same_key}
use Rattle.model.specs.Tuples.{Tuples, present}
use Rattle.model.specs.Rules.{ascends_from_universe, small_key, no_edge_without_node, edge_has_end, node_supported, edge_supported, every_key, sound, Has, Supported, Small, Shaped, first_key, TupleRules}
use Rattle.model.proofs.Bools.{or_cases, or_left, or_right, and_left, and_right, and_both, not_yes, no_not, clash}
use Rattle.model.proofs.Order.{keys}
use Rattle.model.proofs.Ordered.{test_above, above_test}
use Rattle.model.proofs.Tuples.{same_key_lem, own_key}

-- ---- tests over all keys

every_key_lem : (p : Key → Bool) (ts : Tuples) → every_key p ts ≡ true → (k : Key) → Has k ts → p k ≡ true
unfolding every_key holds
every_key_lem p [] e k h = absurd (false≢true h)
every_key_lem p (t ∷ ts) e k h =
    ⊎_elim (λ f. ap p (same_key_lem k t.key f) ∙ and_left (p t.key) (every_key p ts) e)
    (λ f. every_key_lem p ts (and_right (p t.key) (every_key p ts) e) k f)
    (or_cases (same_key k t.key) (present k ts) h)

key_every : (p : Key → Bool) (ts : Tuples) → ((k : Key) → Has k ts → p k ≡ true) → every_key p ts ≡ true
unfolding every_key holds
key_every p [] h = refl
key_every p (t ∷ ts) h =
    and_both (p t.key) (every_key p ts) (h t.key (or_left (same_key t.key t.key) (present t.key ts) (own_key t.key)))
    (key_every p ts (λ k e. h k (or_right (same_key k t.key) (present k ts) e)))

-- ---- the rules on one key

small_yes : (k : Key) → small_key k ≡ true → Small k
unfolding small_key
small_yes k e =
    let e₁ = and_right (leb k.s most_name) _ e in
    let e₂ = and_right (leb k.n most_name) _ e₁ in
    record {
      s = leb-true k.s most_name (and_left (leb k.s most_name) _ e);
      n = leb-true k.n most_name (and_left (leb k.n most_name) _ e₁);
      g = leb-true k.g most_name (and_left (leb k.g most_name) (leb k.m most_name) e₂);
      m = leb-true k.m most_name (and_right (leb k.g most_name) (leb k.m most_name) e₂);
    }

yes_small : (k : Key) → Small k → small_key k ≡ true
unfolding small_key
yes_small k S =
    and_both (leb k.s most_name) _ (le-leb k.s most_name S.s)
    (and_both (leb k.n most_name) _ (le-leb k.n most_name S.n)
    (and_both (leb k.g most_name) _ (le-leb k.g most_name S.g) (le-leb k.m most_name S.m)))

shaped_yes : (k : Key) → no_edge_without_node k ≡ true → edge_has_end k ≡ true → Shaped k
unfolding no_edge_without_node edge_has_end
shaped_yes k e f = record { named = named; ends = ends' (eqb k.g 0) refl f }
  where
    named : k.n ≡ 0 → (k.g ≡ 0) × (k.m ≡ 0)
    named z =
        ⊎_elim (λ a. absurd (clash (eq-eqb k.n 0 z) (not_yes (eqb k.n 0) a)))
        (λ a. (eqb-true k.g 0 (and_left (eqb k.g 0) (eqb k.m 0) a), eqb-true k.m 0 (and_right (eqb k.g 0) (eqb k.m 0) a)))
        (or_cases (not (eqb k.n 0)) (eqb k.g 0 && eqb k.m 0) e)

    ends' : (b : Bool) → eqb k.g 0 ≡ b → cond b (eqb k.m 0) (not (eqb k.m 0)) ≡ true → (k.g ≡ 0) ↔ (k.m ≡ 0)
    ends' true a h = (λ z. eqb-true k.m 0 h, λ z. eqb-true k.g 0 a)
    ends' false a h = (λ z. absurd (eqb-false k.g 0 a z), λ z. absurd (eqb-false k.m 0 (not_yes (eqb k.m 0) h) z))

yes_named : (k : Key) → Shaped k → no_edge_without_node k ≡ true
unfolding no_edge_without_node
yes_named k S = go (eqb k.n 0) refl
  where
    go : (b : Bool) → eqb k.n 0 ≡ b → (not b || (eqb k.g 0 && eqb k.m 0)) ≡ true
    go true e =
        let z = S.named (eqb-true k.n 0 e) in
        and_both (eqb k.g 0) (eqb k.m 0) (eq-eqb k.g 0 z.0) (eq-eqb k.m 0 z.1)
    go false e = refl

yes_ends : (k : Key) → Shaped k → edge_has_end k ≡ true
unfolding edge_has_end
yes_ends k S = go (eqb k.g 0) refl
  where
    go : (b : Bool) → eqb k.g 0 ≡ b → cond b (eqb k.m 0) (not (eqb k.m 0)) ≡ true
    go true e = eq-eqb k.m 0 (S.ends.0 (eqb-true k.g 0 e))
    go false e = no_not (eqb k.m 0) (ne_eqb k.m 0 (λ z. eqb-false k.g 0 e (S.ends.1 z)))

is_node_lem : (k : Key) → k.n ≢ 0 → k.g ≡ 0 → is_node k ≡ true
is_node_lem k h e = and_both (not (eqb k.n 0)) (eqb k.g 0) (no_not (eqb k.n 0) (ne_eqb k.n 0 h)) (eq-eqb k.g 0 e)

is_edge_lem : (k : Key) → k.g ≢ 0 → is_edge k ≡ true
is_edge_lem k h = no_not (eqb k.g 0) (ne_eqb k.g 0 h)

-- a test of the form "not a or b" that passes where a does
then_yes : (a b : Bool) → (not a || b) ≡ true → a ≡ true → b ≡ true
then_yes true b e f = e
then_yes false b e f = absurd (false≢true f)

yes_then : (a b : Bool) → (a ≡ true → b ≡ true) → (not a || b) ≡ true
yes_then true b h = h refl
yes_then false b h = refl

supported_yes : (ts : Tuples) (k : Key) → node_supported ts k ≡ true → edge_supported ts k ≡ true → Supported ts k
unfolding node_supported edge_supported
supported_yes ts k e f =
    record {
      node =
          λ a b.
          let h = then_yes (is_node k) _ e (is_node_lem k a b) in
          (and_left (present (space_key k.s) ts) _ h, and_right (present (space_key k.s) ts) _ h);
      edge =
          λ a.
          let h = then_yes (is_edge k) _ f (is_edge_lem k a) in
          let h₁ = and_right (present (node_key k.s k.n) ts) _ h in (
            and_left (present (node_key k.s k.n) ts) _ h,
            and_left (present (node_key k.s k.m) ts) _ h₁,
            and_right (present (node_key k.s k.m) ts) _ h₁,
          );
    }

yes_node : (ts : Tuples) (k : Key) → Supported ts k → node_supported ts k ≡ true
unfolding node_supported
yes_node ts k S =
    yes_then (is_node k) _
    (λ e.
    let d =
    S.node (eqb-false k.n 0 (not_yes (eqb k.n 0) (and_left (not (eqb k.n 0)) (eqb k.g 0) e)))
    (eqb-true k.g 0 (and_right (not (eqb k.n 0)) (eqb k.g 0) e)) in
    and_both (present (space_key k.s) ts) _ d.0 d.1)

yes_edge : (ts : Tuples) (k : Key) → Supported ts k → edge_supported ts k ≡ true
unfolding edge_supported
yes_edge ts k S =
    yes_then (is_edge k) _
    (λ e.
    let d = S.edge (eqb-false k.g 0 (not_yes (eqb k.g 0) e)) in
    and_both (present (node_key k.s k.n) ts) _ d.0 (and_both (present (node_key k.s k.m) ts) _ d.1 d.2))

-- ---- the rules on the tuples

pub from_universe_yes : (ts : Tuples) → ascends_from_universe ts ≡ true → Ascending key_of compare_keys ts × (first_key ts ≡ some (space_key 0))
unfolding ascends_from_universe
from_universe_yes [] e = absurd (false≢true e)
from_universe_yes (t ∷ ts) e = (
  test_above key_of compare_keys keys t.key ts (and_right (same_key t.key (space_key 0)) _ e),
  ap some (same_key_lem t.key (space_key 0) (and_left (same_key t.key (space_key 0)) _ e)),
)

yes_from_universe : (ts : Tuples) → Ascending key_of compare_keys ts → first_key ts ≡ some (space_key 0) → ascends_from_universe ts ≡ true
unfolding ascends_from_universe
yes_from_universe [] h e = absurd (never e)
  where
    never : ◌≡◌ {A = Option Key} none (some (space_key 0)) → ⊥
    never e = let z : ◌≡◌ {A = ℕ} 0 1 = cc in omega arith
yes_from_universe (t ∷ ts) h e =
    and_both (same_key t.key (space_key 0)) _ (subst (λ (k : Key). same_key k (space_key 0) ≡ true) (sym (injective e)) (own_key (space_key 0)))
    (above_test key_of compare_keys keys t.key ts h)
  where
    injective : {a b : Key} → some a ≡ some b → a ≡ b
    injective e = cc

pub sound_exactly : (ts : Tuples) → (sound ts ≡ true) ↔ TupleRules ts
unfolding sound
sound_exactly ts = (
  λ e.
      let e₁ = and_right (ascends_from_universe ts) _ e in
      let e₂ = and_right (every_key small_key ts) _ e₁ in
      let e₃ = and_right (every_key no_edge_without_node ts) _ e₂ in
      let e₄ = and_right (every_key edge_has_end ts) _ e₃ in
      let u = from_universe_yes ts (and_left (ascends_from_universe ts) _ e) in
      record {
        ascends = u.0;
        first = u.1;
        small = λ k h. small_yes k (every_key_lem small_key ts (and_left (every_key small_key ts) _ e₁) k h);
        shaped =
            λ k h.
            shaped_yes k (every_key_lem no_edge_without_node ts (and_left (every_key no_edge_without_node ts) _ e₂) k h)
            (every_key_lem edge_has_end ts (and_left (every_key edge_has_end ts) _ e₃) k h);
        nothing_missing =
            λ k h.
            supported_yes ts k (every_key_lem (node_supported ts) ts (and_left (every_key (node_supported ts) ts) _ e₄) k h)
            (every_key_lem (edge_supported ts) ts (and_right (every_key (node_supported ts) ts) _ e₄) k h);
      },
  λ R.
      and_both (ascends_from_universe ts) _ (yes_from_universe ts R.ascends R.first)
      (and_both (every_key small_key ts) _ (key_every small_key ts (λ k h. yes_small k (R.small k h)))
      (and_both (every_key no_edge_without_node ts) _ (key_every no_edge_without_node ts (λ k h. yes_named k (R.shaped k h)))
      (and_both (every_key edge_has_end ts) _ (key_every edge_has_end ts (λ k h. yes_ends k (R.shaped k h)))
      (and_both (every_key (node_supported ts) ts) _ (key_every (node_supported ts) ts (λ k h. yes_node ts k (R.nothing_missing k h)))
      (key_every (edge_supported ts) ts (λ k h. yes_edge ts k (R.nothing_missing k h))))))),
)
