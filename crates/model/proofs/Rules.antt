-- What a step can do to the state keeps the rules on tuples (specs/Rules.antt).
use mathlib.Core.Bool.{Bool, true, false, not, false≢true}
use mathlib.Core.List.{List, [], ◌∷◌}
use mathlib.Core.Logic.{◌⊎◌, inl, inr, ⊎_elim, ◌≢◌}
use mathlib.Core.Option.{Option, none, some}
use mathlib.Core.Path.{◌≡◌, refl, sym, ap, ◌∙◌, subst}
use Prim.Native.Nat.{ℕ, compare, Ordering}
use native.Mathlib.Omega.{arith}
use Rattle.model.specs.Ordered.{then_by, holds, Ascending}
use Rattle.model.specs.declared.Key.{Key}
use Rattle.model.specs.Keys.{Value, key_of, space_key, node_key, edge_key, compare_keys, same_key}
use Rattle.model.specs.Tuples.{Tuples, present, add_all, assign, assign_all, remove}
use Rattle.model.specs.Rules.{Has, Supported, Small, Shaped, first_key, TupleRules}
use Rattle.model.proofs.Bools.{or_cases, or_left, or_right, and_left, and_right, and_both, not_yes, no_not, failed, clash}
use Rattle.model.proofs.Order.{keys, lt≢gt, compare_lt}
use Rattle.model.proofs.Ordered.{above_held}
use Rattle.model.proofs.Tuples.{same_key_lem, own_key, among, present_add_all, add_all_ascending, present_remove, remove_ascending, present_assign, assign_ascending}

-- ---- UNIVERSE is first

later : (x y : Ordering) → then_by x y ≡ Ordering.lt → (x ≡ Ordering.lt) ⊎ (y ≡ Ordering.lt)
later Ordering.lt y e = inl refl
later Ordering.eq y e = inr e
later Ordering.gt y e = absurd (lt≢gt (sym e))

never_below_zero : (n : ℕ) → compare n 0 ≡ Ordering.lt → ⊥
never_below_zero n e = omega (arith, compare_lt n 0 e)

-- no key is below (0,0,0,0)
pub never_below_universe : (k : Key) → compare_keys k (space_key 0) ≡ Ordering.lt → ⊥
unfolding compare_keys
never_below_universe k e =
    ⊎_elim (never_below_zero k.s)
    (λ f.
    ⊎_elim (never_below_zero k.n)
    (λ h. ⊎_elim (never_below_zero k.g) (never_below_zero k.m) (later (compare k.g 0) (compare k.m 0) h))
    (later (compare k.n 0) _ f))
    (later (compare k.s 0) _ e)

pub universe_first : (ts : Tuples) → Ascending key_of compare_keys ts → Has (space_key 0) ts → first_key ts ≡ some (space_key 0)
unfolding holds
universe_first [] h e = absurd (false≢true e)
universe_first (t ∷ ts) h e =
    ⊎_elim (λ f. ap some (sym (same_key_lem (space_key 0) t.key f)))
    (λ f. absurd (never_below_universe t.key (above_held key_of compare_keys keys t.key (space_key 0) ts h f)))
    (or_cases (same_key (space_key 0) t.key) (present (space_key 0) ts) e)

some_first : {a b : Key} → some a ≡ some b → a ≡ b
some_first e = cc

pub first_universe : (ts : Tuples) → first_key ts ≡ some (space_key 0) → Has (space_key 0) ts
unfolding holds
first_universe [] e = absurd (never e)
  where
    never : ◌≡◌ {A = Option Key} none (some (space_key 0)) → ⊥
    never e = let z : ◌≡◌ {A = ℕ} 0 1 = cc in omega arith
first_universe (t ∷ ts) e =
    or_left (same_key (space_key 0) t.key) (present (space_key 0) ts)
    (subst (λ (k : Key). same_key (space_key 0) k ≡ true) (sym (some_first e)) (own_key (space_key 0)))

pub has_universe : (ts : Tuples) → TupleRules ts → Has (space_key 0) ts
has_universe ts R = first_universe ts R.first

-- ---- the same keys

supported_in : (ts us : Tuples) (k : Key) → ((j : Key) → Has j ts → Has j us) → Supported ts k → Supported us k
supported_in ts us k more S =
    record {
      node = λ a b. let d = S.node a b in (more (space_key k.s) d.0, more (node_key 0 k.n) d.1);
      edge =
          λ a.
          let d = S.edge a in
          (more (node_key k.s k.n) d.0, more (node_key k.s k.m) d.1, more (edge_key 0 k.n k.g k.m) d.2);
    }

-- the rules look at keys alone
pub same_keys : (ts us : Tuples) → ((j : Key) → present j us ≡ present j ts) → Ascending key_of compare_keys us → TupleRules ts → TupleRules us
same_keys ts us same h R =
    record {
      ascends = h;
      first = universe_first us h (same (space_key 0) ∙ has_universe ts R);
      small = λ k e. R.small k (sym (same k) ∙ e);
      shaped = λ k e. R.shaped k (sym (same k) ∙ e);
      nothing_missing = λ k e. supported_in ts us k (λ j f. same j ∙ f) (R.nothing_missing k (sym (same k) ∙ e));
    }

pub assign_rules : (k : Key) (v : Value) (ts : Tuples) → TupleRules ts → TupleRules (assign k v ts)
assign_rules k v ts R = same_keys ts (assign k v ts) (λ j. present_assign j k v ts) (assign_ascending k v ts R.ascends) R

pub assign_all_rules : (ks : List Key) (v : Value) (ts : Tuples) → TupleRules ts → TupleRules (assign_all ks v ts)
unfolding assign_all
assign_all_rules [] v ts R = R
assign_all_rules (k ∷ ks) v ts R = assign_all_rules ks v (assign k v ts) (assign_rules k v ts R)

-- ---- more keys

-- a key that may stand among the tuples us
pub record Fitting (us : Tuples) (k : Key) : Type 0 where
  pub small : Small k
  pub shaped : Shaped k
  pub supported : Supported us k

pub add_all_rules : (ks : List Key) (ts : Tuples) → TupleRules ts → ((k : Key) → among k ks ≡ true → Fitting (add_all ks ts) k) → TupleRules (add_all ks ts)
add_all_rules ks ts R new =
    record {
      ascends = h;
      first = universe_first (add_all ks ts) h (kept (space_key 0) (has_universe ts R));
      small = λ k e. ⊎_elim (λ f. (new k f).small) (λ f. R.small k f) (from k e);
      shaped = λ k e. ⊎_elim (λ f. (new k f).shaped) (λ f. R.shaped k f) (from k e);
      nothing_missing =
          λ k e. ⊎_elim (λ f. (new k f).supported) (λ f. supported_in ts (add_all ks ts) k kept (R.nothing_missing k f)) (from k e);
    }
  where
    h : Ascending key_of compare_keys (add_all ks ts)
    h = add_all_ascending ks ts R.ascends

    kept : (j : Key) → Has j ts → Has j (add_all ks ts)
    kept j e = present_add_all j ks ts ∙ or_right (among j ks) (present j ts) e

    from : (k : Key) → Has k (add_all ks ts) → (among k ks ≡ true) ⊎ Has k ts
    from k e = or_cases (among k ks) (present k ts) (sym (present_add_all k ks ts) ∙ e)

-- ---- fewer keys

-- a removal that takes with a tuple all that names it
pub record Fair (takes : Key → Bool) : Type 0 where
  pub universe : takes (space_key 0) ≡ false
  pub node : (k : Key) → k.n ≢ 0 → k.g ≡ 0 → (takes (space_key k.s) ≡ true → takes k ≡ true) × (takes (node_key 0 k.n) ≡ true → takes k ≡ true)
  pub edge : (k : Key) → k.g ≢ 0
      → (takes (node_key k.s k.n) ≡ true → takes k ≡ true)
      × (takes (node_key k.s k.m) ≡ true → takes k ≡ true)
      × (takes (edge_key 0 k.n k.g k.m) ≡ true → takes k ≡ true)

pub remove_rules : (takes : Key → Bool) (ts : Tuples) → Fair takes → TupleRules ts → TupleRules (remove takes ts)
remove_rules takes ts F R =
    record {
      ascends = h;
      first = universe_first (remove takes ts) h (stays (space_key 0) (has_universe ts R) F.universe);
      small = λ k e. R.small k (was k e);
      shaped = λ k e. R.shaped k (was k e);
      nothing_missing =
          λ k e.
          let S = R.nothing_missing k (was k e) in
          record {
            node =
                λ a b.
                let d = S.node a b in
                let f = F.node k a b in
                (too k e (space_key k.s) d.0 f.0, too k e (node_key 0 k.n) d.1 f.1);
            edge =
                λ a.
                let d = S.edge a in
                let f = F.edge k a in (
                  too k e (node_key k.s k.n) d.0 f.0,
                  too k e (node_key k.s k.m) d.1 f.1,
                  too k e (edge_key 0 k.n k.g k.m) d.2 f.2,
                );
          };
    }
  where
    h : Ascending key_of compare_keys (remove takes ts)
    h = remove_ascending takes ts R.ascends

    was : (k : Key) → Has k (remove takes ts) → Has k ts
    was k e = and_left (present k ts) (not (takes k)) (sym (present_remove k takes ts) ∙ e)

    left : (k : Key) → Has k (remove takes ts) → takes k ≡ false
    left k e = not_yes (takes k) (and_right (present k ts) (not (takes k)) (sym (present_remove k takes ts) ∙ e))

    stays : (k : Key) → Has k ts → takes k ≡ false → Has k (remove takes ts)
    stays k e f = present_remove k takes ts ∙ and_both (present k ts) (not (takes k)) e (no_not (takes k) f)

    -- where the key k is left, so is a key that would take k along
    too : (k : Key) → Has k (remove takes ts) → (j : Key) → Has j ts → (takes j ≡ true → takes k ≡ true) → Has j (remove takes ts)
    too k e j has along = stays j has (failed (takes j) (λ t. clash (along t) (left k e)))
