-- What V, X, C and B say and do, by what is present: laws of values, and of existence.
use mathlib.Core.Bool.{Bool, true, false, cond, ◌||◌, false≢true, true≢false, or-false}
use mathlib.Core.List.{[], ◌∷◌}
use mathlib.Core.Logic.{inl, inr, ⊎_elim, ◌≢◌, ◌↔◌}
use mathlib.Core.Path.{◌≡◌, refl, sym, ap, ◌∙◌, subst}
use Prim.Native.Nat.{ℕ, Ordering}
use Rattle.model.specs.declared.Fields.{Fields}
use Rattle.model.specs.Ordered.{by_order, holds, put, Ascending}
use Rattle.model.specs.declared.Key.{Key}
use Rattle.model.specs.Keys.{Value, NIL, Tuple, key_of, space_key, node_key, edge_key, compare_keys, same_key}
use Rattle.model.specs.Tuples.{Tuples, present, any_present, value_at, add, assign, remove}
use Rattle.model.specs.declared.Direction.TheVariants.{Outpointing, Inpointing, Adjacent}
use Rattle.model.specs.declared.Object.{Object}
use Rattle.model.specs.declared.Operator.TheVariants.{Create, Exists}
use Rattle.model.specs.Pairs.{pair}
use Rattle.model.specs.Steps.{yes_no, object_keys, created, reply, after}
use Rattle.model.specs.Rules.{Has}
use Rattle.model.specs.Entries.{IsPair}
use Rattle.model.proofs.Bools.{or_cases, or_left, or_right, clash}
use Rattle.model.proofs.Order.{keys}
use Rattle.model.proofs.Ordered.{above_not_held, ascending_tail}
use Rattle.model.proofs.Tuples.{same_key_lem, among, present_add_all}

-- ---- values: "one value per key"

pub value_missing : (k : Key) (ts : Tuples) → present k ts ≡ false → value_at k ts ≡ NIL
unfolding value_at holds
value_missing k [] e = refl
value_missing k (t ∷ ts) e = go (same_key k t.key) (value_missing k ts) e
  where
    go : (b : Bool) → (present k ts ≡ false → value_at k ts ≡ NIL) → (b || present k ts) ≡ false → cond b t.value (value_at k ts) ≡ NIL
    go true ih f = absurd (true≢false f)
    go false ih f = ih f

-- "NIL where missing; a present one keeps its value": adding a key changes no value
pub value_add : (j k : Key) (ts : Tuples) → Ascending key_of compare_keys ts → value_at j (add k ts) ≡ value_at j ts
unfolding value_at put
value_add j k [] h = go (same_key j k)
  where
    go : (b : Bool) → cond b NIL NIL ≡ NIL
    go true = refl
    go false = refl
value_add j k (t ∷ ts) h = go (compare_keys k t.key) refl (value_add j k ts (ascending_tail key_of compare_keys keys t.key ts h))
  where
    new : Tuple
    new = record { key = k; value = NIL }

    first : (b : Bool) → same_key j k ≡ b → compare_keys k t.key ≡ Ordering.lt → cond b NIL (value_at j (t ∷ ts)) ≡ value_at j (t ∷ ts)
    first true e f =
        sym (ap (λ (i : Key). value_at i (t ∷ ts)) (same_key_lem j k e)
        ∙ value_missing k (t ∷ ts) (above_not_held key_of compare_keys keys k (t ∷ ts) (f, h)))
    first false e f = refl

    go : (o : Ordering) → compare_keys k t.key ≡ o → value_at j (add k ts) ≡ value_at j ts
        → value_at j (by_order o (new ∷ t ∷ ts) (t ∷ ts) (t ∷ add k ts)) ≡ value_at j (t ∷ ts)
    go Ordering.lt f ih = first (same_key j k) refl f
    go Ordering.eq f ih = refl
    go Ordering.gt f ih = ap (λ (v : Value). cond (same_key j t.key) t.value v) ih

-- "set": the key's own value ..
pub value_assign : (k : Key) (v : Value) (ts : Tuples) → Has k ts → value_at k (assign k v ts) ≡ v
unfolding value_at assign holds
value_assign k v [] e = absurd (false≢true e)
value_assign k v (t ∷ ts) e = go (same_key k t.key) refl (value_assign k v ts) e
  where
    go : (b : Bool) → same_key k t.key ≡ b → (present k ts ≡ true → value_at k (assign k v ts) ≡ v) → (b || present k ts) ≡ true
        → value_at k (cond b (record { key = t.key; value = v }) t ∷ assign k v ts) ≡ v
    go true f ih h = ap (λ (b : Bool). cond b v (value_at k (assign k v ts))) f
    go false f ih h = ap (λ (b : Bool). cond b t.value (value_at k (assign k v ts))) f ∙ ih h

-- .. and no other
pub value_assign_other : (j k : Key) (v : Value) (ts : Tuples) → same_key j k ≡ false → value_at j (assign k v ts) ≡ value_at j ts
unfolding value_at assign
value_assign_other j k v [] e = refl
value_assign_other j k v (t ∷ ts) e = go (same_key k t.key) refl (value_assign_other j k v ts e)
  where
    go : (b : Bool) → same_key k t.key ≡ b → value_at j (assign k v ts) ≡ value_at j ts
        → value_at j (cond b (record { key = t.key; value = v }) t ∷ assign k v ts) ≡ cond (same_key j t.key) t.value (value_at j ts)
    go true f ih =
        let other : same_key j t.key ≡ false = subst (λ (i : Key). same_key j i ≡ false) (same_key_lem k t.key f) e in
        ap (λ (b : Bool). cond b v (value_at j (assign k v ts))) other ∙ ih ∙ sym (ap (λ (b : Bool). cond b t.value (value_at j ts)) other)
    go false f ih = ap (λ (w : Value). cond (same_key j t.key) t.value w) ih

-- a tuple that is not taken keeps its value
pub value_remove : (j : Key) (takes : Key → Bool) (ts : Tuples) → takes j ≡ false → value_at j (remove takes ts) ≡ value_at j ts
unfolding value_at remove
value_remove j takes [] e = refl
value_remove j takes (t ∷ ts) e = go (takes t.key) refl (value_remove j takes ts e)
  where
    go : (b : Bool) → takes t.key ≡ b → value_at j (remove takes ts) ≡ value_at j ts
        → value_at j (cond b (remove takes ts) (t ∷ remove takes ts)) ≡ cond (same_key j t.key) t.value (value_at j ts)
    go true f ih = ih ∙ other (same_key j t.key) refl
      where
        other : (b : Bool) → same_key j t.key ≡ b → value_at j ts ≡ cond b t.value (value_at j ts)
        other true g = absurd (clash f (sym (ap takes (same_key_lem j t.key g)) ∙ e))
        other false g = refl
    go false f ih = ap (λ (w : Value). cond (same_key j t.key) t.value w) ih

-- ---- C: "add"

-- exactly the keys of the step are new
pub create_adds : (o : Object) (f : Fields) (ts : Tuples) (k : Key) → present k (after (Create o) f ts) ≡ (among k (created o f) || present k ts)
unfolding after
create_adds o f ts k = present_add_all k (created o f) ts

-- ---- X: "yes if the pair (g,m) of n is present in s", "is it there"

-- what X asks
abbrev pub Asked : Object → Fields → Tuples → Type 0
Asked (Object.P d) f ts = IsPair d f.s f.n ts (pair f.g f.m)
Asked Object.UN f ts = Has (node_key f.s f.n) ts
Asked Object.US f ts = Has (space_key f.s) ts

yes_said : {b : Bool} → yes_no b ≡ yes_no true → b ≡ true
yes_said e = cc

-- where an edge is asked for, its name is not 0: condition 3 sees to it
abbrev pub EdgeNamed : Object → Fields → Type 0
EdgeNamed (Object.P d) f = f.g ≢ 0
EdgeNamed Object.UN f = Unit {0}
EdgeNamed Object.US f = Unit {0}

-- X says yes exactly when what it asks is there
pub exists_exactly : (o : Object) (first : ℕ) (f : Fields) (ts : Tuples) → EdgeNamed o f → (reply (Exists o) first f ts ≡ yes_no true) ↔ Asked o f ts
unfolding reply object_keys any_present
exists_exactly (Object.P Outpointing) first f ts g = (λ e. (g, sym (or-false _) ∙ yes_said e), λ h. ap yes_no (or-false _ ∙ h.1))
exists_exactly (Object.P Inpointing) first f ts g = (λ e. (g, sym (or-false _) ∙ yes_said e), λ h. ap yes_no (or-false _ ∙ h.1))
exists_exactly (Object.P Adjacent) first f ts g = (
  λ e. ⊎_elim (λ h. inl (g, h)) (λ h. inr (g, sym (or-false _) ∙ h)) (or_cases _ _ (yes_said e)),
  λ h.
      let there : Bool = present (edge_key f.s f.n f.g f.m) ts in
      let back : Bool = present (edge_key f.s f.m f.g f.n) ts in
      ap yes_no (⊎_elim (λ a. or_left there (back || false) a.1) (λ a. or_right there (back || false) (or-false back ∙ a.1)) h),
)
exists_exactly Object.UN first f ts g = (λ e. sym (or-false _) ∙ yes_said e, λ h. ap yes_no (or-false _ ∙ h))
exists_exactly Object.US first f ts g = (λ e. sym (or-false _) ∙ yes_said e, λ h. ap yes_no (or-false _ ∙ h))
