-- Laws of what a step can do to the machine's state (specs/Tuples.antt): which keys are present afterwards, that keys still ascend, how many tuples there are.
use mathlib.Core.Bool.{Bool, true, false, cond, not, ◌&&◌, ◌||◌, and-false}
use mathlib.Core.List.{List, [], ◌∷◌}
use mathlib.Core.Path.{◌≡◌, refl, sym, ap, ap₂, ◌∙◌, subst}
use Prim.Native.Nat.{Ordering}
use Prim.Native.Nat.{suc, ◌+◌, ◌≤◌}
use native.Mathlib.Nat.{add-zero}
use native.Mathlib.Omega.{arith}
use lib.ListN.{length}
use Rattle.model.specs.Ordered.{holds, Above, Ascending}
use Rattle.model.specs.declared.Key.{Key}
use Rattle.model.specs.Keys.{Value, NIL, Tuple, key_of, compare_keys, same_key}
use Rattle.model.specs.Tuples.{Tuples, present, add, add_all, missing, assign, remove}
use Rattle.model.proofs.Bools.{or_left}
use Rattle.model.proofs.Order.{keys}
use Rattle.model.proofs.Ordered.{at_element, self, holds_put, above_less, ascending_tail, put_ascending, put_held, put_length}

-- ---- the key is there

pub same_key_lem : (j k : Key) → same_key j k ≡ true → j ≡ k
same_key_lem j k e = at_element key_of compare_keys keys j k e

pub own_key : (k : Key) → same_key k k ≡ true
own_key k = self key_of compare_keys keys k

-- does a key stand in a list of keys
abbrev pub among : Key → List Key → Bool
among k ks = holds (λ (j : Key). j) compare_keys k ks

-- ---- add

pub present_add : (j k : Key) (ts : Tuples) → present j (add k ts) ≡ (same_key j k || present j ts)
present_add j k ts = holds_put key_of compare_keys keys j (record { key = k; value = NIL }) ts

pub add_ascending : (k : Key) (ts : Tuples) → Ascending key_of compare_keys ts → Ascending key_of compare_keys (add k ts)
add_ascending k ts h = put_ascending key_of compare_keys keys (record { key = k; value = NIL }) ts h

or_middle : (a b c : Bool) → (a || (b || c)) ≡ ((b || a) || c)
or_middle true true c = refl
or_middle true false c = refl
or_middle false true c = refl
or_middle false false c = refl

-- exactly the keys that were added are new
pub present_add_all : (j : Key) (ks : List Key) (ts : Tuples) → present j (add_all ks ts) ≡ (among j ks || present j ts)
unfolding add_all holds
present_add_all j [] ts = refl
present_add_all j (k ∷ ks) ts =
    present_add_all j ks (add k ts)
    ∙ ap (λ (b : Bool). among j ks || b) (present_add j k ts)
    ∙ or_middle (among j ks) (same_key j k) (present j ts)

pub add_all_ascending : (ks : List Key) (ts : Tuples) → Ascending key_of compare_keys ts → Ascending key_of compare_keys (add_all ks ts)
unfolding add_all
add_all_ascending [] ts h = h
add_all_ascending (k ∷ ks) ts h = add_all_ascending ks (add k ts) (add_ascending k ts h)

-- "tuples present + tuples to add"
pub length_add_all : (ks : List Key) (ts : Tuples) → Ascending key_of compare_keys ts → length (add_all ks ts) ≡ length ts + length (missing ks ts)
unfolding add_all missing
length_add_all [] ts h = sym (add-zero (length ts))
length_add_all (k ∷ ks) ts h = go (present k ts) refl (length_add_all ks ts h) (length_add_all ks (add k ts) (add_ascending k ts h))
  where
    new : Tuple
    new = record { key = k; value = NIL }

    go : (b : Bool) → present k ts ≡ b → length (add_all ks ts) ≡ length ts + length (missing ks ts)
        → length (add_all ks (add k ts)) ≡ length (add k ts) + length (missing ks (add k ts))
        → length (add_all ks (add k ts)) ≡ length ts + length (cond b (missing ks ts) (k ∷ missing ks (add k ts)))
    go true e here there = ap (λ (us : Tuples). length (add_all ks us)) (put_held key_of compare_keys keys new ts h e) ∙ here
    go false e here there =
        let longer : length (add k ts) ≡ suc (length ts) = put_length key_of compare_keys keys new ts e in
        omega (arith, there, longer)

-- the keys to add are those that are given and missing ..
pub among_missing : (j : Key) (ks : List Key) (ts : Tuples) → among j (missing ks ts) ≡ (among j ks && not (present j ts))
unfolding missing holds
among_missing j [] ts = refl
among_missing j (k ∷ ks) ts =
    go (present k ts) (same_key j k) refl refl (among_missing j ks ts) (among_missing j ks (add k ts) ∙ ap (λ (b : Bool). among j ks && not b) (present_add j k ts))
  where
    go : (b d : Bool) → present k ts ≡ b → same_key j k ≡ d
        → among j (missing ks ts) ≡ (among j ks && not (present j ts))
        → among j (missing ks (add k ts)) ≡ (among j ks && not (same_key j k || present j ts))
        → among j (cond b (missing ks ts) (k ∷ missing ks (add k ts))) ≡ ((same_key j k || among j ks) && not (present j ts))
    go true true e f here there =
        let p : present j ts ≡ true = subst (λ (i : Key). present i ts ≡ true) (sym (same_key_lem j k f)) e in
        here ∙ ap (λ (b : Bool). among j ks && not b) p ∙ and-false (among j ks) ∙ sym (ap₂ (λ (a b : Bool). (a || among j ks) && not b) f p)
    go true false e f here there = here ∙ ap (λ (a : Bool). (a || among j ks) && not (present j ts)) (sym f)
    go false true e f here there =
        let p : present j ts ≡ false = subst (λ (i : Key). present i ts ≡ false) (sym (same_key_lem j k f)) e in
        ap (λ (a : Bool). a || among j (missing ks (add k ts))) f ∙ sym (ap₂ (λ (a b : Bool). (a || among j ks) && not b) f p)
    go false false e f here there =
        ap₂ (λ (a b : Bool). a || b) f (there ∙ ap (λ (a : Bool). among j ks && not (a || present j ts)) f)
        ∙ ap (λ (a : Bool). (a || among j ks) && not (present j ts)) (sym f)

-- .. each once
abbrev pub Once : List Key → Type 0
Once [] = Unit {0}
Once (k ∷ ks) = (among k ks ≡ false) × Once ks

pub missing_once : (ks : List Key) (ts : Tuples) → Once (missing ks ts)
unfolding missing
missing_once [] ts = tt
missing_once (k ∷ ks) ts = go (present k ts) (missing_once ks ts) (missing_once ks (add k ts))
  where
    taken : present k (add k ts) ≡ true
    taken = present_add k k ts ∙ or_left (same_key k k) (present k ts) (own_key k)

    go : (b : Bool) → Once (missing ks ts) → Once (missing ks (add k ts)) → Once (cond b (missing ks ts) (k ∷ missing ks (add k ts)))
    go true here there = here
    go false here there =
        (among_missing k ks (add k ts) ∙ ap (λ (b : Bool). among k ks && not b) taken ∙ and-false (among k ks), there)

-- ---- remove

pub present_remove : (j : Key) (takes : Key → Bool) (ts : Tuples) → present j (remove takes ts) ≡ (present j ts && not (takes j))
unfolding remove holds
present_remove j takes [] = refl
present_remove j takes (t ∷ ts) = go (takes t.key) (same_key j t.key) refl refl (present_remove j takes ts)
  where
    go : (b d : Bool) → takes t.key ≡ b → same_key j t.key ≡ d
        → present j (remove takes ts) ≡ (present j ts && not (takes j))
        → present j (cond b (remove takes ts) (t ∷ remove takes ts)) ≡ ((same_key j t.key || present j ts) && not (takes j))
    go true true e f ih =
        let p : takes j ≡ true = ap takes (same_key_lem j t.key f) ∙ e in
        ih ∙ ap (λ (b : Bool). present j ts && not b) p ∙ and-false (present j ts)
        ∙ sym (ap₂ (λ (a b : Bool). (a || present j ts) && not b) f p)
    go true false e f ih = ih ∙ ap (λ (a : Bool). (a || present j ts) && not (takes j)) (sym f)
    go false true e f ih =
        let p : takes j ≡ false = ap takes (same_key_lem j t.key f) ∙ e in
        ap (λ (a : Bool). a || present j (remove takes ts)) f ∙ sym (ap₂ (λ (a b : Bool). (a || present j ts) && not b) f p)
    go false false e f ih =
        ap₂ (λ (a b : Bool). a || b) f ih ∙ ap (λ (a : Bool). (a || present j ts) && not (takes j)) (sym f)

pub remove_above : (k : Key) (takes : Key → Bool) (ts : Tuples) → Above key_of compare_keys k ts → Above key_of compare_keys k (remove takes ts)
unfolding remove
remove_above k takes [] h = tt
remove_above k takes (t ∷ ts) h =
    go (takes t.key) (remove_above k takes ts (above_less key_of compare_keys keys k t.key ts h.0 h.1)) (remove_above t.key takes ts h.1)
  where
    go : (b : Bool) → Above key_of compare_keys k (remove takes ts) → Above key_of compare_keys t.key (remove takes ts)
        → Above key_of compare_keys k (cond b (remove takes ts) (t ∷ remove takes ts))
    go true without rest = without
    go false without rest = (h.0, rest)

pub remove_ascending : (takes : Key → Bool) (ts : Tuples) → Ascending key_of compare_keys ts → Ascending key_of compare_keys (remove takes ts)
unfolding remove
remove_ascending takes [] h = tt
remove_ascending takes (t ∷ ts) h = go (takes t.key) (remove_above t.key takes ts h)
  where
    go : (b : Bool) → Above key_of compare_keys t.key (remove takes ts) → Ascending key_of compare_keys (cond b (remove takes ts) (t ∷ remove takes ts))
    go true rest = ascending_tail key_of compare_keys keys t.key (remove takes ts) rest
    go false rest = rest

pub length_remove : (takes : Key → Bool) (ts : Tuples) → length (remove takes ts) ≤ length ts
unfolding remove
length_remove takes [] = omega arith
length_remove takes (t ∷ ts) = go (takes t.key) (length_remove takes ts)
  where
    go : (b : Bool) → length (remove takes ts) ≤ length ts → length (cond b (remove takes ts) (t ∷ remove takes ts)) ≤ suc (length ts)
    go true h = omega arith
    go false h = omega arith

-- ---- assign

abbrev reassigned : Bool → Value → Tuple → Tuple
reassigned b v t = cond b (record { key = t.key; value = v }) t

reassigned_key : (b : Bool) (v : Value) (t : Tuple) → (reassigned b v t).key ≡ t.key
reassigned_key true v t = refl
reassigned_key false v t = refl

pub present_assign : (j k : Key) (v : Value) (ts : Tuples) → present j (assign k v ts) ≡ present j ts
unfolding assign holds
present_assign j k v [] = refl
present_assign j k v (t ∷ ts) = ap₂ (λ (i : Key) (b : Bool). same_key j i || b) (reassigned_key (same_key k t.key) v t) (present_assign j k v ts)

pub assign_above : (j k : Key) (v : Value) (ts : Tuples) → Above key_of compare_keys j ts → Above key_of compare_keys j (assign k v ts)
unfolding assign
assign_above j k v [] h = tt
assign_above j k v (t ∷ ts) h =
    let e : t.key ≡ (reassigned (same_key k t.key) v t).key = sym (reassigned_key (same_key k t.key) v t) in
    (subst (λ (i : Key). compare_keys j i ≡ Ordering.lt) e h.0, subst (λ (i : Key). Above key_of compare_keys i (assign k v ts)) e (assign_above t.key k v ts h.1))

pub assign_ascending : (k : Key) (v : Value) (ts : Tuples) → Ascending key_of compare_keys ts → Ascending key_of compare_keys (assign k v ts)
unfolding assign
assign_ascending k v [] h = tt
assign_ascending k v (t ∷ ts) h =
    subst (λ (i : Key). Above key_of compare_keys i (assign k v ts)) (sym (reassigned_key (same_key k t.key) v t)) (assign_above t.key k v ts h)

pub length_assign : (k : Key) (v : Value) (ts : Tuples) → length (assign k v ts) ≡ length ts
unfolding assign
length_assign k v [] = refl
length_assign k v (t ∷ ts) = ap suc (length_assign k v ts)
