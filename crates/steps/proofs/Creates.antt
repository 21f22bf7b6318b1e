-- How many tuples C adds, and that there is room for each (specs/Objects.antt).
use mathlib.Core.Bool.{Bool, true, false, cond, not, ◌||◌}
use mathlib.Core.List.{List, [], ◌∷◌, ◌++◌}
use mathlib.Core.Logic.{⊎_elim, ◌≢◌}
use mathlib.Core.Path.{◌≡◌, refl, sym, ap, ap₂, ◌∙◌, subst}
use mir.Syntax.{w64}
use mir.Val.{Fits}
use Prim.Native.Nat.{ℕ, suc, ◌+◌, ◌≤◌, ◌<◌}
use native.Mathlib.Omega.{arith}
use lib.ListN.{length}
use Rattle.model.specs.declared.Fields.{Fields}
use Rattle.model.specs.declared.Direction.TheVariants.{Outpointing, Inpointing, Adjacent}
use Rattle.model.specs.declared.Key.{Key}
use Rattle.model.specs.declared.Object.{Object}
use Rattle.model.specs.Ordered.{Ascending, holds}
use Rattle.model.specs.Keys.{key_of, compare_keys, same_key, edge_key}
use Rattle.model.specs.Tuples.{Tuples, present, add, add_all, missing}
use Rattle.layouts.specs.Buffer.{capacity_of, tuples_of}
use Rattle.model.specs.Steps.{object_keys, created}
use Rattle.model.proofs.Bools.{or_cases, or_left, or_right, not_yes, not_no, clash, failed}
use Rattle.model.proofs.Tuples.{same_key_lem, own_key, among, present_add, present_add_all, add_all_ascending, length_add_all}
use Rattle.layouts.proofs.Sizes.{capacity_length}
use Rattle.chain.specs.Links.{both_ways, Linked, Hint, KeepsHints, Edited}
use Rattle.edit.specs.Edits.{Adding}
use Rattle.located.specs.declared.Near.{Near}
use Rattle.located.specs.Located.{NearIn}
use Rattle.steps.specs.Objects.{pair_key, main_key, is_adjacent, is_space, Room}
use Rattle.steps.proofs.Named.{object_keys_lem, keys_one, keys_two, edited_twice}

-- ---- how many of some keys are missing

-- a second key that is the first adds nothing; any other adds what it would alone
both_same : (k j : Key) (ts : Tuples) → j ≡ k → length (missing (k ∷ []) ts) ≡ length (missing (k ∷ j ∷ []) ts)
unfolding missing
both_same k j ts e = go (present k ts) refl
  where
    go : (b : Bool) → present k ts ≡ b
        → length (cond b [] (k ∷ [])) ≡ length (cond b (cond (present j ts) [] (j ∷ [])) (k ∷ cond (present j (add k ts)) [] (j ∷ [])))
    go true p = ap (λ (x : Bool). length (cond x [] (j ∷ []))) (sym (ap (λ (i : Key). present i ts) e ∙ p))
    go false p =
        ap (λ (x : Bool). length (k ∷ cond x [] (j ∷ [])))
        (sym (present_add j k ts ∙ or_left (same_key j k) (present j ts) (ap (λ (i : Key). same_key i k) e ∙ own_key k)))

one_more : (n : ℕ) → 1 + n ≡ suc n
one_more n = omega arith

none_more : (n : ℕ) → 0 + n ≡ n
none_more n = omega arith

both_apart : (k j : Key) (ts : Tuples) → same_key j k ≡ false
    → length (missing (k ∷ []) ts) + length (missing (j ∷ []) ts) ≡ length (missing (k ∷ j ∷ []) ts)
unfolding missing
both_apart k j ts e = go (present k ts)
  where
    go : (b : Bool)
        → length (cond b [] (k ∷ [])) + length (cond (present j ts) [] (j ∷ []))
        ≡ length (cond b (cond (present j ts) [] (j ∷ [])) (k ∷ cond (present j (add k ts)) [] (j ∷ [])))
    go true = none_more (length (cond (present j ts) [] (j ∷ [])))
    go false =
        one_more (length (cond (present j ts) [] (j ∷ [])))
        ∙ ap (λ (x : Bool). length (k ∷ cond x [] (j ∷ []))) (sym (present_add j k ts ∙ ap (λ (x : Bool). x || present j ts) e))

-- ---- in one space

-- an object with two keys is an adjacent pair
two_keys : (o : Object) (s : ℕ) (f : Fields) → is_adjacent o ≡ true → main_key o s f ≡ edge_key s f.n f.g f.m
unfolding is_adjacent both_ways main_key pair_key
two_keys (Object.P Outpointing) s f e = refl
two_keys (Object.P Inpointing) s f e = absurd (clash e refl)
two_keys (Object.P Adjacent) s f e = refl
two_keys Object.UN s f e = absurd (clash e refl)
two_keys Object.US s f e = absurd (clash e refl)

pub missing_one : (o : Object) (s : ℕ) (f : Fields) (k : Key) (ts : Tuples) (a : Bool) (x : ℕ)
    → k ≡ main_key o s f → x ≡ length (missing (k ∷ []) ts) → a ≡ is_adjacent o → not a ≡ true → x ≡ length (missing (object_keys o s f) ts)
missing_one o s f k ts a x K X A e = X ∙ ap (λ (ks : List Key). length (missing ks ts)) (keys_one o s f k a K A (not_yes a e))

pub missing_loop : (o : Object) (s : ℕ) (f : Fields) (k : Key) (ts : Tuples) (a : Bool) (x : ℕ)
    → k ≡ main_key o s f → x ≡ length (missing (k ∷ []) ts) → a ≡ is_adjacent o → not a ≡ false → f.n ≡ f.m
    → x ≡ length (missing (object_keys o s f) ts)
missing_loop o s f k ts a x K X A e loop =
    let two = not_no a e in
    let second : Key = edge_key s f.m f.g f.n in
    let same : second ≡ k = (λ i. edge_key s (sym loop i) f.g (loop i)) ∙ sym (two_keys o s f (sym A ∙ two)) ∙ sym K in
    X ∙ both_same k second ts same ∙ ap (λ (ks : List Key). length (missing ks ts)) (keys_two o s f k second a K A two refl)

pub missing_two : (o : Object) (s : ℕ) (f : Fields) (k j : Key) (ts : Tuples) (a : Bool) (x y : ℕ)
    → k ≡ main_key o s f → x ≡ length (missing (k ∷ []) ts) → a ≡ is_adjacent o → not a ≡ false → f.n ≢ f.m
    → j ≡ edge_key s f.m f.g f.n → y ≡ length (missing (j ∷ []) ts) → x + y ≡ length (missing (object_keys o s f) ts)
missing_two o s f k j ts a x y K X A e apart same Y =
    let two = not_no a e in
    let other : same_key j k ≡ false =
    failed (same_key j k) (λ t. apart (sym (ap (λ (i : Key). i.n) (sym same ∙ same_key_lem j k t ∙ K ∙ two_keys o s f (sym A ∙ two))))) in
    ap₂ ◌+◌ X Y ∙ both_apart k j ts other ∙ ap (λ (ks : List Key). length (missing ks ts)) (keys_two o s f k j a K A two same)

-- ---- in s and in 0

add_all_append : (xs ys : List Key) (ts : Tuples) → add_all (xs ++ ys) ts ≡ add_all ys (add_all xs ts)
unfolding add_all
add_all_append [] ys ts = refl
add_all_append (x ∷ xs) ys ts = add_all_append xs ys (add x ts)

sums : (t x y z u : ℕ) → z ≡ t + u → z ≡ (t + x) + y → u ≡ x + y
sums t x y z u e f = omega (arith, e, f)

missing_append : (xs ys : List Key) (ts : Tuples) → Ascending key_of compare_keys ts
    → length (missing (xs ++ ys) ts) ≡ length (missing xs ts) + length (missing ys (add_all xs ts))
missing_append xs ys ts h =
    sums (length ts) (length (missing xs ts)) (length (missing ys (add_all xs ts))) (length (add_all (xs ++ ys) ts)) (length (missing (xs ++ ys) ts))
    (length_add_all (xs ++ ys) ts h)
    (ap length (add_all_append xs ys ts) ∙ length_add_all ys (add_all xs ts) (add_all_ascending xs ts h)
    ∙ ap (λ (n : ℕ). n + length (missing ys (add_all xs ts))) (length_add_all xs ts h))

-- keys that are all present add nothing
all_present : (ks : List Key) (ts : Tuples) → ((j : Key) → among j ks ≡ true → present j ts ≡ true) → missing ks ts ≡ []
unfolding missing holds
all_present [] ts h = refl
all_present (k ∷ ks) ts h =
    ap (λ (b : Bool). cond b (missing ks ts) (k ∷ missing ks (add k ts))) (h k (or_left (same_key k k) (among k ks) (own_key k)))
    ∙ all_present ks ts (λ j e. h j (or_right (same_key j k) (among j ks) e))

-- what is missing depends on these keys alone
same_present : (ks : List Key) (ts us : Tuples) → ((j : Key) → among j ks ≡ true → present j ts ≡ present j us) → missing ks ts ≡ missing ks us
unfolding missing holds
same_present [] ts us h = refl
same_present (k ∷ ks) ts us h =
    ap (λ (b : Bool). cond b (missing ks ts) (k ∷ missing ks (add k ts))) (h k (or_left (same_key k k) (among k ks) (own_key k)))
    ∙ ap₂ (λ (xs ys : List Key). cond (present k us) xs (k ∷ ys)) (same_present ks ts us rest)
    (same_present ks (add k ts) (add k us)
    (λ j e. present_add j k ts ∙ ap (λ (b : Bool). same_key j k || b) (rest j e) ∙ sym (present_add j k us)))
  where
    rest : (j : Key) → among j ks ≡ true → present j ts ≡ present j us
    rest j e = h j (or_right (same_key j k) (among j ks) e)

-- the keys of an object in space s are in space s
main_space : (o : Object) (s : ℕ) (f : Fields) → (main_key o s f).s ≡ s
unfolding main_key pair_key
main_space (Object.P Outpointing) s f = refl
main_space (Object.P Inpointing) s f = refl
main_space (Object.P Adjacent) s f = refl
main_space Object.UN s f = refl
main_space Object.US s f = refl

keys_space : (o : Object) (s : ℕ) (f : Fields) (j : Key) → among j (object_keys o s f) ≡ true → j.s ≡ s
unfolding holds
keys_space o s f j e =
    ⊎_elim (λ t. ap (λ (i : Key). i.s) (same_key_lem j (main_key o s f) t) ∙ main_space o s f) (go (is_adjacent o))
    (or_cases (same_key j (main_key o s f)) (among j (cond (is_adjacent o) (second ∷ []) [])) (ap (among j) (sym (object_keys_lem o s f)) ∙ e))
  where
    second : Key
    second = edge_key s f.m f.g f.n

    go : (a : Bool) → among j (cond a (second ∷ []) []) ≡ true → j.s ≡ s
    go true t =
        ⊎_elim (λ u. ap (λ (i : Key). i.s) (same_key_lem j second u)) (λ u. absurd (clash u refl)) (or_cases (same_key j second) false t)
    go false t = absurd (clash t refl)

-- what was added in a numbered space is not in 0
added_elsewhere : (o : Object) (s : ℕ) (f : Fields) (ts : Tuples) → s ≢ 0
    → missing (object_keys o 0 f) (add_all (object_keys o s f) ts) ≡ missing (object_keys o 0 f) ts
added_elsewhere o s f ts h =
    same_present (object_keys o 0 f) (add_all (object_keys o s f) ts) ts
    (λ j e.
    present_add_all j (object_keys o s f) ts
    ∙ ap (λ (b : Bool). b || present j ts)
    (failed (among j (object_keys o s f)) (λ t. h (sym (keys_space o s f j t) ∙ keys_space o 0 f j e))))

-- what was added is there
added_already : (ks : List Key) (ts : Tuples) → missing ks (add_all ks ts) ≡ []
added_already ks ts =
    all_present ks (add_all ks ts) (λ j e. present_add_all j ks ts ∙ or_left (among j ks) (present j ts) e)

pub created_keys : (o : Object) (f : Fields) → created o f ≡ cond (is_space o) (object_keys o f.s f) (object_keys o f.s f ++ object_keys o 0 f)
unfolding created is_space
created_keys (Object.P d) f = refl
created_keys Object.UN f = refl
created_keys Object.US f = refl

created_one : (o : Object) (f : Fields) → is_space o ≡ true → created o f ≡ object_keys o f.s f
created_one o f e = created_keys o f ∙ ap (λ (b : Bool). cond b (object_keys o f.s f) (object_keys o f.s f ++ object_keys o 0 f)) e

created_two : (o : Object) (f : Fields) → is_space o ≡ false → created o f ≡ object_keys o f.s f ++ object_keys o 0 f
created_two o f e = created_keys o f ∙ ap (λ (b : Bool). cond b (object_keys o f.s f) (object_keys o f.s f ++ object_keys o 0 f)) e

-- how many keys C adds, from how many it adds in s and in 0
abbrev count_in : Object → ℕ → Fields → Tuples → ℕ
count_in o s f ts = length (missing (object_keys o s f) ts)

pub count_space : (o : Object) (f : Fields) (ts : Tuples) (a : Bool) (x : ℕ) → x ≡ count_in o f.s f ts → a ≡ is_space o → a ≡ true
    → x ≡ length (missing (created o f) ts)
count_space o f ts a x X A e = X ∙ ap (λ (ks : List Key). length (missing ks ts)) (sym (created_one o f (sym A ∙ e)))

count_two : (o : Object) (f : Fields) (ts : Tuples) → Ascending key_of compare_keys ts → is_space o ≡ false
    → length (missing (created o f) ts) ≡ count_in o f.s f ts + length (missing (object_keys o 0 f) (add_all (object_keys o f.s f) ts))
count_two o f ts h e =
    ap (λ (ks : List Key). length (missing ks ts)) (created_two o f e) ∙ missing_append (object_keys o f.s f) (object_keys o 0 f) ts h

plus_none : (x : ℕ) → x ≡ x + 0
plus_none x = omega arith

pub count_universe : (b : List ℕ) (o : Object) (f : Fields) (x : ℕ) → Linked b → x ≡ count_in o f.s f (tuples_of b) → f.s ≡ 0
    → x ≡ length (missing (created o f) (tuples_of b))
count_universe b o f x L X zero = go (is_space o) refl
  where
    ts : Tuples
    ts = tuples_of b

    go : (a : Bool) → is_space o ≡ a → x ≡ length (missing (created o f) ts)
    go true e = count_space o f ts true x X (sym e) refl
    go false e =
        X
        ∙ plus_none (count_in o f.s f ts)
        ∙ ap (λ (ks : List Key). count_in o f.s f ts + length ks)
        (sym (ap (λ (s : ℕ). missing (object_keys o s f) (add_all (object_keys o f.s f) ts)) (sym zero) ∙ added_already (object_keys o f.s f) ts))
        ∙ sym (count_two o f ts L.ascends e)

pub count_both : (b : List ℕ) (o : Object) (f : Fields) (a : Bool) (x y : ℕ) → Linked b → x ≡ count_in o f.s f (tuples_of b) → f.s ≢ 0
    → a ≡ is_space o → a ≡ false → y ≡ count_in o 0 f (tuples_of b) → x + y ≡ length (missing (created o f) (tuples_of b))
count_both b o f a x y L X apart A e Y =
    ap₂ ◌+◌ X Y
    ∙ ap (λ (ks : List Key). count_in o f.s f (tuples_of b) + length ks) (sym (added_elsewhere o f.s f (tuples_of b) apart))
    ∙ sym (count_two o f (tuples_of b) L.ascends (sym A ∙ e))

-- at most two in one space
pub at_most_two : (o : Object) (s : ℕ) (f : Fields) (ts : Tuples) → count_in o s f ts ≤ 2
unfolding missing
at_most_two o s f ts =
    subst (λ (ks : List Key). length (missing ks ts) ≤ 2) (sym (object_keys_lem o s f)) (go (is_adjacent o) (present (main_key o s f) ts))
  where
    second : Key
    second = edge_key s f.m f.g f.n

    one : (b : Bool) → length (cond b [] (second ∷ [])) ≤ 2
    one true = omega arith
    one false = omega arith

    two : (b : Bool) → length (main_key o s f ∷ cond b [] (second ∷ [])) ≤ 2
    two true = omega arith
    two false = omega arith

    go : (a b : Bool)
        → length (cond b (missing (cond a (second ∷ []) []) ts) (main_key o s f ∷ missing (cond a (second ∷ []) []) (add (main_key o s f) ts))) ≤ 2
    go true true = one (present second ts)
    go true false = two (present second (add (main_key o s f) ts))
    go false true = omega arith
    go false false = omega arith

pub two_spaces_sum : (o : Object) (s r : ℕ) (f : Fields) (ts : Tuples) (x y : ℕ) → x ≡ count_in o s f ts → y ≡ count_in o r f ts → Fits w64 (x + y)
two_spaces_sum o s r f ts x y X Y = omega (arith, X, Y, at_most_two o s f ts, at_most_two o r f ts)

-- ---- room for each

pub room_first : {b : List ℕ} (k : Key) (ks : List Key) → Linked b → Room b (k ∷ ks) → Adding b k
unfolding missing
room_first {b} k ks L h = record { linked = L; room = λ e. below e }
  where
    ts : Tuples
    ts = tuples_of b

    below : present k ts ≡ false → length ts < capacity_of b
    below e =
        let h2 : length ts + suc (length (missing ks (add k ts))) ≤ capacity_of b =
        subst (λ (x : Bool). length ts + length (cond x (missing ks ts) (k ∷ missing ks (add k ts))) ≤ capacity_of b) e h in
        omega (arith, h2)

-- room for all is room for the rest once some are added
pub room_rest : {b b' : List ℕ} (xs ys : List Key) → Linked b → Room b (xs ++ ys) → Edited b b' (add_all xs (tuples_of b)) → Room b' ys
room_rest {b} {b'} xs ys L h E =
    let ts : Tuples = tuples_of b in
    let all : length (add_all (xs ++ ys) ts) ≡ length ts + length (missing (xs ++ ys) ts) = length_add_all (xs ++ ys) ts L.ascends in
    let rest : length (add_all (xs ++ ys) ts) ≡ length (add_all xs ts) + length (missing ys (add_all xs ts)) =
    ap length (add_all_append xs ys ts) ∙ length_add_all ys (add_all xs ts) (add_all_ascending xs ts L.ascends) in
    let fits : length (add_all xs ts) + length (missing ys (add_all xs ts)) ≤ capacity_of b =
    subst (λ (n : ℕ). n ≤ capacity_of b) (sym all ∙ rest) h in
    subst (λ (us : Tuples). length us + length (missing ys us) ≤ capacity_of b') (sym E.tuples)
    (subst (λ (n : ℕ). length (add_all xs ts) + length (missing ys (add_all xs ts)) ≤ n) (sym (capacity_length b b' E.size)) fits)

-- room for all is room for the first of them
pub room_some : {b : List ℕ} (xs ys : List Key) → Linked b → Room b (xs ++ ys) → Room b xs
room_some {b} xs ys L h =
    let ts : Tuples = tuples_of b in
    let parts = missing_append xs ys ts L.ascends in
    omega (arith, parts, h)

-- ---- an object's tuples in one space

pub adding_first : {b : List ℕ} (o : Object) (s : ℕ) (f : Fields) (k : Key) → Linked b → Room b (object_keys o s f) → k ≡ main_key o s f → Adding b k
adding_first {b} o s f k L h K =
    let rest : List Key = cond (is_adjacent o) (edge_key s f.m f.g f.n ∷ []) [] in
    subst (Adding b) (sym K) (room_first (main_key o s f) rest L (subst (Room b) (object_keys_lem o s f) h))

pub added_one : {b b' : List ℕ} (o : Object) (s : ℕ) (f : Fields) (k : Key) (a : Bool) → k ≡ main_key o s f → a ≡ is_adjacent o → a ≡ false
    → Edited b b' (add k (tuples_of b)) → Edited b b' (add_all (object_keys o s f) (tuples_of b))
unfolding add_all
added_one {b} {b'} o s f k a K A e E = subst (λ (ks : List Key). Edited b b' (add_all ks (tuples_of b))) (keys_one o s f k a K A e) E

pub adding_second : {b b' : List ℕ} (o : Object) (s : ℕ) (f : Fields) (k j : Key) (a : Bool) → Linked b → Room b (object_keys o s f)
    → k ≡ main_key o s f → a ≡ is_adjacent o → a ≡ true → j ≡ edge_key s f.m f.g f.n
    → Edited b b' (add k (tuples_of b)) → Adding b' j
unfolding add_all
adding_second {b} {b'} o s f k j a L h K A e same E =
    room_first j [] E.linked (room_rest (k ∷ []) (j ∷ []) L (subst (Room b) (sym (keys_two o s f k j a K A e same)) h) E)

pub added_two : {b b' b'' : List ℕ} (o : Object) (s : ℕ) (f : Fields) (k j : Key) (a : Bool)
    → k ≡ main_key o s f → a ≡ is_adjacent o → a ≡ true → j ≡ edge_key s f.m f.g f.n
    → Edited b b' (add k (tuples_of b)) → Edited b' b'' (add j (tuples_of b')) → Edited b b'' (add_all (object_keys o s f) (tuples_of b))
unfolding add_all
added_two {b} {b'} {b''} o s f k j a K A e same E D =
    subst (λ (ks : List Key). Edited b b'' (add_all ks (tuples_of b))) (keys_two o s f k j a K A e same) (edited_twice (add j) E D)

-- hints that stay hints twice
pub kept_twice : {b b' b'' : List ℕ} → KeepsHints b b' → KeepsHints b' b'' → KeepsHints b b''
kept_twice K M = λ i H. M i (K i H)

pub second_kept : {b b' : List ℕ} (near : Near) → KeepsHints b b' → NearIn b near → Hint b' near.second
second_kept near K N = K _ N.second

-- ---- in s and in 0

pub room_in_space : {b : List ℕ} (o : Object) (f : Fields) → Linked b → Room b (created o f) → Room b (object_keys o f.s f)
room_in_space {b} o f L h = go (is_space o) refl
  where
    go : (a : Bool) → is_space o ≡ a → Room b (object_keys o f.s f)
    go true e = subst (Room b) (created_one o f e) h
    go false e = room_some (object_keys o f.s f) (object_keys o 0 f) L (subst (Room b) (created_two o f e) h)

pub room_in_universe : {b b' : List ℕ} (o : Object) (f : Fields) (a : Bool) → Linked b → Room b (created o f) → a ≡ is_space o → a ≡ false
    → Edited b b' (add_all (object_keys o f.s f) (tuples_of b)) → Room b' (object_keys o 0 f)
room_in_universe {b} o f a L h A e E =
    room_rest (object_keys o f.s f) (object_keys o 0 f) L (subst (Room b) (created_two o f (sym A ∙ e)) h) E

pub created_space : {b b' : List ℕ} (o : Object) (f : Fields) (a : Bool) → a ≡ is_space o → a ≡ true
    → Edited b b' (add_all (object_keys o f.s f) (tuples_of b)) → Edited b b' (add_all (created o f) (tuples_of b))
created_space {b} {b'} o f a A e E =
    subst (λ (ks : List Key). Edited b b' (add_all ks (tuples_of b))) (sym (created_one o f (sym A ∙ e))) E

pub created_both : {b b' b'' : List ℕ} (o : Object) (f : Fields) (a : Bool) → a ≡ is_space o → a ≡ false
    → Edited b b' (add_all (object_keys o f.s f) (tuples_of b)) → Edited b' b'' (add_all (object_keys o 0 f) (tuples_of b'))
    → Edited b b'' (add_all (created o f) (tuples_of b))
created_both {b} {b'} {b''} o f a A e E D =
    subst (Edited b b'')
    (sym (add_all_append (object_keys o f.s f) (object_keys o 0 f) (tuples_of b))
    ∙ sym (ap (λ (ks : List Key). add_all ks (tuples_of b)) (created_two o f (sym A ∙ e))))
    (edited_twice (add_all (object_keys o 0 f)) E D)
