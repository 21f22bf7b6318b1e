-- The first condition that applies, as an error (specs/Checks.antt), and conditions 9 and 10 by what they count.
use mathlib.Core.Bool.{Bool, true, false, cond}
use mathlib.Core.List.{List, [], ◌∷◌, ◌++◌}
use mathlib.Core.Option.{Option, none, some}
use mathlib.Core.Path.{◌≡◌, refl, sym, ap, ap₂, ◌∙◌, subst}
use Prim.Native.Nat.{ℕ, suc, ◌+◌, ◌-◌, ◌≤◌}
use native.Mathlib.Omega.{arith}
use lib.Dec.{ltb}
use lib.ListN.{length}
use borrow.Author.Tests.{ltb-true, lt-ltb, le-ltb}
use Rattle.std.specs.Prelude.{Result, Ok, Err}
use Rattle.model.specs.declared.Call.{Call}
use Rattle.model.specs.declared.Decoded.{Decoded}
use Rattle.model.specs.declared.Key.{Key}
use Rattle.model.specs.declared.Listing.{Listing}
use Rattle.model.specs.declared.Operator.{Operator}
use Rattle.model.specs.declared.Direction.TheVariants.{Outpointing, Inpointing, Adjacent}
use Rattle.model.specs.declared.Object.{Object}
use Rattle.model.specs.declared.Operator.TheVariants.{Create, Bind, Value as Values, Exists, Destroy, List as Lists}
use Rattle.model.specs.declared.Fields.{Fields}
use Rattle.model.specs.declared.Pair.{Pair}
use Rattle.model.specs.declared.Refusal.{Refusal}
use Rattle.model.specs.declared.Refusal.TheVariants.{Full}
use Rattle.model.specs.Tuples.{Tuples, present, add, missing}
use Rattle.layouts.specs.Buffer.{word, capacity_of, tuples_of}
use Rattle.model.specs.Steps.{decoded, object_keys, created, would_list, would_add}
use Rattle.model.specs.Refusals.{Stop, stop, first, selects_nothing, list_short, full, of_call, of_tuples, if_looked_up, earlier, refusal_of}
use Rattle.model.proofs.Bools.{equal}
use Rattle.layouts.proofs.Store.{tuples_fit}
use Rattle.model.proofs.Refusals.{first_none, first_some, not_looked_up}
use Rattle.model.proofs.Steps.{first_passed}
use Rattle.chain.specs.Links.{Linked}
use Rattle.listings.specs.Lists.{NamesAsked}
use Rattle.listings.proofs.Stores.{names_asked}
use Rattle.refusals.specs.Checks.{checked, of_store, Unstopped}

-- ---- the first condition that applies, one after the other

-- a condition that applies stops the call, whatever comes after it
pub stops : {A : Type 0} (y : A) (condition : Refusal) (applies x : Bool) (xs : List Stop) → x ≡ applies → x ≡ true
    → Err condition ≡ checked y (first (stop condition applies ∷ xs))
unfolding checked first
stops y condition applies x xs X e = ap (λ (b : Bool). checked y (cond b (some condition) (first xs))) (sym e ∙ X)

-- one that does not leaves it to the rest
pub passes : {A : Type 0} (y : A) (condition : Refusal) (applies x : Bool) (xs : List Stop) (r : Result A Refusal) → x ≡ applies → x ≡ false
    → r ≡ checked y (first xs) → r ≡ checked y (first (stop condition applies ∷ xs))
unfolding checked first
passes y condition applies x xs r X e R = R ∙ ap (λ (b : Bool). checked y (cond b (some condition) (first xs))) (sym e ∙ X)

-- what was tested of a condition
pub tested : (applies x t : Bool) → x ≡ applies → x ≡ t → applies ≡ t
tested applies x t X e = sym X ∙ e

pub nothing_left : {A : Type 0} (y : A) → Ok y ≡ checked y (first [])
unfolding checked first
nothing_left y = refl

-- ---- what the answer says

-- no error says that no condition applies, and what the result is
pub none_applied : {A : Type 0} (y z : A) (x : Option Refusal) → Ok z ≡ checked y x → (z ≡ y) × (x ≡ none)
unfolding checked
none_applied y z none e = (cc, refl)
none_applied y z (some condition) e = cc

-- an error says which one stops the call
one_applied : {A : Type 0} (y : A) (x : Option Refusal) (condition : Refusal) → Err condition ≡ checked y x → x ≡ some condition
unfolding checked
one_applied y none condition e = cc
one_applied y (some other) condition e = cc

-- ---- the conditions in two parts

-- what is read of a call that passes
pub unstopped : (c : Call) (d : Decoded) → d ≡ decoded c → first (of_call c) ≡ none → Unstopped d
unfolding of_call
unstopped c d e p =
    let known = first_passed _ _ p in
    record { call = c; same = e; known = known.0; named = (first_passed _ _ known.1).0 }

-- a condition on the call stops it
pub call_stops : (C : ℕ) (ts : Tuples) (c : Call) (room : ℕ) (condition : Refusal) → Err condition ≡ checked c (first (of_call c)) → refusal_of C ts c room ≡ some condition
unfolding refusal_of earlier of_call
call_stops C ts c room condition e = first_some (of_call c) _ condition (one_applied c (first (of_call c)) condition e)

-- where none does, and the space is looked up, those on what the store holds decide
pub store_decides : (C : ℕ) (ts : Tuples) (c : Call) (room : ℕ) → first (of_call c) ≡ none → selects_nothing c ≡ false
    → refusal_of C ts c room ≡ first (of_store C ts (decoded c) room)
unfolding refusal_of earlier of_call if_looked_up of_store
store_decides C ts c room p e =
    let looked : List Stop = cond (selects_nothing c) [] (of_tuples ts (decoded c) room) ++ cond (selects_nothing c) [] (stop Full (full C (decoded c) ts) ∷ []) in
    first_none (of_call c) looked p
    ∙ ap (λ (t : Bool). first (cond t [] (of_tuples ts (decoded c) room) ++ cond t [] (stop Full (full C (decoded c) ts) ∷ []))) e

-- with nothing as the space nothing else is asked
pub nothing_passes : (C : ℕ) (ts : Tuples) (c : Call) (room : ℕ) → first (of_call c) ≡ none → selects_nothing c ≡ true → refusal_of C ts c room ≡ none
nothing_passes C ts c room p e = not_looked_up C ts c room e ∙ p

-- a call that passes all
pub all_pass : (C : ℕ) (ts : Tuples) (c : Call) (room : ℕ) → first (of_call c) ≡ none → selects_nothing c ≡ false
    → Ok (tt {0}) ≡ checked (tt {0}) (first (of_store C ts (decoded c) room)) → refusal_of C ts c room ≡ none
all_pass C ts c room p e R = store_decides C ts c room p e ∙ (none_applied (tt {0}) (tt {0}) (first (of_store C ts (decoded c) room)) R).1

pub store_stops : (C : ℕ) (ts : Tuples) (c : Call) (room : ℕ) (condition : Refusal) → first (of_call c) ≡ none → selects_nothing c ≡ false
    → Err condition ≡ checked (tt {0}) (first (of_store C ts (decoded c) room)) → refusal_of C ts c room ≡ some condition
store_stops C ts c room condition p e R = store_decides C ts c room p e ∙ one_applied (tt {0}) (first (of_store C ts (decoded c) room)) condition R

-- ---- 9

pub short_as : (d : Decoded) (op : Operator) (ts : Tuples) (room : ℕ) (x : Bool) → d.operator ≡ op
    → x ≡ ltb room (length (would_list op d.fields ts)) → x ≡ list_short d ts room
unfolding list_short
short_as d op ts room x K X = X ∙ ap (λ (o : Operator). ltb room (length (would_list o d.fields ts))) (sym K)

-- an operator that lists nothing
pub never_short : (d : Decoded) (op : Operator) (ts : Tuples) (room : ℕ) → d.operator ≡ op → would_list op d.fields ts ≡ [] → false ≡ list_short d ts room
never_short d op ts room K e =
    short_as d op ts room false K (sym (ap (λ (ps : List Pair). ltb room (length ps)) e ∙ le-ltb room 0 (omega arith)))

-- the names that an S operator asks for
pub short_names : (d : Decoded) (l : Listing) → Unstopped d → d.operator ≡ Lists l → NamesAsked l d.fields
short_names d l U K =
    subst (λ (x : Decoded). NamesAsked l x.fields) (sym U.same)
    (names_asked l U.call U.known U.named (sym (ap (λ (x : Decoded). x.operator) U.same) ∙ K))

-- ---- 10

pub would_add_lem : (d : Decoded) (op : Operator) (ts : Tuples) (x : ℕ) → d.operator ≡ op
    → x ≡ length (missing (would_add op d.fields) ts) → x ≡ length (missing (would_add d.operator d.fields) ts)
would_add_lem d op ts x K X = X ∙ ap (λ (o : Operator). length (missing (would_add o d.fields) ts)) (sym K)

-- an operator that adds nothing
pub adds_none : (d : Decoded) (op : Operator) (ts : Tuples) → d.operator ≡ op → would_add op d.fields ≡ [] → 0 ≡ length (missing (would_add d.operator d.fields) ts)
unfolding missing
adds_none d op ts K e = would_add_lem d op ts 0 K (sym (ap (λ (ks : List Key). length (missing ks ts)) e))

pub used_fits : (b : List ℕ) (x t y : ℕ) → Linked b → x ≡ word b 0 → t ≡ length (tuples_of b) → y ≡ t → y ≤ x
used_fits b x t y L X T Y = omega (arith, X, T, Y, L.chains.capacity, tuples_fit b L.chains)

-- more to add than records left
left_over : (C t a : ℕ) → t ≤ C → ltb (C - t) a ≡ ltb C (t + a)
left_over C t a h =
    equal (ltb (C - t) a) (ltb C (t + a)) (λ e. lt-ltb C (t + a) (omega (arith, h, ltb-true (C - t) a e)))
    (λ e. lt-ltb (C - t) a (omega (arith, h, ltb-true C (t + a) e)))

pub full_told : (b : List ℕ) (d : Decoded) (r a : ℕ) → Linked b → r ≡ capacity_of b - length (tuples_of b)
    → a ≡ length (missing (would_add d.operator d.fields) (tuples_of b)) → ltb r a ≡ full (capacity_of b) d (tuples_of b)
unfolding full
full_told b d r a L F A = ap₂ ltb F A ∙ left_over (capacity_of b) (length (tuples_of b)) _ (tuples_fit b L.chains)

-- no more are missing than there are keys
length_missing : (ks : List Key) (ts : Tuples) → length (missing ks ts) ≤ length ks
unfolding missing
length_missing [] ts = omega arith
length_missing (k ∷ ks) ts = go (present k ts) (length_missing ks ts) (length_missing ks (add k ts))
  where
    go : (t : Bool) → length (missing ks ts) ≤ length ks → length (missing ks (add k ts)) ≤ length ks
        → length (cond t (missing ks ts) (k ∷ missing ks (add k ts))) ≤ suc (length ks)
    go true h g = omega arith
    go false h g = omega arith

-- and an operator would add at most four
would_add_most : (op : Operator) (f : Fields) → length (would_add op f) ≤ 4
unfolding would_add created object_keys
would_add_most (Create (Object.P Outpointing)) f = omega arith
would_add_most (Create (Object.P Inpointing)) f = omega arith
would_add_most (Create (Object.P Adjacent)) f = omega arith
would_add_most (Create Object.UN) f = omega arith
would_add_most (Create Object.US) f = omega arith
would_add_most (Bind o) f = omega arith
would_add_most (Values o) f = omega arith
would_add_most (Exists o) f = omega arith
would_add_most (Destroy r) f = omega arith
would_add_most (Lists l) f = omega arith

-- where so many records are free the store is not full
pub never_full : (b : List ℕ) (d : Decoded) (r : ℕ) → Linked b → r ≡ capacity_of b - length (tuples_of b) → 4 ≤ r → false ≡ full (capacity_of b) d (tuples_of b)
unfolding full
never_full b d r L R h =
    let ts : Tuples = tuples_of b in
    let most = length_missing (would_add d.operator d.fields) ts in
    let four = would_add_most d.operator d.fields in
    sym (le-ltb (capacity_of b) (length ts + length (missing (would_add d.operator d.fields) ts)) (omega (arith, R, h, most, four)))
