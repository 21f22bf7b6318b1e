-- A call that is lent no place for a list tells what it comes to with a list of any length (specs/Decisions.antt).
use mathlib.Core.Bool.{Bool, true, false, cond, not, false≢true}
use mathlib.Core.List.{List, [], ◌∷◌, ◌++◌, map, map-append, cons-ne-nil}
use mathlib.Core.Logic.{◌≢◌}
use mathlib.Core.Option.{Option, none, some}
use mathlib.Core.Path.{◌≡◌, refl, sym, ap, ap₂, ◌∙◌, subst}
use Prim.Native.Nat.{ℕ, zero, suc, ◌+◌, ◌≤◌, ◌<◌}
use native.Mathlib.Omega.{arith}
use lib.Dec.{eqb, leb, ltb}
use lib.ListN.{length, drop, length-map}
use borrow.Author.Tests.{eqb-true, eqb-false, ltb-true, ltb-false, lt-ltb, le-ltb, leb-true, leb-false}
use denote.Enum.Bare.{same_true}
use Rattle.std.specs.Prelude.{Result, Ok, Err, Some, None, Option as Maybe}
use Rattle.std.specs.Option.{option_eq}
use Rattle.std.specs.Result.{result_err}
use Rattle.std.proofs.Common.{rules}
use Rattle.model.specs.contracts.RefusalPartialEq.TheImpl.{eq-value}
use Rattle.model.specs.contracts.Refusal.{the_type}
use Rattle.model.specs.declared.Answer.{Answer}
use Rattle.model.specs.declared.Answer.TheVariants.{List as Counted}
use Rattle.model.specs.declared.Call.{Call}
use Rattle.model.specs.declared.Fields.{Fields}
use Rattle.model.specs.declared.Listing.{Listing}
use Rattle.model.specs.declared.Operator.{Operator}
use Rattle.model.specs.declared.Operator.TheVariants.{Create, Bind, Value as Values, Exists, Destroy, List as Lists}
use Rattle.model.specs.declared.Pair.{Pair}
use Rattle.model.specs.declared.Refusal.{Refusal}
use Rattle.model.specs.declared.Refusal.TheVariants.{NotAStore, NoOperator, ZeroName, UniverseDestroyed, SpaceAbsent, NodeAbsent, SecondAbsent, EdgeAbsent, ListTooShort, Full}
use Rattle.model.specs.Numbered.{number_of}
use Rattle.model.specs.Operators.{within, operator_of, table}
use Rattle.model.specs.Tuples.{Tuples, missing}
use Rattle.model.specs.Steps.{Reply, pairs, fields_of, decoded, first_argument, listed, would_list, would_add, reply}
use Rattle.model.specs.Refusals.{Stop, stop, first, selects_nothing, no_operator, zero_name, destroys_universe, space_absent, node_absent, second_absent, edge_absent, list_short, full, of_call, refusal_of}
use Rattle.model.specs.Machine.{outcome_of, step, idle, machine}
use Rattle.model.specs.OneCall.{answer_of, pack, list_after, writes, OnStore, OneCall}
use Rattle.model.proofs.Bools.{not_yes, not_no, failed, clash}
use Rattle.model.proofs.Steps.{first_passed}
use Rattle.model.proofs.Demand1.{refused_reply}
use Rattle.model.proofs.Refusals.{looked_up, not_looked_up, stopped, reading, first_none, first_some, every_condition, first_condition, answer_form, refused_exactly}
use Rattle.layouts.specs.Buffer.{capacity_of, tuples_of, is_store}
use Rattle.layouts.specs.Stored.{stored}
use Rattle.layouts.proofs.Stored.{stored_lawful}
use Rattle.entries.specs.declared.Query.{Query}
use Rattle.entries.specs.Queries.{queried, Readable}
use Rattle.model.proofs.Counts.{listed_within}
use Rattle.listings.specs.Lists.{query_of}
use Rattle.listings.proofs.Asked.{asked_listed}
use Rattle.listings.proofs.Stores.{store_readable, names_asked}
use Rattle.operators.specs.Known.{known_operator}
use Rattle.operators.proofs.Known.{known_some}
use Rattle.pairs.specs.declared.Decision.{Decision}
use Rattle.pairs.specs.declared.Decision.TheVariants.{Answered, Listed}
use Rattle.pairs.specs.InPairs.{pairs_after, CallInPairs}
use Rattle.pairs.specs.Decisions.{operator_query, query_for, decided_list, decided_answer, Decided}

-- ---- laws of lists

map_drop : {X Y : Type 0} (f : X → Y) (k : ℕ) (xs : List X) → map f (drop k xs) ≡ drop k (map f xs)
map_drop f zero xs = refl
map_drop f (suc k) [] = refl
map_drop f (suc k) (x ∷ xs) = map_drop f k xs

-- ---- condition 9, and those before and behind it

-- the conditions before it, where the space is looked up
abbrev before : Tuples → Call → List Stop
before ts c =
    stop NoOperator (no_operator c)
    ∷ stop ZeroName (zero_name c)
    ∷ stop UniverseDestroyed (destroys_universe c)
    ∷ stop SpaceAbsent (space_absent (decoded c) ts)
    ∷ stop NodeAbsent (node_absent (decoded c) ts)
    ∷ stop SecondAbsent (second_absent (decoded c) ts)
    ∷ stop EdgeAbsent (edge_absent (decoded c) ts)
    ∷ []

-- it, and the one behind it
abbrev last : Bool → Bool → List Stop
last short fills = stop ListTooShort short ∷ stop Full fills ∷ []

abbrev not_short : Refusal → Bool
not_short r = not (eqb (number_of r) 9)

never_short : (xs : List Stop) → every_condition not_short xs ≡ true → first xs ≢ some ListTooShort
unfolding number_of
never_short xs h e = false≢true (first_condition not_short xs ListTooShort h e)

short_wins : (short fills : Bool) → first (last short fills) ≡ some ListTooShort → short ≡ true
unfolding first number_of
short_wins true fills e = refl
short_wins false fills e = absurd (never_short (stop Full fills ∷ []) refl e)

-- nothing stops the call but that its list is too short
record OnlyShort (ts : Tuples) (c : Call) (room : ℕ) : Type 0 where
  selects : selects_nothing c ≡ false
  passes : first (before ts c) ≡ none
  short : list_short (decoded c) ts room ≡ true

-- a list that is longer than one that is not too short is not too short either
longer : (ts : Tuples) (c : Call) (less room : ℕ) → less ≤ room → list_short (decoded c) ts less ≡ false → list_short (decoded c) ts room ≡ false
unfolding list_short
longer ts c less room le e = le-ltb room _ (omega (arith, le, ltb-false less _ e))

module _ (C : ℕ) (ts : Tuples) (c : Call) where
  -- where nothing before them stops the call, these two decide
  last_decide : (room : ℕ) → selects_nothing c ≡ false → first (before ts c) ≡ none
      → refusal_of C ts c room ≡ first (last (list_short (decoded c) ts room) (full C (decoded c) ts))
  last_decide room N p = looked_up C ts c room N ∙ first_none (before ts c) _ p

  stopped_before : (room : ℕ) (condition : Refusal) → selects_nothing c ≡ false → first (before ts c) ≡ some condition → refusal_of C ts c room ≡ some condition
  stopped_before room condition N p = looked_up C ts c room N ∙ first_some (before ts c) _ condition p

  still_short : (room : ℕ) → OnlyShort ts c room → refusal_of C ts c room ≡ some ListTooShort
  unfolding first
  still_short room S =
      last_decide room S.selects S.passes ∙ ap (λ (t : Bool). first (last t (full C (decoded c) ts))) S.short

  -- condition 9 wins only so
  only_short : (room : ℕ) → refusal_of C ts c room ≡ some ListTooShort → OnlyShort ts c room
  unfolding number_of
  only_short room e = go (selects_nothing c) refl
    where
      passing : selects_nothing c ≡ false → (r : Option Refusal) → first (before ts c) ≡ r → OnlyShort ts c room
      passing N none p = record { selects = N; passes = p; short = short_wins _ _ (sym (last_decide room N p) ∙ e) }
      passing N (some n) p = absurd (never_short (before ts c) refl (p ∙ sym (stopped_before room n N p) ∙ e))

      go : (t : Bool) → selects_nothing c ≡ t → OnlyShort ts c room
      go true N = absurd (never_short (of_call c) (unfold of_call in refl) (sym (not_looked_up C ts c room N) ∙ e))
      go false N = passing N (first (before ts c)) refl

  -- where it does not win, a longer list changes nothing
  longer_list : (less room : ℕ) → less ≤ room → refusal_of C ts c less ≢ some ListTooShort → refusal_of C ts c room ≡ refusal_of C ts c less
  longer_list less room le h = go (selects_nothing c) refl
    where
      passing : selects_nothing c ≡ false → (r : Option Refusal) → first (before ts c) ≡ r → refusal_of C ts c room ≡ refusal_of C ts c less
      passing N none p =
          let enough = failed (list_short (decoded c) ts less) (λ t. h (still_short less (record { selects = N; passes = p; short = t }))) in
          last_decide room N p
          ∙ ap (λ (t : Bool). first (last t (full C (decoded c) ts))) (longer ts c less room le enough ∙ sym enough)
          ∙ sym (last_decide less N p)
      passing N (some n) p = stopped_before room n N p ∙ sym (stopped_before less n N p)

      go : (t : Bool) → selects_nothing c ≡ t → refusal_of C ts c room ≡ refusal_of C ts c less
      go true N = not_looked_up C ts c room N ∙ sym (not_looked_up C ts c less N)
      go false N = passing N (first (before ts c)) refl

-- ---- a call that would list something

-- it has an S operator, and its query lists what that does
record Queried (ts : Tuples) (c : Call) (q : Query) : Type 0 where
  listing : Listing
  operator : operator_of c.operator ≡ Lists listing
  same : queried q ts ≡ listed listing (fields_of c) ts

lists : (op : Operator) (f : Fields) (ts : Tuples) (room : ℕ) → ltb room (length (would_list op f ts)) ≡ true → (l : Listing) × (op ≡ Lists l)
unfolding would_list
lists (Create o) f ts room e = absurd (omega (arith, ltb-true room 0 e))
lists (Bind o) f ts room e = absurd (omega (arith, ltb-true room 0 e))
lists (Values o) f ts room e = absurd (omega (arith, ltb-true room 0 e))
lists (Exists o) f ts room e = absurd (omega (arith, ltb-true room 0 e))
lists (Destroy r) f ts room e = absurd (omega (arith, ltb-true room 0 e))
lists (Lists l) f ts room e = (l, refl)

module _ (ts : Tuples) (c : Call) (room : ℕ) (S : OnlyShort ts c room) where
  its_listing : (l : Listing) × (operator_of c.operator ≡ Lists l)
  unfolding list_short
  its_listing = lists (operator_of c.operator) (fields_of c) ts room S.short

  its_query : query_for c ≡ Some (query_of its_listing.0 (fields_of c))
  unfolding query_for operator_query no_operator of_call
  its_query =
      let known : within 1 57 c.operator ≡ true = not_no (within 1 57 c.operator) (first_passed _ _ S.passes).0 in
      ap (λ (t : Bool). cond t (operator_query (operator_of c.operator) (fields_of c)) None) known
      ∙ ap (λ (op : Operator). operator_query op (fields_of c)) its_listing.1

  has_query : (q : Query) → query_for c ≡ Some q → Queried ts c q
  has_query q K =
      let known = first_passed _ _ S.passes in
      let names = names_asked its_listing.0 c known.0 (first_passed _ _ known.1).0 its_listing.1 in
      let own : q ≡ query_of its_listing.0 (fields_of c) = let e = sym K ∙ its_query in cc in
      record {
        listing = its_listing.0;
        operator = its_listing.1;
        same = ap (λ (x : Query). queried x ts) own ∙ asked_listed its_listing.0 (fields_of c) ts names;
      }

  no_query : query_for c ≡ None → ⊥
  no_query K = let e : ◌≡◌ {A = Maybe Query} None (Some _) = sym K ∙ its_query in cc

module _ (ts : Tuples) (c : Call) (q : Query) (Q : Queried ts c q) where
  short_queried : (room : ℕ) → list_short (decoded c) ts room ≡ ltb room (length (queried q ts))
  unfolding list_short would_list
  short_queried room =
      ap (λ (op : Operator). ltb room (length (would_list op (fields_of c) ts))) Q.operator ∙ ap (λ (ps : List Pair). ltb room (length ps)) (sym Q.same)

  -- it adds nothing
  not_full : (C : ℕ) → length ts ≤ C → full C (decoded c) ts ≡ false
  unfolding full would_add missing
  not_full C h =
      ap (λ (op : Operator). ltb C (length ts + length (missing (would_add op (fields_of c)) ts))) Q.operator ∙ le-ltb C (length ts + 0) (omega (arith, h))

  -- and where nothing stops it, it lists the entries of its query
  lists_queried : (C room : ℕ) → selects_nothing c ≡ false → refusal_of C ts c room ≡ none
      → (machine C ts c room).answer ≡ pairs (length (queried q ts)) (queried q ts)
  unfolding machine outcome_of reply
  lists_queried C room N pass =
      ap (λ (r : Option Refusal). (outcome_of r ts c).answer) pass
      ∙ ap (λ (t : Bool). (cond t (idle c ts) (step c ts)).answer) N
      ∙ ap (λ (op : Operator). reply op (first_argument (decoded c)) (fields_of c) ts) Q.operator
      ∙ ap (λ (ps : List Pair). pairs (length ps) ps) (sym Q.same)

-- ---- the query of a call

pub other_told : (c : Call) (x : Maybe Operator) (op : Operator) (f : Fields) (q : Maybe Query) → x ≡ known_operator c.operator → x ≡ Some op → f ≡ fields_of c
    → q ≡ operator_query op f → q ≡ query_for c
unfolding query_for known_operator
other_told c x op f q X e F K = go (within 1 57 c.operator) (sym e ∙ X)
  where
    go : (t : Bool) → Some op ≡ cond t (Some (operator_of c.operator)) None → q ≡ cond t (operator_query (operator_of c.operator) (fields_of c)) None
    go true h = let same : op ≡ operator_of c.operator = cc in K ∙ ap₂ operator_query same F
    go false h = cc

pub query_told : (c : Call) (op : Operator) (f : Fields) (q : Maybe Query) → 1 ≤ c.operator → c.operator < 58 → op ≡ operator_of c.operator → f ≡ fields_of c
    → q ≡ operator_query op f → q ≡ query_for c
query_told c op f q h l O = other_told c (Some op) op f q (known_some c.operator op h l O) refl

-- a number that is no operator's
pub none_told : (c : Call) (x : Maybe Operator) → x ≡ known_operator c.operator → x ≡ None → None ≡ query_for c
unfolding query_for known_operator
none_told c x X e = go (within 1 57 c.operator) (sym e ∙ X)
  where
    go : (t : Bool) → None ≡ cond t (Some (operator_of c.operator)) None → None ≡ cond t (operator_query (operator_of c.operator) (fields_of c)) None
    go true h = cc
    go false h = refl

-- the queries of the operators below k, and as often none
abbrev queries_below : Fields → ℕ → List (Maybe Query)
queries_below f zero = []
queries_below f (suc k) = operator_query (operator_of k) f ∷ queries_below f k

abbrev none_below : ℕ → List (Maybe Query)
none_below zero = []
none_below (suc k) = None ∷ none_below k

below_same : (f : Fields) (k : ℕ) → queries_below f k ≡ none_below k → (i : ℕ) → i < k → operator_query (operator_of i) f ≡ None
below_same f zero e i h = absurd (omega (arith, h))
below_same f (suc k) e i h = go (eqb i k) refl (below_same f k (cc) i)
  where
    go : (t : Bool) → eqb i k ≡ t → (i < k → operator_query (operator_of i) f ≡ None) → operator_query (operator_of i) f ≡ None
    go true y rest = let z : i ≡ k = eqb-true i k y in cc
    go false y rest = let d : i ≡ k → ⊥ = eqb-false i k y in rest (omega (arith, h))

-- no operator below 30 lists anything
pub few_told : (c : Call) → c.operator < 30 → None ≡ query_for c
unfolding query_for operator_query operator_of table
few_told c h = go (within 1 57 c.operator)
  where
    go : (t : Bool) → None ≡ cond t (operator_query (operator_of c.operator) (fields_of c)) None
    go true = sym (below_same (fields_of c) 30 refl c.operator h)
    go false = refl

-- ---- what a call with no place for a list answers

-- the comparison of its refusal with condition 9
abbrev is_short : Maybe Refusal → Bool
is_short e = option_eq eq-value.it e (Some ListTooShort)

short_only : (a : Result Answer Refusal) → is_short (result_err a) ≡ true → a ≡ Err ListTooShort
short_only (Ok x) f = absurd (false≢true f)
short_only (Err condition) f = ap Err (same_true the_type (search rules) condition ListTooShort f)

module _ (a : Result Answer Refusal) (e : Maybe Refusal) (E : e ≡ result_err a) (t : Bool) (T : t ≡ not (is_short e)) where
  pub refused_short : t ≡ false → a ≡ Err ListTooShort
  refused_short f = short_only a (sym (ap is_short E) ∙ not_no (is_short e) (sym T ∙ f))

  pub not_short_refused : t ≡ true → a ≡ Err ListTooShort → ⊥
  not_short_refused f same = clash (ap is_short (E ∙ ap result_err same)) (not_yes (is_short e) (sym T ∙ f))

-- condition 9 is not condition 1
short_not_none : ◌≡◌ {A = Result Answer Refusal} (Err ListTooShort) (Err NotAStore) → ⊥
short_not_none e = cc

-- a list that has no place stays so
pub no_places : (b b' ws ws' : List ℕ) (c : Call) (a : Result Answer Refusal) → length ws ≡ 0 → length ws' ≡ 0 → OneCall stored b ws c a b' ws' → OneCall stored b [] c a b' []
no_places b b' [] [] c a e f one = one
no_places b b' [] (w ∷ ws) c a e f one = absurd (omega (arith, f))
no_places b b' (w ∷ ws) ws' c a e f one = absurd (omega (arith, e))

-- an answer that writes nothing where there is no place lists nothing
unlisted : (C : ℕ) (ts : Tuples) (c : Call) (room : ℕ) (ws : List ℕ) (l : List Pair) → [] ≡ list_after (machine C ts c room).answer []
    → (list_after (machine C ts c room).answer ws ≡ ws) × (pairs_after (machine C ts c room).answer l ≡ l)
unfolding list_after pairs_after
unlisted C ts c room ws l =
    answer_form (λ (r : Reply). [] ≡ list_after r [] → (list_after r ws ≡ ws) × (pairs_after r l ≡ l)) C ts c room (λ condition e. (refl, refl)) (λ x e. (refl, refl))
    (λ x k e. (refl, refl)) (λ x k e. (refl, refl)) (λ v e. (refl, refl)) (λ t e. (refl, refl)) (λ e. (refl, refl)) (λ q. go (listed q (fields_of c) ts))
  where
    go : (ps : List Pair) → [] ≡ list_after (pairs (length ps) ps) [] → (list_after (pairs (length ps) ps) ws ≡ ws) × (pairs_after (pairs (length ps) ps) l ≡ l)
    go [] e = (refl, refl)
    go (p ∷ ps) e = absurd (cons-ne-nil _ _ (sym e))

-- ---- a call that a shorter list alone would stop, with room for its entries

module _ (b : List ℕ) (c : Call) (store : is_store b ≡ true) (less : ℕ) (S : OnlyShort (tuples_of b) c less) (q : Query) (K : query_for c ≡ Some q) where
  abbrev listing_call : Queried (tuples_of b) c q
  listing_call = has_query (tuples_of b) c less S q K

  abbrev entries : List Pair
  entries = queried q (tuples_of b)

  -- nothing stops it
  none_stops : (room : ℕ) → length entries ≤ room → refusal_of (capacity_of b) (tuples_of b) c room ≡ none
  unfolding first
  none_stops room h =
      let fits : length (tuples_of b) ≤ capacity_of b = omega (arith, stored_lawful.counted b store) in
      last_decide (capacity_of b) (tuples_of b) c room S.selects S.passes
      ∙ ap₂ (λ (short fills : Bool). first (last short fills)) (short_queried (tuples_of b) c q listing_call room ∙ le-ltb room (length entries) h)
      (not_full (tuples_of b) c q listing_call (capacity_of b) fits)

  lists_entries : (room : ℕ) → length entries ≤ room → (machine (capacity_of b) (tuples_of b) c room).answer ≡ pairs (length entries) entries
  lists_entries room h = lists_queried (tuples_of b) c q listing_call (capacity_of b) room S.selects (none_stops room h)

  listed_on_store : (l : List Pair) → length entries ≤ length l
      → OnStore stored b (map pack l) c (Ok (Counted (length entries))) b (map pack (entries ++ drop (length entries) l))
  unfolding answer_of list_after writes
  listed_on_store l h =
      let A = lists_entries (length (map pack l)) (omega (arith, h, length-map l pack)) in
      record {
        answer = sym (ap answer_of A);
        list =
            map-append pack entries (drop (length entries) l)
            ∙ ap (λ (ws : List ℕ). map pack entries ++ ws) (map_drop pack (length entries) l)
            ∙ sym (ap (λ (r : Reply). list_after r (map pack l)) A);
        store = store;
        state = sym (reading (capacity_of b) (tuples_of b) c (length (map pack l)) (ap writes listing_call.operator));
        size = refl;
        past = refl;
        refused = λ condition f. refl;
        reading = λ w. refl;
        unselected = λ w. refl;
      }

  listed_in_pairs : (l : List Pair) → length entries ≤ length l → CallInPairs b l c (Ok (Counted (length entries))) b (entries ++ drop (length entries) l)
  unfolding pairs_after
  listed_in_pairs l h =
      record {
        call = record { no_store = λ f. absurd (clash store f); on_store = λ e. listed_on_store l h };
        no_store = λ f. absurd (clash store f);
        listed = λ e. sym (ap (λ (r : Reply). pairs_after r l) (lists_entries (length l) h));
      }

  with_room_lem : (room : ℕ) → length entries ≤ room → Decided b c room (Listed q) b
  unfolding decided_list decided_answer
  with_room_lem room h =
      record {
        readable = λ x e. store_readable b store;
        fits = h;
        call = λ l size. listed_in_pairs l (omega (arith, h, size));
      }

-- ---- what the call comes to with a list of any length, from its answer with no place for one

abbrev is_listed : Decision → Bool
is_listed (Answered a) = false
is_listed (Listed q) = true

module _ (b b' : List ℕ) (c : Call) (a : Result Answer Refusal) (one : OneCall stored b [] c a b' []) where
  abbrev C : ℕ
  C = capacity_of b

  abbrev ts : Tuples
  ts = tuples_of b

  -- ---- that answer, where a list of so many places changes nothing

  same_on_store : (l : List Pair) → is_store b ≡ true → refusal_of C ts c (length l) ≡ refusal_of C ts c 0 → OnStore stored b (map pack l) c a b' (map pack l)
  unfolding machine
  same_on_store l e same =
      let O = one.on_store e in
      let told : refusal_of C ts c (length (map pack l)) ≡ refusal_of C ts c 0 = ap (refusal_of C ts c) (length-map l pack) ∙ same in
      let M : machine C ts c (length (map pack l)) ≡ machine C ts c 0 = ap (λ r. outcome_of r ts c) told in
      record {
        answer = O.answer ∙ ap (λ o. answer_of o.answer) (sym M);
        list = sym (unlisted C ts c 0 (map pack l) l O.list).0 ∙ ap (λ o. list_after o.answer (map pack l)) (sym M);
        store = O.store;
        state = O.state ∙ ap (λ o. o.state) (sym M);
        size = O.size;
        past = O.past;
        refused = λ condition f. O.refused condition (sym told ∙ f);
        reading = O.reading;
        unselected = O.unselected;
      }

  same_in_pairs : (l : List Pair) → (is_store b ≡ true → refusal_of C ts c (length l) ≡ refusal_of C ts c 0) → CallInPairs b l c a b' l
  unfolding machine
  same_in_pairs l same =
      record {
        call = record { no_store = λ f. let O = one.no_store f in record { answer = O.answer; buffer = O.buffer; list = refl }; on_store = λ e. same_on_store l e (same e) };
        no_store = λ f. refl;
        listed = λ e. sym (unlisted C ts c 0 [] l (one.on_store e).list).1 ∙ ap (λ r. pairs_after (outcome_of r ts c).answer l) (sym (same e));
      }

  answered : (room : ℕ) → (is_store b ≡ true → refusal_of C ts c room ≡ refusal_of C ts c 0) → Decided b c room (Answered a) b'
  unfolding decided_list decided_answer
  answered room same =
      record {
        readable = λ q e. absurd (false≢true (ap is_listed e));
        fits = omega arith;
        call = λ l size. same_in_pairs l (λ e. ap (refusal_of C ts c) size ∙ same e);
      }

  -- ---- where it is refusal 9

  refused_store : a ≡ Err ListTooShort → is_store b ≡ true
  refused_store e = go (is_store b) refl
    where
      go : (t : Bool) → is_store b ≡ t → is_store b ≡ true
      go true s = s
      go false s = absurd (short_not_none (sym e ∙ (one.no_store s).answer))

  short_stops : a ≡ Err ListTooShort → OnlyShort ts c 0
  short_stops e =
      let O = one.on_store (refused_store e) in
      only_short C ts c 0 ((refused_exactly C ts c 0 ListTooShort).0 (refused_reply _ ListTooShort (sym O.answer ∙ e)))

  not_nine : is_store b ≡ true → (a ≡ Err ListTooShort → ⊥) → refusal_of C ts c 0 ≢ some ListTooShort
  unfolding answer_of
  not_nine s h nine = h ((one.on_store s).answer ∙ ap answer_of (stopped C ts c 0 ListTooShort nine).0)

  refused_unchanged : a ≡ Err ListTooShort → b' ≡ b
  refused_unchanged e = (one.on_store (refused_store e)).refused ListTooShort (still_short C ts c 0 (short_stops e))

  -- ---- the three ways

  pub not_refused : (room : ℕ) → (a ≡ Err ListTooShort → ⊥) → Decided b c room (Answered a) b'
  not_refused room h = answered room (λ s. longer_list C ts c 0 room (omega arith) (not_nine s h))

  module _ (R : a ≡ Err ListTooShort) where
    pub refused_readable : Readable b'
    refused_readable = store_readable b' (one.on_store (refused_store R)).store

    -- it has a query
    pub refused_asks : (r : Maybe Query) → r ≡ query_for c → r ≡ None → ⊥
    refused_asks r e none_is = no_query ts c 0 (short_stops R) (sym e ∙ none_is)

    module _ (r : Maybe Query) (told : r ≡ query_for c) (q : Query) (is : r ≡ Some q) where
      abbrev its : query_for c ≡ Some q
      its = sym told ∙ is

      -- no S operator lists more entries than there are tuples
      pub refused_few : length (queried q (tuples_of b')) ≤ length (tuples_of b')
      refused_few =
          let Q = has_query ts c 0 (short_stops R) q its in
          subst (λ (w : List ℕ). length (queried q (tuples_of w)) ≤ length (tuples_of w)) (sym (refused_unchanged R))
          (omega (arith, ap length Q.same, listed_within ts Q.listing (fields_of c)))

      module _ (room : ℕ) (u : Bool) (U : u ≡ leb (length (queried q (tuples_of b'))) room) where
        room_told : leb (length (queried q ts)) room ≡ u
        room_told = sym (U ∙ ap (λ (w : List ℕ). leb (length (queried q (tuples_of w))) room) (refused_unchanged R))

        pub refused_at_length : u ≡ false → Decided b c room (Answered a) b'
        refused_at_length f =
            let S = short_stops R in
            let more = leb-false (length (queried q ts)) room (room_told ∙ f) in
            let short = short_queried ts c q (has_query ts c 0 S q its) room ∙ lt-ltb room (length (queried q ts)) more in
            answered room (λ s. still_short C ts c room (record { selects = S.selects; passes = S.passes; short = short }) ∙ sym (still_short C ts c 0 S))

        pub listed_at_length : u ≡ true → Decided b c room (Listed q) b'
        listed_at_length f =
            let fits = leb-true (length (queried q ts)) room (room_told ∙ f) in
            subst (λ (w : List ℕ). Decided b c room (Listed q) w) (sym (refused_unchanged R)) (with_room_lem b c (refused_store R) 0 (short_stops R) q its room fits)
