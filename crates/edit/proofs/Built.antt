-- From the rules on chains and the tuples of the records to an edit of the buffer.
use mathlib.Core.Bool.{true}
use mathlib.Core.List.{List, map}
use mathlib.Core.Option.{some}
use mathlib.Core.Path.{◌≡◌, refl, sym, ap, ◌∙◌, subst, subst₂}
use Prim.Native.Nat.{ℕ, ◌≤◌}
use native.Mathlib.Omega.{arith}
use lib.ListN.{length, length-map}
use Rattle.model.specs.Ordered.{Ascending}
use Rattle.model.specs.Keys.{key_of, space_key, compare_keys}
use Rattle.model.specs.Tuples.{Tuples}
use Rattle.layouts.specs.Buffer.{word, tuple_at, past_records, used_of, free_of, tuples_of, is_store}
use Rattle.model.specs.Rules.{first_key, TupleRules}
use Rattle.layouts.specs.Chains.{ChainRules}
use Rattle.layouts.proofs.Store.{store_rules, rules_store, used_of_lem, free_of_lem, tuples_of_lem, tuples_fit, capacity_most}
use Rattle.chain.specs.Links.{Linked, Edited}

pub edited : (b b' used free : List ℕ) (ts : Tuples) → ChainRules b' used free → map (tuple_at b') used ≡ ts
    → Ascending key_of compare_keys ts → first_key ts ≡ some (space_key 0) → length b' ≡ length b → past_records b' ≡ past_records b → Edited b b' ts
edited b b' used free ts R e ascends first size past =
    let held : tuples_of b' ≡ ts = tuples_of_lem b' used free R ∙ e in
    record {
      linked =
          record {
            chains = subst₂ (λ (us fs : List ℕ). ChainRules b' us fs) (sym (used_of_lem b' used free R)) (sym (free_of_lem b' used free R)) R;
            ascends = subst (Ascending key_of compare_keys) (sym held) ascends;
            first = ap first_key held ∙ first;
          };
      tuples = held;
      size = size;
      past = past;
    }

-- nothing is written
pub unedited : (b : List ℕ) (ts : Tuples) → Linked b → tuples_of b ≡ ts → Edited b b ts
unedited b ts L e = record { linked = L; tuples = e; size = refl; past = refl }

-- as many tuples as used records
pub length_tuples : (b : List ℕ) → length (tuples_of b) ≡ length (used_of b)
unfolding tuples_of
length_tuples b = length-map (used_of b) (tuple_at b)

-- word 3 counts them
pub tuples_counted : (b : List ℕ) (x : ℕ) → Linked b → x ≡ word b 3 → x ≡ length (tuples_of b)
tuples_counted b x L e = e ∙ L.chains.counted ∙ sym (length_tuples b)

-- .. and fits in a word
pub count_fits : (b : List ℕ) (x : ℕ) → Linked b → x ≡ word b 3 → x ≤ 4294967295
count_fits b x L e = omega (arith, tuples_counted b x L e, tuples_fit b L.chains, capacity_most b (used_of b) (free_of b) L.chains)

-- ---- stores

-- a store has chains that the edits can work on
pub store_linked : (b : List ℕ) → is_store b ≡ true → Linked b
unfolding tuples_of
store_linked b e =
    let S = store_rules b e in record { chains = S.chains; ascends = S.tuples.ascends; first = S.tuples.first }

pub store_tuples : (b : List ℕ) → is_store b ≡ true → TupleRules (tuples_of b)
unfolding tuples_of
store_tuples b e = (store_rules b e).tuples

-- an edit whose tuples keep the rules leaves a store
pub linked_store : (b : List ℕ) → Linked b → TupleRules (tuples_of b) → is_store b ≡ true
unfolding tuples_of
linked_store b L R = rules_store b (used_of b) (free_of b) (record { chains = L.chains; tuples = R })

pub edited_store : (b b' : List ℕ) (ts : Tuples) → Edited b b' ts → TupleRules ts → is_store b' ≡ true
edited_store b b' ts E R = linked_store b' E.linked (subst TupleRules (sym E.tuples) R)
