-- The loop of `seek`: the place among all records is the place among those that are left.
use mathlib.Core.Bool.{Bool, true, false, cond}
use mathlib.Core.List.{List}
use mathlib.Core.Logic.{◌≢◌}
use mathlib.Core.Path.{◌≡◌, refl, sym, ap, ◌∙◌, subst}
use Prim.Native.Nat.{ℕ, ◌%◌}
use native.Mathlib.Omega.{arith}
use Rattle.model.specs.declared.Key.{Key}
use Rattle.model.specs.Ordered.{is_less}
use Rattle.model.specs.Keys.{compare_keys}
use Rattle.layouts.specs.Buffer.{word, next, key_at, used_of, free_of}
use Rattle.chain.specs.Links.{Linked, place, place_in}
use Rattle.layouts.proofs.Store.{capacity_most}
use Rattle.words.specs.Words.{Inside}
use Rattle.words.proofs.Words.{inside_most}
use Rattle.chain.proofs.Walks.{Step, step, at_end, used_rest}
use Rattle.layouts.specs.Chains.{Rest}

-- a store has fewer than 4,096 records
same_number : (b : List ℕ) (i : ℕ) → Linked b → Inside b i → i % 4096 ≡ i
same_number b i L I = omega (arith, inside_most b i I, capacity_most b (used_of b) (free_of b) L.chains)

pub same_inside : (b : List ℕ) (i : ℕ) → Linked b → Inside b i → Inside b (i % 4096)
same_inside b i L I = subst (Inside b) (sym (same_number b i L I)) I

pub same_key_at : (b : List ℕ) (i : ℕ) (k : Key) → Linked b → Inside b i → k ≡ key_at b (i % 4096) → k ≡ key_at b i
same_key_at b i k L I e = e ∙ ap (key_at b) (same_number b i L I)

pub record Seeking (b : List ℕ) (k : Key) (before at : ℕ) : Type 0 where
  pub walked : Rest b at
  pub whole : place_in (key_at b) k 0 (used_of b) ≡ place_in (key_at b) k before walked.rest

module _ (b : List ℕ) (k : Key) where
  pub seek_start : (at : ℕ) → Linked b → at ≡ word b 1 → Seeking b k 0 at
  unfolding used_rest
  seek_start at L e = subst (Seeking b k 0) (sym e) (record { walked = used_rest b L.chains; whole = refl })

  module _ (before at : ℕ) (S : Seeking b k before at) where
    pub seek_inside : at ≢ 0 → Inside b at
    seek_inside h = (step b at S.walked h).inside

    -- what the rest gives where the key is below or not
    turn : at ≢ 0 → (key : Key) (t : Bool) → key ≡ key_at b at → t ≡ is_less (compare_keys key k)
        → (T : Step b at S.walked.rest)
        → place_in (key_at b) k 0 (used_of b) ≡ cond t (place_in (key_at b) k at T.after.rest) (place before at)
    unfolding place_in
    turn h key t ek et T =
        S.whole
        ∙ ap (place_in (key_at b) k before) T.split
        ∙ ap (λ (u : Bool). cond u (place_in (key_at b) k at T.after.rest) (place before at))
        (sym (et ∙ ap (λ (j : Key). is_less (compare_keys j k)) ek))

    pub seek_on : at ≢ 0 → (key : Key) (t : Bool) (after : ℕ) → key ≡ key_at b at → t ≡ is_less (compare_keys key k) → t ≡ true → after ≡ next b at
        → Seeking b k at after
    seek_on h key t after ek et yes' ea =
        let T = step b at S.walked h in
        subst (Seeking b k at) (sym ea)
        (record {
          walked = T.after;
          whole = turn h key t ek et T ∙ ap (λ (u : Bool). cond u (place_in (key_at b) k at T.after.rest) (place before at)) yes';
        })

    -- a key that is not below
    pub seek_found : at ≢ 0 → (key : Key) (t : Bool) → key ≡ key_at b at → t ≡ is_less (compare_keys key k) → t ≡ false
        → place before at ≡ place_in (key_at b) k 0 (used_of b)
    seek_found h key t ek et no' =
        let T = step b at S.walked h in
        sym (turn h key t ek et T ∙ ap (λ (u : Bool). cond u (place_in (key_at b) k at T.after.rest) (place before at)) no')

    -- the chain has ended
    pub seek_end : at ≡ 0 → place before at ≡ place_in (key_at b) k 0 (used_of b)
    unfolding place_in
    seek_end e = ap (place before) e ∙ sym (S.whole ∙ ap (place_in (key_at b) k before) (at_end b at S.walked e))
