-- The pairs of a list one after the other, each to the next place of a lent list (specs/WrittenPairs.antt).
use mathlib.Core.Bool.{Bool, true, false, cond}
use mathlib.Core.List.{List, [], ◌∷◌, ◌++◌}
use mathlib.Core.Path.{◌≡◌, refl, sym, ap, ap₂, ◌∙◌, subst}
use Prim.Native.Nat.{ℕ, suc, ◌+◌, ◌-◌, ◌<◌, ◌≤◌}
use native.Mathlib.Omega.{arith}
use lib.ListN.{length, take, drop, set, length-set, take-append-drop}
use lib.Seq.{take-suc-set, take-add, take-length, drop-set-lt, drop-drop}
use Rattle.std.specs.Prelude.{Some, None}
use Rattle.model.specs.declared.Pair.{Pair}
use Rattle.chain.specs.Links.{Linked}
use Rattle.entries.specs.declared.Entry.{Entry}
use Rattle.entries.specs.declared.Progress.{Progress}
use Rattle.entries.specs.declared.Query.{Query}
use Rattle.entries.specs.Cursors.{MaybeEntry, entry_of, is_there}
use Rattle.entries.specs.Queries.{Readable}
use Rattle.entries.specs.Lists.{query_list, Begun, Reached, Next, pair_of}
use Rattle.entries.proofs.EntryOrder.{at_is}
use Rattle.pairs.specs.WrittenPairs.{FirstPairs, PairWritten, PairsWritten}

-- ---- an entry is there or not

there : (e : MaybeEntry) (x : Entry) → e ≡ Some x → is_there (entry_of e) ≡ true
unfolding is_there entry_of
there e x is = ap (λ (z : MaybeEntry). is_there (entry_of z)) is

not_there : (e : MaybeEntry) → e ≡ None → is_there (entry_of e) ≡ false
unfolding is_there entry_of
not_there e is = ap (λ (z : MaybeEntry). is_there (entry_of z)) is

-- ---- where a list begins

-- the chain that it is read from
pub readable_linked : (b : List ℕ) → Readable b → Linked b
readable_linked b R = R.linked

pub begun_reached : (b : List ℕ) (q : Query) (p : Progress) → Begun b q p → Reached b q p
begun_reached b q p B = B.reached

-- ---- one pair written

-- what was left behind j is left behind one more
drop_one : (j : ℕ) (xs ys : List Pair) → drop j xs ≡ drop j ys → drop (j + 1) xs ≡ drop (j + 1) ys
drop_one j xs ys e = sym (drop-drop 1 j xs) ∙ ap (drop 1) e ∙ drop-drop 1 j ys

-- the next pair to the next place
first_pairs_next : (ps l₀ l : List Pair) (j : ℕ) (x y : Pair) (rest : List Pair) → drop j ps ≡ x ∷ rest → j < length l → y ≡ x → FirstPairs ps j l₀ l
    → FirstPairs ps (j + 1) l₀ (set l j y)
first_pairs_next ps l₀ l j x y rest left room same F =
    let one : suc j ≡ j + 1 = omega arith in
    record {
      first =
          ap (λ (n : ℕ). take n (set l j y)) (sym one)
          ∙ take-suc-set l j y room
          ∙ ap₂ (λ (zs : List Pair) (z : Pair). zs ++ (z ∷ [])) F.first same
          ∙ ap (λ (zs : List Pair). take j ps ++ take 1 zs) (sym left)
          ∙ sym (take-add j 1 ps);
      rest = drop-set-lt (j + 1) l j y (omega arith) ∙ drop_one j l l₀ F.rest;
      long = length-set l j y ∙ F.long;
    }

module _ (b : List ℕ) (q : Query) (p : Progress) (H : Reached b q p) (x : Entry) (is : p.given ≡ Some x) where
  left : (1 ≤ p.done) × (drop (p.done - 1) (query_list b q) ≡ pair_of x ∷ drop p.done (query_list b q))
  left = H.last (pair_of x) (at_is p.given x is)

  pub some_done : 1 ≤ p.done
  some_done = left.0

  pub pair_written : (l : List Pair) (n : ℕ) (y : Pair) (r : Progress) → n ≡ p.done - 1 → y ≡ pair_of x → p.done ≤ length l → Next b q p r → PairWritten b q p l r (set l n y)
  pair_written l n y r at same enough N =
      let place : n < length l = omega (arith, at, some_done, enough) in
      let one_on : n + 1 ≡ p.done = omega (arith, at, some_done) in
      record {
        next = N;
        written = λ l₀ F.
            subst (λ (k : ℕ). FirstPairs (query_list b q) k l₀ (set l n y)) one_on
            (first_pairs_next (query_list b q) l₀ l n (pair_of x) y _ (ap (λ (k : ℕ). drop k (query_list b q)) at ∙ left.1) place same
            (subst (λ (k : ℕ). FirstPairs (query_list b q) k l₀ l) (sym at) F));
      }

-- ---- all pairs written

-- how many pairs come before the one that was given last; all where none was
unfoldable pub written_before : Progress → ℕ
written_before p = cond (is_there (entry_of p.given)) (p.done - 1) p.done

there_before : (p : Progress) → is_there (entry_of p.given) ≡ true → written_before p ≡ p.done - 1
unfolding written_before
there_before p h = ap (λ (t : Bool). cond t (p.done - 1) p.done) h

ended_before : (p : Progress) → is_there (entry_of p.given) ≡ false → written_before p ≡ p.done
unfolding written_before
ended_before p h = ap (λ (t : Bool). cond t (p.done - 1) p.done) h

next_before : (b : List ℕ) (q : Query) (p r : Progress) → Next b q p r → written_before r ≡ p.done
next_before b q p r N = go (is_there (entry_of r.given)) refl
  where
    go : (t : Bool) → is_there (entry_of r.given) ≡ t → written_before r ≡ p.done
    go true h = let one_more = (N.found h).1 in there_before r h ∙ omega (arith, one_more)
    go false h = ended_before r h ∙ (N.ended h).0

-- in the loop: the list has come to a pair, or to its end, and the pairs before that are written
pub record Standing (b : List ℕ) (q : Query) (l₀ l : List Pair) (p : Progress) : Type 0 where
  pub reached : is_there (entry_of p.given) ≡ true → Reached b q p
  pub ended : is_there (entry_of p.given) ≡ false → p.done ≡ length (query_list b q)
  pub first : FirstPairs (query_list b q) (written_before p) l₀ l

standing : (b : List ℕ) (q : Query) (l₀ l : List Pair) (p r : Progress) → Next b q p r → FirstPairs (query_list b q) p.done l₀ l → Standing b q l₀ l r
standing b q l₀ l p r N F =
    record {
      reached = λ h. (N.found h).0;
      ended = λ h. let E = N.ended h in E.0 ∙ E.1;
      first = subst (λ (n : ℕ). FirstPairs (query_list b q) n l₀ l) (sym (next_before b q p r N)) F;
    }

pub standing_start : (b : List ℕ) (q : Query) (l : List Pair) (p r : Progress) → Begun b q p → Next b q p r → Standing b q l l r
standing_start b q l p r B N =
    standing b q l l p r N
    (subst (λ (n : ℕ). FirstPairs (query_list b q) n l l) (sym B.nothing) (record { first = refl; rest = refl; long = refl }))

module _ (b : List ℕ) (q : Query) (l₀ l : List Pair) (p : Progress) (S : Standing b q l₀ l p) where
  -- the list is at its end
  pub all_pairs : p.given ≡ None → PairsWritten (query_list b q) l₀ p.done l
  all_pairs is =
      let gone = not_there p.given is in
      let whole : written_before p ≡ length (query_list b q) = ended_before p gone ∙ S.ended gone in
      record {
        count = S.ended gone;
        list =
            sym (take-append-drop (written_before p) l)
            ∙ ap₂ ◌++◌ (S.first.first ∙ ap (λ (n : ℕ). take n (query_list b q)) whole ∙ take-length (query_list b q))
            (S.first.rest ∙ ap (λ (n : ℕ). drop n l₀) whole);
      }

  module _ (x : Entry) (is : p.given ≡ Some x) where
    pub turn_reached : Reached b q p
    turn_reached = S.reached (there p.given x is)

    before : written_before p ≡ p.done - 1
    before = there_before p (there p.given x is)

    -- there is a place for the pair
    pub turn_enough : length (query_list b q) ≤ length l₀ → p.done ≤ length l
    turn_enough room = omega (arith, turn_reached.few, room, S.first.long)

    module _ (r : Progress) (l' : List Pair) (P : PairWritten b q p l r l') where
      pub turn_again : Standing b q l₀ l' r
      turn_again = standing b q l₀ l' p r P.next (P.written l₀ (subst (λ (n : ℕ). FirstPairs (query_list b q) n l₀ l) before S.first))

      pub turn_falls : length (query_list b q) - written_before r < length (query_list b q) - written_before p
      turn_falls = omega (arith, before, next_before b q p r P.next, some_done b q p turn_reached x is, turn_reached.few)
