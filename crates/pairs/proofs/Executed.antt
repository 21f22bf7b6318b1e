-- What the parts of execute_pairs come to: decide, then the pairs written, then the answer, is the call in pairs.
use mathlib.Core.List.{List, ◌++◌}
use mathlib.Core.Path.{◌≡◌, refl, sym, subst, subst₂}
use Prim.Native.Nat.{ℕ, ◌≤◌}
use lib.ListN.{length, drop}
use Rattle.std.specs.Prelude.{Result, Ok}
use Rattle.model.specs.declared.Answer.{Answer}
use Rattle.model.specs.declared.Answer.TheVariants.{List as Counted}
use Rattle.model.specs.declared.Call.{Call}
use Rattle.model.specs.declared.Pair.{Pair}
use Rattle.model.specs.declared.Refusal.{Refusal}
use Rattle.entries.specs.declared.Query.{Query}
use Rattle.entries.specs.Queries.{Readable}
use Rattle.entries.specs.Lists.{query_list}
use Rattle.pairs.specs.declared.Decision.{Decision}
use Rattle.pairs.specs.declared.Decision.TheVariants.{Answered, Listed}
use Rattle.pairs.specs.Decisions.{decided_list, decided_answer, Decided}
use Rattle.pairs.specs.InPairs.{CallInPairs}
use Rattle.pairs.specs.WrittenPairs.{PairsWritten}

module _ (b : List ℕ) (c : Call) (d : Decision) (b' : List ℕ) (l : List Pair) (D : Decided b c (length l) d b') where
  -- an answer is that of the call in pairs
  pub executed_answered : (a : Result Answer Refusal) → d ≡ Answered a → CallInPairs b l c a b' l
  unfolding decided_answer decided_list
  executed_answered a is =
      subst (λ (x : Decision). CallInPairs b l c (decided_answer b' x) b' (decided_list b' x ++ drop (length (decided_list b' x)) l)) is (D.call l refl)

  -- what is listed can be read, and has room
  pub listed_readable : (q : Query) → d ≡ Listed q → Readable b'
  listed_readable q is = D.readable q is

  pub listed_fits : (q : Query) → d ≡ Listed q → length (query_list b' q) ≤ length l
  unfolding decided_list
  listed_fits q is = subst (λ (x : Decision). length (decided_list b' x) ≤ length l) is D.fits

  -- with its pairs written it is the call in pairs
  pub executed_listed : (q : Query) → d ≡ Listed q → (k : ℕ) (l' : List Pair) → PairsWritten (query_list b' q) l k l' → CallInPairs b l c (Ok (Counted k)) b' l'
  unfolding decided_answer decided_list
  executed_listed q is k l' P =
      subst₂ (λ (n : ℕ) (m : List Pair). CallInPairs b l c (Ok (Counted n)) b' m) (sym P.count) (sym P.list)
      (subst (λ (x : Decision). CallInPairs b l c (decided_answer b' x) b' (decided_list b' x ++ drop (length (decided_list b' x)) l)) is (D.call l refl))
