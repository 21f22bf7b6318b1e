-- Document 02, request 5, for a list of pairs: "When j are written, the first j places hold the j least and the rest what they held."
use Rattle.std.specs.Prelude.{List, ◌++◌, ◌≡◌, ℕ, ◌-◌, length, take, drop}
use Rattle.model.specs.declared.Pair.{Pair}
use Rattle.entries.specs.declared.Progress.{Progress}
use Rattle.entries.specs.declared.Query.{Query}
use Rattle.entries.specs.Lists.{query_list, Next}

-- the first j places of a list hold the j least pairs, and all others what they held
pub record FirstPairs (ps : List Pair) (j : ℕ) (l l' : List Pair) : Type 0 where
  pub first : take j l' ≡ take j ps
  pub rest : drop j l' ≡ drop j l
  pub long : length l' ≡ length l

-- pair j + 1 is written, and the list has come to the next one, or to its end
pub record PairWritten (b : List ℕ) (q : Query) (p : Progress) (l : List Pair) (r : Progress) (l' : List Pair) : Type 0 where
  pub next : Next b q p r
  pub written : (l₀ : List Pair) → FirstPairs (query_list b q) (p.done - 1) l₀ l → FirstPairs (query_list b q) p.done l₀ l'

-- all pairs are written: "in its first k places; the rest stays"
pub record PairsWritten (ps l : List Pair) (k : ℕ) (l' : List Pair) : Type 0 where
  pub count : k ≡ length ps
  pub list : l' ≡ ps ++ drop (length ps) l
