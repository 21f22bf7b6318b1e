-- All that one call does whose answer list is a lent list of pairs: the contract of execute_pairs.
use Rattle.std.specs.Prelude.{true, false, List, ◌++◌, map, ◌≡◌, ℕ, length, take, drop, Result, Ok, Err}
use Rattle.model.specs.declared.Call.{Call}
use Rattle.model.specs.declared.Answer.{Answer}
use Rattle.model.specs.declared.Answer.TheVariants.{Name, Added, Removed, Value, YesNo, List as Listed}
use Rattle.model.specs.declared.Pair.{Pair}
use Rattle.model.specs.declared.Refusal.{Refusal}
use Rattle.model.specs.Steps.{Reply, refusal, name, added, removed, valued, yes_no, pairs}
use Rattle.model.specs.Machine.{calling, machine}
use Rattle.model.specs.OneCall.{pack, OneCall}
use Rattle.model.specs.CallLists.{Made, Exchange}
use Rattle.layouts.specs.Stored.{stored}

-- "in its first k places; the rest stays": the list of pairs afterwards
unfoldable pub pairs_after : Reply → List Pair → List Pair
pairs_after (refusal condition) l = l
pairs_after (name x) l = l
pairs_after (added x k) l = l
pairs_after (removed x k) l = l
pairs_after (valued v) l = l
pairs_after (yes_no b) l = l
pairs_after (pairs k ps) l = ps ++ drop k l

-- "a list carries k and its k pairs in order": what a caller observes in its list of pairs
unfoldable pub observed_in_pairs : Result Answer Refusal → List Pair → Reply
observed_in_pairs (Err condition) l = refusal condition
observed_in_pairs (Ok (Name x)) l = name x
observed_in_pairs (Ok (Added x k)) l = added x k
observed_in_pairs (Ok (Removed x k)) l = removed x k
observed_in_pairs (Ok (Value v)) l = valued v
observed_in_pairs (Ok (YesNo b)) l = yes_no b
observed_in_pairs (Ok (Listed k)) l = pairs k (take k l)

-- the call c on the buffer b with the list of pairs l gives the answer a and leaves the buffer b' and the list l'
pub record CallInPairs (b : List ℕ) (l : List Pair) (c : Call) (a : Result Answer Refusal) (b' : List ℕ) (l' : List Pair) : Type 0 where
  -- all that the core's entry does, with the list packed
  pub call : OneCall stored b (map pack l) c a b' (map pack l')
  -- "not a store": nothing is changed
  pub no_store : stored.is_store b ≡ false → l' ≡ l
  -- "in its first k places; the rest stays"; a refusal changes none
  pub listed : stored.is_store b ≡ true → l' ≡ pairs_after (machine (stored.capacity_of b) (stored.state_of b) c (length l)).answer l

-- ---- calls one after the other

-- a call whose answer list is one of pairs
abbrev pub PairsMade : Type 0
PairsMade = Made Pair

-- it is one call of the entry, from the buffer b to the buffer b'
abbrev pub OneInPairs : List ℕ → PairsMade → List ℕ → Type 0
OneInPairs b x b' = CallInPairs b x.lent x.call x.answer b' x.left

-- what the machine is fed of it, and what its caller observes
abbrev pub exchange_in_pairs : PairsMade → Exchange
exchange_in_pairs x = record { request = calling (record { call = x.call; room = length x.lent }); reply = observed_in_pairs x.answer x.left }
