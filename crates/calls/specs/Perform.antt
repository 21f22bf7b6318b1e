-- What a step asks of its call, and all that it does.
use Rattle.std.specs.Prelude.{false, List, ◌≡◌, ℕ, ◌≤◌, length, Ok}
use Rattle.model.specs.declared.Answer.{Answer}
use Rattle.model.specs.declared.Fields.{Fields}
use Rattle.model.specs.declared.Operator.{Operator}
use Rattle.model.specs.declared.Operator.TheVariants.{Create, Bind, Value as Values, Exists, Destroy, List as Lists}
use Rattle.layouts.specs.Buffer.{tuples_of}
use Rattle.model.specs.Steps.{created, listed, reply, after}
use Rattle.model.specs.OneCall.{answer_of, list_after, writes}
use Rattle.chain.specs.Links.{Edited}
use Rattle.listings.specs.Lists.{NamesAsked}
use Rattle.removals.specs.Collected.{NamesRead}
use Rattle.steps.specs.Objects.{Room}

-- what conditions 3, 4, 9 and 10 have left of a call that they do not stop
abbrev pub ReadyFor : Operator → Fields → List ℕ → ℕ → Type 0
ReadyFor (Create o) f b room = Room b (created o f)
ReadyFor (Bind o) f b room = Unit {0}
ReadyFor (Values o) f b room = Unit {0}
ReadyFor (Exists o) f b room = Unit {0}
ReadyFor (Destroy r) f b room = NamesRead r f
ReadyFor (Lists l) f b room = NamesAsked l f × (length (listed l f (tuples_of b)) ≤ room)

pub record Ready (op : Operator) (f : Fields) (b : List ℕ) (room : ℕ) : Type 0 where
  pub ready : ReadyFor op f b room

-- the step's answer, which is no refusal, the list and the buffer after it; `first` is the call's first argument
pub record Performed (op : Operator) (first : ℕ) (f : Fields) (b l : List ℕ) (a : Answer) (b' l' : List ℕ) : Type 0 where
  pub answer : Ok a ≡ answer_of (reply op first f (tuples_of b))
  pub list : l' ≡ list_after (reply op first f (tuples_of b)) l
  pub edited : Edited b b' (after op f (tuples_of b))
  pub reading : writes op ≡ false → b' ≡ b
