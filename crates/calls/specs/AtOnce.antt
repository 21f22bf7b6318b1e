-- SIN (40) without a search for its node: which calls, and what they list.
use Rattle.std.specs.Prelude.{Bool, cond, ◌&&◌, List, [], ◌∷◌, ℕ, eqb, leb, length, Option, Some, None}
use Rattle.model.specs.declared.Fields.{Fields}
use Rattle.model.specs.declared.Direction.TheVariants.{Inpointing}
use Rattle.model.specs.declared.Listing.{Listing}
use Rattle.model.specs.declared.Pair.{Pair}
use Rattle.model.specs.Tuples.{Tuples}
use Rattle.model.specs.Steps.{listed}

-- what SIN lists
abbrev pub sin : Listing
sin = Listing.N Inpointing

-- a SIN, and a list with places for as many entries as there are tuples
unfoldable pub at_once : ℕ → ℕ → ℕ → Bool
at_once number n room = eqb number 40 && leb n room

-- the entries of such a call; none for others
unfoldable pub listed_at_once : ℕ → Fields → Tuples → ℕ → List Pair
listed_at_once number f ts room = cond (at_once number (length ts) room) (listed sin f ts) []

-- how many they are, where there are any
unfoldable pub some_count : List Pair → Option ℕ
some_count [] = None
some_count (p ∷ ps) = Some (length (p ∷ ps))
