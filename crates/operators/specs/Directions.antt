-- The three operators of a row of the table stand in the order O, I, A.
use Rattle.std.specs.Prelude.{ℕ, zero, suc}
use Rattle.model.specs.declared.Direction.{Direction}
use Rattle.model.specs.declared.Direction.TheVariants.{Outpointing, Inpointing, Adjacent}

unfoldable pub turn : ℕ → Direction
turn zero = Outpointing
turn (suc zero) = Inpointing
turn (suc (suc n)) = Adjacent
