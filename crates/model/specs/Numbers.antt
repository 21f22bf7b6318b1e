-- Tests over the numbers from 1 on.
use Rattle.std.specs.Prelude.{Bool, true, ◌&&◌, ℕ, zero, suc}

-- does a test pass at each of the numbers 1 to k
unfoldable pub every_up_to : (ℕ → Bool) → ℕ → Bool
every_up_to p zero = true
every_up_to p (suc k) = p (suc k) && every_up_to p k
