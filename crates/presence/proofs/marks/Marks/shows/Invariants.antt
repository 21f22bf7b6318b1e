use Prim.Native.Nat.{ℕ}
use mathlib.Core.Bool.{Bool}
use Rattle.presence.proofs.Hints.{LookingFor}
use Rattle.presence.proofs.marks.Marks.shows.Given as goal

abbrev pub invariant-loop : goal.invariant-loop
invariant-loop g l = LookingFor (λ (w : ℕ) (r : Bool). goal.F-post g l.is_wanted w r) l.self.words l.from l.place l.counter
