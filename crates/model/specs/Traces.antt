-- Steps one after the other, each from where the one before it ended.
use Rattle.std.specs.Prelude.{List, [], ◌∷◌}

-- "Each later call gets the buffer as the call before left it, answered or refused": `Step s x s'` says that x, done at s, ended at s'
pub data Trace {S X : Type 0} (Step : S → X → S → Type 0) : S → List X → S → Type 0 where
  end : {s : S} → Trace Step s [] s
  then : {s s' s'' : S} {x : X} {xs : List X} → Step s x s' → Trace Step s' xs s'' → Trace Step s (x ∷ xs) s''
