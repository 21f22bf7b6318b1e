-- Laws of steps one after the other (specs/Traces.antt).
use mathlib.Core.List.{List, ◌++◌, map}
use mathlib.Core.Path.{◌≡◌, refl, ◌∙◌}
use Rattle.model.specs.Traces.{Trace, end, then}

-- what holds of each step of one kind holds of each step of another that it gives; the steps may be told in other words
pub trace_map : {S X Y : Type 0} {P : S → X → S → Type 0} (Q : S → Y → S → Type 0) (f : X → Y) → ((s s' : S) (x : X) → P s x s' → Q s (f x) s')
    → {s s' : S} {xs : List X} → Trace P s xs s' → Trace Q s (map f xs) s'
trace_map Q f h end = end
trace_map Q f h (then {s = s} {s' = s'} {x = x} p rest) = then (h s s' x p) (trace_map Q f h rest)

pub trace_each : {S X : Type 0} {P Q : S → X → S → Type 0} → ((s s' : S) (x : X) → P s x s' → Q s x s') → {s s' : S} {xs : List X} → Trace P s xs s' → Trace Q s xs s'
trace_each h end = end
trace_each h (then {s = s} {s' = s'} {x = x} p rest) = then (h s s' x p) (trace_each h rest)

-- one trace after another
pub trace_append : {S X : Type 0} {P : S → X → S → Type 0} {s s' s'' : S} {xs ys : List X} → Trace P s xs s' → Trace P s' ys s'' → Trace P s (xs ++ ys) s''
trace_append end more = more
trace_append (then p rest) more = then p (trace_append rest more)

-- what no step changes the whole does not change
pub trace_keeps : {S X A : Type 0} {P : S → X → S → Type 0} (f : S → A) → ((s s' : S) (x : X) → P s x s' → f s' ≡ f s)
    → {s s' : S} {xs : List X} → Trace P s xs s' → f s' ≡ f s
trace_keeps f h end = refl
trace_keeps f h (then {s = s} {s' = s'} {x = x} p rest) = trace_keeps f h rest ∙ h s s' x p
