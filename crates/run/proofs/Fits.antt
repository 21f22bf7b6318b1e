-- Do the answer lists of all calls fit: what is left of the room after some of them.
use mathlib.Core.Bool.{true, false}
use mathlib.Core.List.{List, ◌++◌}
use mathlib.Core.Path.{◌≡◌, sym, ap, ◌∙◌}
use Prim.Native.Nat.{ℕ, ◌+◌, ◌-◌, ◌≤◌, ◌<◌}
use native.Mathlib.Omega.{arith}
use borrow.Author.Tests.{le-leb, lt-leb}
use lib.Dec.{leb}
use lib.ListN.{length}
use Rattle.run.specs.Words.{words_in_call, room_in, calls_from, calls_in}
use Rattle.run.specs.Runs.{rooms_of}
use Rattle.run.proofs.WordLaws.{room_at, calls_next, calls_front, calls_none}

-- the room of one call and of those after it, by its number ..
pub rooms_next : (ws : List ℕ) (count i : ℕ) → i < count → rooms_of (calls_from ws (count - i) i) ≡ room_at ws i + rooms_of (calls_from ws (count - (i + 1)) (i + 1))
unfolding rooms_of
rooms_next ws count i h = ap rooms_of (calls_next ws count i h)

-- .. and by its words
rooms_front : (ws x rest : List ℕ) → ws ≡ x ++ rest → length x ≡ words_in_call → rooms_of (calls_in ws) ≡ room_in x + rooms_of (calls_in rest)
unfolding rooms_of
rooms_front ws x rest e s = ap (λ (us : List ℕ). rooms_of (calls_in us)) e ∙ ap rooms_of (calls_front x rest s)

rooms_none : (ws : List ℕ) → length ws < words_in_call → rooms_of (calls_in ws) ≡ 0
unfolding rooms_of
rooms_none ws h = ap rooms_of (calls_none ws h)

-- when the calls of `rest` are left: what those before them took and what is left make up the room
pub record ListsFitSoFar (ws : List ℕ) (room left : ℕ) (rest : List ℕ) : Type 0 where
  pub sum : rooms_of (calls_in ws) + left ≡ room + rooms_of (calls_in rest)

module _ (ws : List ℕ) (room : ℕ) where
  pub fit_next : (left one : ℕ) (rest x rest' : List ℕ) → ListsFitSoFar ws room left rest → rest ≡ x ++ rest' → length x ≡ words_in_call → one ≡ room_in x → one ≤ left
      → ListsFitSoFar ws room (left - one) rest'
  fit_next left one rest x rest' F e s o h = record { sum = omega (arith, F.sum, rooms_front rest x rest' e s) }

  -- there is too little room for one more ..
  pub fit_not : (left one : ℕ) (rest x rest' : List ℕ) → ListsFitSoFar ws room left rest → rest ≡ x ++ rest' → length x ≡ words_in_call → one ≡ room_in x → left < one
      → false ≡ leb (rooms_of (calls_in ws)) room
  fit_not left one rest x rest' F e s o h = sym (lt-leb (rooms_of (calls_in ws)) room (omega (arith, F.sum, rooms_front rest x rest' e s)))

  -- .. or room for all
  pub fit_all : (left : ℕ) (rest : List ℕ) → ListsFitSoFar ws room left rest → length rest < words_in_call → true ≡ leb (rooms_of (calls_in ws)) room
  fit_all left rest F h = sym (le-leb (rooms_of (calls_in ws)) room (omega (arith, F.sum, rooms_none rest h)))
