-- The lines of a script, one after the other.
use mathlib.Core.Bool.{Bool, true, false, cond}
use mathlib.Core.List.{[], ◌∷◌}
use mathlib.Core.Path.{◌≡◌, refl, sym, ap, ◌∙◌}
use Prim.Native.Nat.{ℕ, suc, ◌+◌, ◌≤◌, ◌<◌}
use native.Mathlib.Omega.{arith}
use lib.Dec.{eqb}
use lib.ListN.{length, drop, drop_of_length-le, length-drop}
use lib.Seq.{drop-drop}
use Rattle.text.specs.Bytes.{Text, before, line_feed}
use Rattle.text.proofs.Reading.{before_within}
use Rattle.lines.specs.Lines.{in_front, lines_of}

-- behind the last line, with or without a line feed, there is none
pub no_lines : (script : Text) (from : ℕ) → length script ≤ from → lines_of (drop from script) ≡ []
unfolding lines_of
no_lines script from h = ap lines_of (drop_of_length-le script h)

-- a text that is not empty has a first line, and the lines behind it
first_line : (b : ℕ) (bs : Text) → lines_of (b ∷ bs) ≡ before line_feed (b ∷ bs) ∷ lines_of (drop (length (before line_feed (b ∷ bs)) + 1) (b ∷ bs))
unfolding lines_of before in_front
first_line b [] = go (eqb b line_feed)
  where
    go : (x : Bool) → cond x ([] ∷ []) (in_front b []) ≡ cond x [] (b ∷ []) ∷ lines_of (drop (length (cond x [] (b ∷ [])) + 1) (b ∷ []))
    go true = refl
    go false = refl
first_line b (c ∷ bs) = go (eqb b line_feed) (first_line c bs)
  where
    go : (x : Bool)
        → lines_of (c ∷ bs) ≡ before line_feed (c ∷ bs) ∷ lines_of (drop (length (before line_feed (c ∷ bs)) + 1) (c ∷ bs))
        → cond x ([] ∷ lines_of (c ∷ bs)) (in_front b (lines_of (c ∷ bs)))
        ≡ cond x [] (b ∷ before line_feed (c ∷ bs)) ∷ lines_of (drop (length (cond x [] (b ∷ before line_feed (c ∷ bs))) + 1) (b ∷ c ∷ bs))
    go true e = refl
    go false e =
        let k : suc (length (before line_feed (c ∷ bs))) + 1 ≡ suc (length (before line_feed (c ∷ bs)) + 1) = omega arith in
        ap (in_front b) e
        ∙ ap (λ (n : ℕ). (b ∷ before line_feed (c ∷ bs)) ∷ lines_of (drop n (b ∷ c ∷ bs))) (sym k)

first_of : (t : Text) → 0 < length t → lines_of t ≡ before line_feed t ∷ lines_of (drop (length (before line_feed t) + 1) t)
first_of [] h = absurd (omega arith)
first_of (b ∷ bs) h = first_line b bs

-- the lines from a place on: the line there, and those behind it, which begin past its line feed
pub next_line_lem : (script : Text) (from : ℕ) (line : Text) → from < length script → line ≡ before line_feed (drop from script) → lines_of (drop from script) ≡ line ∷ lines_of (drop (from + length line + 1) script)
next_line_lem script from line h e =
    let f = first_of (drop from script) (omega (arith, length-drop from script)) in
    let d = drop-drop (length (before line_feed (drop from script)) + 1) from script in
    let n : from + (length (before line_feed (drop from script)) + 1) ≡ from + length (before line_feed (drop from script)) + 1 = omega arith in
    f
    ∙ ap (λ (x : Text). before line_feed (drop from script) ∷ lines_of x) d
    ∙ ap (λ (k : ℕ). before line_feed (drop from script) ∷ lines_of (drop k script)) n
    ∙ ap (λ (l : Text). l ∷ lines_of (drop (from + length l + 1) script)) (sym e)

-- a line ends within the script
pub line_within : (script : Text) (from : ℕ) (line : Text) → from ≤ length script → line ≡ before line_feed (drop from script) → from + length line ≤ length script
line_within script from line h e = omega (arith, before_within line_feed script from h, ap length e)
