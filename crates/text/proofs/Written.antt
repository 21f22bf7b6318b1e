-- Laws of a text written into lent bytes.
use mathlib.Core.List.{[], ◌∷◌, ◌++◌, append_assoc}
use mathlib.Core.Path.{◌≡◌, sym, ap, ◌∙◌}
use Prim.Native.Nat.{ℕ, suc, ◌+◌, ◌≤◌, ◌<◌}
use native.Mathlib.Nat.{add-zero, add_assoc}
use native.Mathlib.Omega.{arith}
use native.Mathlib.Numerals.{add-one}
use lib.ListN.{length, take, drop, set, length-append, length-drop, take-append-drop}
use lib.Seq.{length-take-le, take_at, drop-append-add, drop-drop, set-append_left, take-set-lt, take-suc-set}
use Rattle.text.specs.Bytes.{Text, written}

-- no text changes nothing
pub written_nil : (out : Text) (at : ℕ) → written out at [] ≡ out
unfolding written
written_nil out at = ap (λ (n : ℕ). take at out ++ drop n out) (add-zero at) ∙ take-append-drop at out

-- as many bytes as before
pub length_written : (out : Text) (at : ℕ) (bs : Text) → at + length bs ≤ length out → length (written out at bs) ≡ length out
unfolding written
length_written out at bs h =
    let front : length (take at out) ≡ at = length-take-le at out (omega arith) in
    simp (length-append, length-drop) (omega (arith, front))

-- all up to the text's end
pub take_written : (out : Text) (at : ℕ) (bs : Text) → at ≤ length out → take (at + length bs) (written out at bs) ≡ take at out ++ bs
unfolding written
take_written out at bs h =
    ap (take (at + length bs)) (sym (append_assoc (take at out) bs (drop (at + length bs) out)))
    ∙ take_at (take at out ++ bs) (drop (at + length bs) out) (at + length bs) (length-append (take at out) bs ∙ ap (λ (n : ℕ). n + length bs) (length-take-le at out h))

-- what stands behind the text
pub drop_written : (out : Text) (at : ℕ) (bs : Text) (n : ℕ) → at ≤ length out → drop (at + length bs + n) (written out at bs) ≡ drop (at + length bs + n) out
unfolding written
drop_written out at bs n h =
    let front : length (take at out ++ bs) ≡ at + length bs = length-append (take at out) bs ∙ ap (λ (k : ℕ). k + length bs) (length-take-le at out h) in
    ap (drop (at + length bs + n)) (sym (append_assoc (take at out) bs (drop (at + length bs) out)))
    ∙ ap (λ (k : ℕ). drop (k + n) ((take at out ++ bs) ++ drop (at + length bs) out)) (sym front)
    ∙ drop-append-add (take at out ++ bs) (drop (at + length bs) out) n
    ∙ drop-drop n (at + length bs) out

-- a text, and one behind it
pub written_twice : (out : Text) (at : ℕ) (xs ys : Text) → at ≤ length out → written (written out at xs) (at + length xs) ys ≡ written out at (xs ++ ys)
unfolding written
written_twice out at xs ys h =
    ap (λ (f : Text). f ++ (ys ++ drop (at + length xs + length ys) (written out at xs))) (take_written out at xs h)
    ∙ ap (λ (d : Text). (take at out ++ xs) ++ (ys ++ d)) (drop_written out at xs (length ys) h)
    ∙ append_assoc (take at out) xs (ys ++ drop (at + length xs + length ys) out)
    ∙ ap (λ (d : Text). take at out ++ d) (sym (append_assoc xs ys (drop (at + length xs + length ys) out)))
    ∙ ap (λ (n : ℕ). take at out ++ ((xs ++ ys) ++ drop n out)) (add_assoc at (length xs) (length ys) ∙ ap (λ (n : ℕ). at + n) (sym (length-append xs ys)))

-- a text, and one byte before it
pub written_before_lem : (out : Text) (at b : ℕ) (bs : Text) → at < length out → set (written out (at + 1) bs) at b ≡ written out at (b ∷ bs)
unfolding written
written_before_lem out at b bs h =
    set-append_left (take (at + 1) out) (bs ++ drop (at + 1 + length bs) out) at b (omega (arith, length-take-le (at + 1) out (omega arith)))
    ∙ ap (λ (f : Text). f ++ (bs ++ drop (at + 1 + length bs) out)) (sym (take-set-lt (at + 1) out at b (omega arith)) ∙ ap (λ (n : ℕ). take n (set out at b)) (add-one at) ∙ take-suc-set out at b h)
    ∙ append_assoc (take at out) (b ∷ []) (bs ++ drop (at + 1 + length bs) out)
    ∙ ap (λ (n : ℕ). take at out ++ (b ∷ (bs ++ drop n out))) behind
  where
    behind : at + 1 + length bs ≡ at + suc (length bs)
    behind = omega arith
