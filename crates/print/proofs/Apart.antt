-- A printed line gives the answer back: distinct answers print distinct lines.
use mathlib.Core.Bool.{Bool, true, false}
use mathlib.Core.List.{List, [], ◌∷◌, ◌++◌, append_assoc}
use mathlib.Core.Path.{◌≡◌, refl, sym, ap, ◌∙◌, subst}
use native.Mathlib.Omega.{arith}
use Prim.Native.Nat.{ℕ, ◌≤◌}
use lib.Dec.{eqb}
use lib.ListN.{drop, get_or}
use borrow.Author.Tests.{eqb-false}
use Rattle.model.specs.declared.Pair.{Pair}
use Rattle.model.specs.declared.Refusal.{Refusal}
use Rattle.model.specs.Numbered.{number_of}
use Rattle.model.proofs.Numbered.{number_of_injective, number_most}
use Rattle.model.specs.Pairs.{pair, edge_of, node_of}
use Rattle.model.specs.Steps.{Reply, refusal, name, added, removed, valued, yes_no, pairs}
use Rattle.text.specs.Bytes.{Text, line_feed, blank, hyphen, plus_sign, equals_sign, colon, L, N, R, T, «V»}
use Rattle.text.specs.Numerals.{is_digit, printed_number}
use Rattle.text.proofs.Printing.{Stop, stop, printed_split}
use Rattle.print.specs.Answers.{signed, change, yes_or_no, entry_text, entries_text, answer_text, answer_line}

-- the names of pairs are numbers of 32 bits
pub data NamesFit : List Pair → Type 0 where
  no_names : NamesFit []
  more_names : (p : Pair) (ps : List Pair) → edge_of p ≤ 4294967295 → node_of p ≤ 4294967295 → NamesFit ps → NamesFit (p ∷ ps)

-- an answer that prints a name, with what stands behind it: nothing, or how many tuples were added or removed
pub data Named (x : ℕ) : Text → Reply → Type 0 where
  bare : Named x [] (name x)
  with_added : (k : ℕ) → k ≤ 4294967295 → Named x (change plus_sign k) (added x k)
  with_removed : (k : ℕ) → k ≤ 4294967295 → Named x (change hyphen k) (removed x k)

-- so are all numbers of an answer
pub data NumbersFit : Reply → Type 0 where
  refusal_fits : (condition : Refusal) → NumbersFit (refusal condition)
  name_fits : (x : ℕ) (t : Text) (r : Reply) → Named x t r → x ≤ 4294967295 → NumbersFit r
  value_fits : (v : ℕ) → v ≤ 4294967295 → NumbersFit (valued v)
  yes_no_fits : (b : Bool) → NumbersFit (yes_no b)
  list_fits : (k : ℕ) (ps : List Pair) → k ≤ 4294967295 → NamesFit ps → NumbersFit (pairs k ps)

differ : (a b : ℕ) (xs ys : Text) → eqb a b ≡ false → a ∷ xs ≡ b ∷ ys → ⊥
differ a b xs ys n e = eqb-false a b n (ap (λ (l : Text). get_or l 0 0) e)

-- ---- entries

entry_line : (p : Pair) (xs : Text) → entry_text p ++ xs ≡ blank ∷ (printed_number (edge_of p) ++ (colon ∷ (printed_number (node_of p) ++ xs)))
unfolding entry_text
entry_line p xs = ap (λ (bs : Text). blank ∷ bs) (append_assoc (printed_number (edge_of p)) (colon ∷ printed_number (node_of p)) xs)

-- the entries and the line feed
abbrev entries_line : List Pair → Text
entries_line ps = entries_text ps ++ (line_feed ∷ [])

entries_line_lem : (p : Pair) (ps : List Pair) → entries_line (p ∷ ps) ≡ blank ∷ (printed_number (edge_of p) ++ (colon ∷ (printed_number (node_of p) ++ entries_line ps)))
unfolding entries_text
entries_line_lem p ps = append_assoc (entry_text p) (entries_text ps) (line_feed ∷ []) ∙ entry_line p (entries_line ps)

-- no digit stands before or behind them
entries_stop : (ps : List Pair) → Stop (entries_line ps)
unfolding entries_text is_digit
entries_stop [] = stop line_feed [] refl
entries_stop (p ∷ ps) = subst Stop (sym (entries_line_lem p ps)) (stop blank (printed_number (edge_of p) ++ (colon ∷ (printed_number (node_of p) ++ entries_line ps))) refl)

colon_stop : (xs : Text) → Stop (colon ∷ xs)
unfolding is_digit
colon_stop xs = stop colon xs refl

feed_stop : Stop (line_feed ∷ [])
unfolding is_digit
feed_stop = stop line_feed [] refl

entries_apart : (ps qs : List Pair) → NamesFit ps → NamesFit qs → entries_line ps ≡ entries_line qs → ps ≡ qs
unfolding entries_text
entries_apart [] [] h k e = refl
entries_apart [] (q ∷ qs) h k e = absurd (differ line_feed blank [] (printed_number (edge_of q) ++ (colon ∷ (printed_number (node_of q) ++ entries_line qs))) refl (e ∙ entries_line_lem q qs))
entries_apart (p ∷ ps) [] h k e = absurd (differ line_feed blank [] (printed_number (edge_of p) ++ (colon ∷ (printed_number (node_of p) ++ entries_line ps))) refl (sym e ∙ entries_line_lem p ps))
entries_apart (p ∷ ps) (q ∷ qs) (more_names _ _ pe pn h) (more_names _ _ qe qn k) e =
    let edges : (edge_of p ≡ edge_of q) × (colon ∷ (printed_number (node_of p) ++ entries_line ps) ≡ colon ∷ (printed_number (node_of q) ++ entries_line qs)) =
    printed_split (edge_of p) (edge_of q) (colon ∷ (printed_number (node_of p) ++ entries_line ps)) (colon ∷ (printed_number (node_of q) ++ entries_line qs)) pe qe
    (colon_stop (printed_number (node_of p) ++ entries_line ps)) (colon_stop (printed_number (node_of q) ++ entries_line qs))
    (ap (drop 1) (sym (entries_line_lem p ps) ∙ e ∙ entries_line_lem q qs)) in
    let nodes : (node_of p ≡ node_of q) × (entries_line ps ≡ entries_line qs) =
    printed_split (node_of p) (node_of q) (entries_line ps) (entries_line qs) pn qn (entries_stop ps) (entries_stop qs) (ap (drop 1) edges.1) in
    ap (λ (x : ℕ). pair x (node_of p) ∷ ps) edges.0 ∙ ap (λ (x : ℕ). pair (edge_of q) x ∷ ps) nodes.0 ∙ ap (λ (l : List Pair). q ∷ l) (entries_apart ps qs h k nodes.1)

-- ---- answers

signed_apart : (sign x y : ℕ) (xs ys : Text) → x ≤ 4294967295 → y ≤ 4294967295 → Stop xs → Stop ys → signed sign x ++ xs ≡ signed sign y ++ ys → (x ≡ y) × (xs ≡ ys)
signed_apart sign x y xs ys h k s t e = printed_split x y xs ys h k s t (ap (drop 2) e)

number_apart : (sign x y : ℕ) → x ≤ 4294967295 → y ≤ 4294967295 → signed sign x ++ (line_feed ∷ []) ≡ signed sign y ++ (line_feed ∷ []) → x ≡ y
number_apart sign x y h k e = (signed_apart sign x y (line_feed ∷ []) (line_feed ∷ []) h k feed_stop feed_stop e).0

list_line : (k : ℕ) (ps : List Pair) → answer_line (pairs k ps) ≡ signed L k ++ entries_line ps
unfolding answer_line answer_text
list_line k ps = append_assoc (signed L k) (entries_text ps) (line_feed ∷ [])

list_apart : (j k : ℕ) (ps qs : List Pair) → j ≤ 4294967295 → k ≤ 4294967295 → NamesFit ps → NamesFit qs → answer_line (pairs j ps) ≡ answer_line (pairs k qs) → pairs j ps ≡ pairs k qs
list_apart j k ps qs hj hk hp hq e =
    let both : (j ≡ k) × (entries_line ps ≡ entries_line qs) =
    signed_apart L j k (entries_line ps) (entries_line qs) hj hk (entries_stop ps) (entries_stop qs) (sym (list_line j ps) ∙ e ∙ list_line k qs) in
    ap (λ (x : ℕ). pairs x ps) both.0 ∙ ap (pairs k) (entries_apart ps qs hp hq both.1)

-- what stands behind a name, and the line feed
named_line : (x : ℕ) (t : Text) (r : Reply) → Named x t r → answer_line r ≡ signed equals_sign x ++ (t ++ (line_feed ∷ []))
unfolding answer_line answer_text
named_line x _ _ bare = refl
named_line x _ _ (with_added k h) = append_assoc (signed equals_sign x) (change plus_sign k) (line_feed ∷ [])
named_line x _ _ (with_removed k h) = append_assoc (signed equals_sign x) (change hyphen k) (line_feed ∷ [])

named_stop : (x : ℕ) (t : Text) (r : Reply) → Named x t r → Stop (t ++ (line_feed ∷ []))
unfolding is_digit
named_stop x _ _ bare = stop line_feed [] refl
named_stop x _ _ (with_added k h) = stop blank (plus_sign ∷ (printed_number k ++ (line_feed ∷ []))) refl
named_stop x _ _ (with_removed k h) = stop blank (hyphen ∷ (printed_number k ++ (line_feed ∷ []))) refl

change_apart : (sign j k : ℕ) → j ≤ 4294967295 → k ≤ 4294967295 → change sign j ++ (line_feed ∷ []) ≡ change sign k ++ (line_feed ∷ []) → j ≡ k
change_apart sign j k h i e = (printed_split j k (line_feed ∷ []) (line_feed ∷ []) h i feed_stop feed_stop (ap (drop 2) e)).0

behind_apart : (x : ℕ) (t u : Text) (r s : Reply) → Named x t r → Named x u s → t ++ (line_feed ∷ []) ≡ u ++ (line_feed ∷ []) → r ≡ s
behind_apart x _ _ _ _ bare bare e = refl
behind_apart x _ _ _ _ bare (with_added k h) e = absurd (differ line_feed blank _ _ refl e)
behind_apart x _ _ _ _ bare (with_removed k h) e = absurd (differ line_feed blank _ _ refl e)
behind_apart x _ _ _ _ (with_added j h) bare e = absurd (differ blank line_feed _ _ refl e)
behind_apart x _ _ _ _ (with_added j h) (with_added k i) e = ap (added x) (change_apart plus_sign j k h i e)
behind_apart x _ _ _ _ (with_added j h) (with_removed k i) e = absurd (differ plus_sign hyphen _ _ refl (ap (drop 1) e))
behind_apart x _ _ _ _ (with_removed j h) bare e = absurd (differ blank line_feed _ _ refl e)
behind_apart x _ _ _ _ (with_removed j h) (with_added k i) e = absurd (differ hyphen plus_sign _ _ refl (ap (drop 1) e))
behind_apart x _ _ _ _ (with_removed j h) (with_removed k i) e = ap (removed x) (change_apart hyphen j k h i e)

named_apart : (x y : ℕ) (t u : Text) (r s : Reply) → Named x t r → Named y u s → x ≤ 4294967295 → y ≤ 4294967295 → answer_line r ≡ answer_line s → r ≡ s
named_apart x y t u r s n m h k e =
    let both : (x ≡ y) × (t ++ (line_feed ∷ []) ≡ u ++ (line_feed ∷ [])) =
    signed_apart equals_sign x y (t ++ (line_feed ∷ [])) (u ++ (line_feed ∷ [])) h k (named_stop x t r n) (named_stop y u s m)
    (sym (named_line x t r n) ∙ e ∙ named_line y u s m) in
    behind_apart x t u r s n (subst (λ (z : ℕ). Named z u s) (sym both.0) m) both.1

-- the numbers of the conditions are small
few : (condition : Refusal) → number_of condition ≤ 4294967295
few condition = omega (arith, number_most condition)

-- distinct answers print distinct lines
pub lines_apart : (r s : Reply) → NumbersFit r → NumbersFit s → answer_line r ≡ answer_line s → r ≡ s
unfolding answer_line answer_text yes_or_no
lines_apart _ _ (refusal_fits x) (refusal_fits y) e = ap refusal (number_of_injective x y (number_apart R (number_of x) (number_of y) (few x) (few y) e))
lines_apart _ _ (refusal_fits x) (name_fits y u s m k) e = absurd (differ R equals_sign _ _ refl (e ∙ named_line y u s m))
lines_apart _ _ (refusal_fits x) (value_fits y k) e = absurd (differ R «V» _ _ refl e)
lines_apart _ _ (refusal_fits x) (yes_no_fits true) e = absurd (differ R T _ _ refl e)
lines_apart _ _ (refusal_fits x) (yes_no_fits false) e = absurd (differ R N _ _ refl e)
lines_apart _ _ (refusal_fits x) (list_fits i qs k hq) e = absurd (differ R L _ _ refl e)
lines_apart _ _ (name_fits x t r n h) (refusal_fits y) e = absurd (differ equals_sign R _ _ refl (sym (named_line x t r n) ∙ e))
lines_apart _ _ (name_fits x t r n h) (name_fits y u s m k) e = named_apart x y t u r s n m h k e
lines_apart _ _ (name_fits x t r n h) (value_fits y k) e = absurd (differ equals_sign «V» _ _ refl (sym (named_line x t r n) ∙ e))
lines_apart _ _ (name_fits x t r n h) (yes_no_fits true) e = absurd (differ equals_sign T _ _ refl (sym (named_line x t r n) ∙ e))
lines_apart _ _ (name_fits x t r n h) (yes_no_fits false) e = absurd (differ equals_sign N _ _ refl (sym (named_line x t r n) ∙ e))
lines_apart _ _ (name_fits x t r n h) (list_fits i qs k hq) e = absurd (differ equals_sign L _ _ refl (sym (named_line x t r n) ∙ e))
lines_apart _ _ (value_fits x h) (refusal_fits y) e = absurd (differ «V» R _ _ refl e)
lines_apart _ _ (value_fits x h) (name_fits y u s m k) e = absurd (differ «V» equals_sign _ _ refl (e ∙ named_line y u s m))
lines_apart _ _ (value_fits x h) (value_fits y k) e = ap valued (number_apart «V» x y h k e)
lines_apart _ _ (value_fits x h) (yes_no_fits true) e = absurd (differ «V» T _ _ refl e)
lines_apart _ _ (value_fits x h) (yes_no_fits false) e = absurd (differ «V» N _ _ refl e)
lines_apart _ _ (value_fits x h) (list_fits i qs k hq) e = absurd (differ «V» L _ _ refl e)
lines_apart _ _ (yes_no_fits true) (refusal_fits y) e = absurd (differ T R _ _ refl e)
lines_apart _ _ (yes_no_fits true) (name_fits y u s m k) e = absurd (differ T equals_sign _ _ refl (e ∙ named_line y u s m))
lines_apart _ _ (yes_no_fits true) (value_fits y k) e = absurd (differ T «V» _ _ refl e)
lines_apart _ _ (yes_no_fits true) (yes_no_fits true) e = refl
lines_apart _ _ (yes_no_fits true) (yes_no_fits false) e = absurd (differ T N _ _ refl e)
lines_apart _ _ (yes_no_fits true) (list_fits i qs k hq) e = absurd (differ T L _ _ refl e)
lines_apart _ _ (yes_no_fits false) (refusal_fits y) e = absurd (differ N R _ _ refl e)
lines_apart _ _ (yes_no_fits false) (name_fits y u s m k) e = absurd (differ N equals_sign _ _ refl (e ∙ named_line y u s m))
lines_apart _ _ (yes_no_fits false) (value_fits y k) e = absurd (differ N «V» _ _ refl e)
lines_apart _ _ (yes_no_fits false) (yes_no_fits true) e = absurd (differ N T _ _ refl e)
lines_apart _ _ (yes_no_fits false) (yes_no_fits false) e = refl
lines_apart _ _ (yes_no_fits false) (list_fits i qs k hq) e = absurd (differ N L _ _ refl e)
lines_apart _ _ (list_fits j ps h hp) (refusal_fits y) e = absurd (differ L R _ _ refl e)
lines_apart _ _ (list_fits j ps h hp) (name_fits y u s m k) e = absurd (differ L equals_sign _ _ refl (e ∙ named_line y u s m))
lines_apart _ _ (list_fits j ps h hp) (value_fits y k) e = absurd (differ L «V» _ _ refl e)
lines_apart _ _ (list_fits j ps h hp) (yes_no_fits true) e = absurd (differ L T _ _ refl e)
lines_apart _ _ (list_fits j ps h hp) (yes_no_fits false) e = absurd (differ L N _ _ refl e)
lines_apart _ _ (list_fits j ps h hp) (list_fits i qs k hq) e = list_apart j i ps qs h k hp hq e
