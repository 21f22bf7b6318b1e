-- Answers put part by part: how long each is, and the whole.
use mathlib.Core.Bool.{Bool, false}
use mathlib.Core.List.{List, [], ◌∷◌, ◌++◌, map, append_assoc}
use mathlib.Core.Path.{◌≡◌, sym, ap, ◌∙◌, subst}
use Rattle.std.specs.Prelude.{Result, Ok}
use Prim.Native.Nat.{ℕ, ◌+◌, ◌/◌, ◌%◌, ◌≤◌}
use native.Mathlib.Omega.{arith}
use lib.ListN.{length, take, drop, length-append}
use Rattle.model.specs.declared.Answer.{Answer}
use Rattle.model.specs.declared.Refusal.{Refusal}
use Rattle.model.specs.OneCall.{name_count, unpack, observed}
use Rattle.model.specs.Steps.{Reply, pairs}
use Rattle.text.specs.Bytes.{Text, line_feed, blank, equals_sign, colon, written, I, L, N}
use Rattle.text.specs.Numerals.{printed_number}
use Rattle.print.specs.declared.line.Line.{Line}
use Rattle.print.specs.Answers.{signed, change, yes_or_no, entry_text, entries_text, answer_text, answer_line, Put, AtFront, Room, Adds, Printable}
use Rattle.print.proofs.Puts.{adds_then, adds_same}

-- a sign, a blank and a number
pub signed_adds : (sign x : ℕ) {l l₁ l₂ l₃ : Line} → Room (signed sign x) l → Adds (sign ∷ []) l l₁ → Adds (blank ∷ []) l₁ l₂ → Adds (printed_number x) l₂ l₃ → Adds (signed sign x) l l₃
signed_adds sign x h p q r = adds_then (omega arith) (adds_then (omega arith) p q) r

-- a name, a blank, a sign and how many tuples were added or removed
pub changed_size : (x sign k : ℕ) → length (signed equals_sign x ++ change sign k) ≡ 4 + length (printed_number x) + length (printed_number k)
changed_size x sign k = omega (arith, length-append (signed equals_sign x) (change sign k))

pub changed_adds : (x sign k : ℕ) {l l₁ l₂ l₃ l₄ : Line} → Room (signed equals_sign x ++ change sign k) l
    → Adds (signed equals_sign x) l l₁ → Adds (blank ∷ []) l₁ l₂ → Adds (sign ∷ []) l₂ l₃ → Adds (printed_number k) l₃ l₄
    → Adds (signed equals_sign x ++ change sign k) l l₄
changed_adds x sign k h p q r s =
    let size = changed_size x sign k in
    adds_same
    (ap (λ (bs : Text). bs ++ printed_number k) (append_assoc (signed equals_sign x) (blank ∷ []) (sign ∷ []))
    ∙ append_assoc (signed equals_sign x) (blank ∷ sign ∷ []) (printed_number k))
    (adds_then (omega (arith, length-append (signed equals_sign x ++ (blank ∷ [])) (sign ∷ []), length-append (signed equals_sign x) (blank ∷ [])))
    (adds_then (omega (arith, length-append (signed equals_sign x) (blank ∷ []))) (adds_then (omega arith) p q) r) s)

pub no_room : (b : Bool) (l : Line) → b ≡ false → Room (yes_or_no b) l → Room (N ∷ I ∷ L ∷ []) l
unfolding yes_or_no
no_room b l e h = subst (λ (x : Bool). Room (yes_or_no x) l) e h

-- a blank, an edge, a colon and a node
pub entry_size : (w : ℕ) → length (entry_text (unpack w)) ≡ 2 + length (printed_number (w / 65536)) + length (printed_number (w % 65536))
unfolding entry_text unpack
entry_size w = omega (arith, length-append (printed_number (w / name_count)) (colon ∷ printed_number (w % name_count)))

pub entry_adds : (w : ℕ) {l l₁ l₂ l₃ l₄ : Line} → Room (entry_text (unpack w)) l → Adds (blank ∷ []) l l₁ → Adds (printed_number (w / 65536)) l₁ l₂
    → Adds (colon ∷ []) l₂ l₃ → Adds (printed_number (w % 65536)) l₃ l₄ → Adds (entry_text (unpack w)) l l₄
unfolding entry_text unpack
entry_adds w h p q r s =
    let size = entry_size w in
    adds_same (ap (λ (bs : Text). blank ∷ bs) (append_assoc (printed_number (w / name_count)) (colon ∷ []) (printed_number (w % name_count))))
    (adds_then (omega (arith, length-append (printed_number (w / name_count)) (colon ∷ []))) (adds_then (omega arith) (adds_then (omega arith) p q) r) s)

-- a list: its count, then its entries
pub list_size : (k : ℕ) (list : List ℕ) → length (answer_text (pairs k (map unpack (take k list)))) ≡ 2 + length (printed_number k) + length (entries_text (map unpack (take k list)))
unfolding answer_text
list_size k list = omega (arith, length-append (printed_number k) (entries_text (map unpack (take k list))))

pub list_adds : (k : ℕ) (list : List ℕ) {l l₁ l₂ : Line} → Room (answer_text (pairs k (map unpack (take k list)))) l → Adds (signed L k) l l₁
    → Adds (entries_text (map unpack (take k list))) l₁ l₂ → Adds (answer_text (pairs k (map unpack (take k list)))) l l₂
unfolding answer_text
list_adds k list h p q = adds_then (omega (arith, list_size k list)) p q

-- a line: the text of the answer, then a line feed
pub line_size : (r : Reply) → length (answer_line r) ≡ length (answer_text r) + 1
unfolding answer_line
line_size r = length-append (answer_text r) (line_feed ∷ [])

pub line_adds : (r : Reply) {l l₁ l₂ : Line} → Room (answer_line r) l → Adds (answer_text r) l l₁ → Adds (line_feed ∷ []) l₁ l₂ → Adds (answer_line r) l l₂
unfolding answer_line
line_adds r h p q = adds_then (omega (arith, line_size r)) p q

-- the lent bytes hold what a line has that begins with the first of them
pub line_done : (bs out : Text) (end : ℕ) (held final : Text) → Put bs out 0 end held → final ≡ held → AtFront bs out end final
unfolding written
line_done bs out end held final p e =
    let size : 0 + length bs ≡ length bs = omega arith in
    record { size = p.place ∙ size; bytes = e ∙ p.bytes ∙ ap (λ (n : ℕ). bs ++ drop n out) size }

-- a call that is answered
pub answered : {a b : Answer} → a ≡ b → ◌≡◌ {A = Result Answer Refusal} (Ok a) (Ok b)
answered e = ap (λ (x : Answer). Ok x) e

-- an answer whose variant is known
module _ {a b : Result Answer Refusal} (list : List ℕ) (e : a ≡ b) where
  pub known_room : {out : Text} {at : ℕ} → Printable (answer_text (observed a list)) a list out at → at + length (answer_text (observed b list)) ≤ length out
  known_room {out} {at} h = subst (λ (x : Result Answer Refusal). at + length (answer_text (observed x list)) ≤ length out) e h.room

  pub known_printable : {out : Text} {at : ℕ} → Printable (answer_text (observed a list)) a list out at → Printable (answer_text (observed b list)) b list out at
  known_printable {out} {at} h = subst (λ (x : Result Answer Refusal). Printable (answer_text (observed x list)) x list out at) e h

  pub known_adds : {l l' : Line} → Adds (answer_text (observed b list)) l l' → Adds (answer_text (observed a list)) l l'
  known_adds p = adds_same (ap (λ (x : Result Answer Refusal). answer_text (observed x list)) (sym e)) p
