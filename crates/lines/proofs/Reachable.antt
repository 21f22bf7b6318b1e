-- No operator is out of reach: each call has a line that reads as it.
use mathlib.Core.Bool.{Bool, true, false, cond, ◌&&◌, true≢false}
use mathlib.Core.List.{List, [], ◌∷◌, append-nil}
use mathlib.Core.Path.{◌≡◌, refl, sym, ap, ◌∙◌, subst}
use Prim.Native.Nat.{ℕ, ◌≤◌}
use native.Mathlib.Omega.{arith}
use lib.Dec.{eqb, leb}
use borrow.Author.Tests.{eqb-true, eqb-false, ne_eqb, leb-true}
use Rattle.std.specs.Prelude.{Some, Ok}
use Rattle.model.specs.declared.Call.{Call}
use Rattle.model.specs.declared.Space.{Space}
use Rattle.model.specs.declared.SpaceName.{SpaceName}
use Rattle.model.specs.declared.Space.TheVariants.{Universe, Numbered, Nothing}
use Rattle.model.specs.Numbers.{every_up_to}
use Rattle.model.specs.Keys.{most_name}
use Rattle.model.specs.Operators.{reads_of, within}
use Rattle.model.specs.Steps.{space_number}
use Rattle.model.proofs.Bools.{and_left, and_right, and_both, failed}
use Rattle.model.proofs.Numbers.{every_up_to_lem}
use Rattle.text.specs.Bytes.{Text, same_text, blank, U, hyphen}
use Rattle.text.specs.Numerals.{is_digit, all_digits, printed_number}
use Rattle.text.proofs.Reading.{same_text_lem}
use Rattle.text.proofs.Printing.{reads_back, digits_printed}
use Rattle.text.proofs.Lacking.{lacks, lacks_printed}
use Rattle.lines.specs.Lines.{words_of}
use Rattle.letters.proofs.LookUp.{is_number, is_number_lem}
use Rattle.letters.specs.OperatorWords.{operator_words, number_from, operator_number}
use Rattle.lines.specs.Calls.{Reading, most_value, with_number, take_number, take_space, complete, call_of, in_order, space_then_value, spaces, arguments, read_words, read_line}
use Rattle.model.specs.Unread.{readable}
use Rattle.lines.specs.Reachable.{joined, letters_of, space_text, if_read, fields_then, ordered_of, arguments_of, line_of, short_line_of, CallFits}
use Rattle.lines.proofs.Parting.{parted_off}
use Rattle.lines.proofs.CallLaws.{behind_n, behind_g, behind_m, behind_v}

-- words without a blank, joined, are parted again

abbrev plain : Text → Bool
plain w = lacks blank w

abbrev all_plain : List Text → Bool
all_plain [] = true
all_plain (w ∷ ws) = plain w && all_plain ws

words_one : (w : Text) → plain w ≡ true → words_of w ≡ w ∷ []
unfolding words_of
words_one w e = ap words_of (sym (append-nil w)) ∙ parted_off blank words_of (λ b bs. refl) w [] [] e refl

parted : (w : Text) (ws : List Text) → plain w ≡ true → all_plain ws ≡ true → words_of (joined w ws) ≡ w ∷ ws
unfolding joined words_of
parted w [] e f = words_one w e
parted w (x ∷ xs) e f =
    parted_off blank words_of (λ b bs. refl) w (blank ∷ joined x xs) (words_of (joined x xs)) e refl
    ∙ ap (λ (vs : List Text). w ∷ vs) (parted x xs (and_left (plain x) (all_plain xs) f) (and_right (plain x) (all_plain xs) f))

-- the words of a line have no blank

printed_plain : (x : ℕ) → plain (printed_number x) ≡ true
printed_plain x = lacks_printed blank x (omega arith)

space_plain : (s : Space) → plain (space_text s) ≡ true
unfolding space_text
space_plain Universe = refl
space_plain (Numbered x) = printed_plain x.0
space_plain Nothing = refl

read_plain : (read : Bool) (w : Text) (ws : List Text) → plain w ≡ true → all_plain ws ≡ true → all_plain (if_read read w ws) ≡ true
unfolding if_read
read_plain true w ws e f = and_both (plain w) (all_plain ws) e f
read_plain false w ws e f = f

letters_plain : (o : ℕ) → 1 ≤ o → o ≤ 57 → plain (letters_of o) ≡ true
unfolding every_up_to letters_of operator_words
letters_plain o h k = every_up_to_lem (λ (i : ℕ). plain (letters_of i)) 57 refl o h k

fields_plain : (c : Call) (ws : List Text) → all_plain ws ≡ true → all_plain (fields_then c ws) ≡ true
unfolding fields_then
fields_plain c ws h =
    read_plain (reads_of c.operator).n _ _ (printed_plain c.n.0)
    (read_plain (reads_of c.operator).g _ _ (printed_plain c.g.0)
    (read_plain (reads_of c.operator).m _ _ (printed_plain c.m.0)
    (read_plain (reads_of c.operator).v _ ws (printed_plain c.v) h)))

ordered_plain : (c : Call) → all_plain (ordered_of c) ≡ true
unfolding ordered_of
ordered_plain c =
    fields_plain c (if_read (reads_of c.operator).s (space_text c.s) [])
    (read_plain (reads_of c.operator).s _ [] (space_plain c.s) refl)

either : (b : Bool) (x y : List Text) → all_plain x ≡ true → all_plain y ≡ true → all_plain (cond b x y) ≡ true
either true x y e f = e
either false x y e f = f

arguments_plain : (c : Call) → all_plain (arguments_of c) ≡ true
unfolding arguments_of
arguments_plain c =
    either (eqb c.operator 52) (space_text c.s ∷ printed_number c.v ∷ []) (ordered_of c)
    (and_both (plain (space_text c.s)) _ (space_plain c.s) (and_both (plain (printed_number c.v)) true (printed_plain c.v) refl))
    (ordered_plain c)

-- a printed field reads back

take_printed : (read : Bool) (most x : ℕ) (ws : List Text) (then : ℕ → List Text → Reading) → x ≤ most → most ≤ most_value → take_number read most (if_read read (printed_number x) ws) then ≡ then (cond read x 0) ws
unfolding take_number if_read with_number
take_printed true most x ws then h k =
    let b = reads_back most x h k in
    rw b
take_printed false most x ws then h k = refl

-- a printed number is neither U nor `-`
not_u : (x : ℕ) → x ≤ most_value → same_text (printed_number x) (U ∷ []) ≡ false
unfolding all_digits is_digit
not_u x h = failed _ (λ e. true≢false (sym (digits_printed x h) ∙ ap all_digits (same_text_lem (printed_number x) (U ∷ []) e)))

not_hyphen : (x : ℕ) → x ≤ most_value → same_text (printed_number x) (hyphen ∷ []) ≡ false
unfolding all_digits is_digit
not_hyphen x h = failed _ (λ e. true≢false (sym (digits_printed x h) ∙ ap all_digits (same_text_lem (printed_number x) (hyphen ∷ []) e)))

universe_space : (optional : Bool) (ws : List Text) (then : Space → List Text → Reading) → take_space optional ((U ∷ []) ∷ ws) then ≡ then Universe ws
unfolding take_space same_text
universe_space optional ws then = refl

nothing_space : (optional : Bool) (ws : List Text) (then : Space → List Text → Reading) → take_space optional ((hyphen ∷ []) ∷ ws) then ≡ then Nothing ws
unfolding take_space same_text
nothing_space optional ws then = refl

printed_space : (optional : Bool) (x : SpaceName) (ws : List Text) (then : Space → List Text → Reading) → x.0 ≤ most_name → take_space optional (printed_number x.0 ∷ ws) then ≡ then (Numbered x) ws
unfolding take_space with_number
printed_space optional x ws then h =
    let n = not_u x.0 (omega arith) in
    let k = not_hyphen x.0 (omega arith) in
    let b = reads_back most_name x.0 h (omega arith) in
    rw (n, k, b)

take_space_lem : (optional : Bool) (s : Space) (ws : List Text) (then : Space → List Text → Reading) → space_number s ≤ most_name → take_space optional (space_text s ∷ ws) then ≡ then s ws
unfolding space_text space_number
take_space_lem optional Universe ws then h = universe_space optional ws then
take_space_lem optional (Numbered x) ws then h = printed_space optional x ws then h
take_space_lem optional Nothing ws then h = nothing_space optional ws then

-- the line of a call, by its words
whole : (c : Call) → CallFits c → read_line (line_of c) ≡ with_number (operator_number (letters_of c.operator)) (λ (o : ℕ). arguments o (arguments_of c))
unfolding read_line read_words line_of
whole c f = ap read_words (parted (letters_of c.operator) (arguments_of c) (letters_plain c.operator f.least f.last) (arguments_plain c))

-- 57, 56 and 52

reads_57 : (n g m v : ℕ) (s : Space) → n ≤ most_name → with_number (operator_number (letters_of 57)) (λ (o : ℕ). arguments o (arguments_of (call_of 57 n g m v s))) ≡ Ok (readable (call_of 57 n g m v s))
unfolding letters_of operator_words operator_number number_from same_text with_number arguments arguments_of ordered_of fields_then if_read reads_of spaces take_number complete readable
reads_57 n g m v s h =
    let b = reads_back most_name n h (omega arith) in
    rw b

reads_56 : (n g m v : ℕ) (s : Space) → with_number (operator_number (letters_of 56)) (λ (o : ℕ). arguments o (arguments_of (call_of 56 n g m v s))) ≡ Ok (readable (call_of 56 n g m v s))
unfolding letters_of operator_words operator_number number_from same_text with_number arguments arguments_of ordered_of fields_then if_read reads_of spaces readable
reads_56 n g m v s = refl

value_last : (s : Space) (v : ℕ) → v ≤ most_value → take_number true most_value (printed_number v ∷ []) (λ (x : ℕ) (ws : List Text). complete (call_of 52 0 0 0 x s) ws) ≡ Ok (call_of 52 0 0 0 v s)
unfolding take_number with_number complete
value_last s v h =
    let b = reads_back most_value v h (omega arith) in
    rw b

reads_52 : (n g m v : ℕ) (s : Space) → v ≤ most_value → space_number s ≤ most_name →
    with_number (operator_number (letters_of 52)) (λ (o : ℕ). arguments o (arguments_of (call_of 52 n g m v s))) ≡ Ok (readable (call_of 52 n g m v s))
unfolding letters_of operator_words operator_number number_from same_text with_number arguments arguments_of reads_of space_then_value readable
reads_52 n g m v s h k =
    take_space_lem false s (printed_number v ∷ []) (λ (t : Space) (ws : List Text). take_number true most_value ws (λ (x : ℕ) (vs : List Text). complete (call_of 52 0 0 0 x t) vs)) k
    ∙ value_last s v h

-- the others

number_back : (o : ℕ) → 1 ≤ o → o ≤ 56 → operator_number (letters_of o) ≡ Some o
unfolding every_up_to letters_of operator_words operator_number number_from same_text
number_back o h k = is_number_lem (operator_number (letters_of o)) o (every_up_to_lem (λ (i : ℕ). is_number (operator_number (letters_of i)) i) 56 refl o h k)

space_asked : (o : ℕ) → 1 ≤ o → o ≤ 55 → (reads_of o).s ≡ true
unfolding every_up_to reads_of
space_asked o h k = every_up_to_lem (λ (i : ℕ). (reads_of i).s) 55 refl o h k

space_last : (read optional : Bool) (s : Space) (then : Space → List Text → Reading) → read ≡ true → space_number s ≤ most_name → take_space optional (if_read read (space_text s) []) then ≡ then (cond read s Universe) []
unfolding if_read
space_last true optional s then e h = take_space_lem optional s [] then h
space_last false optional s then e h = absurd (true≢false (sym e))

-- what is left of the call when n, g, m and v are read: the space
abbrev fields_read : Call → Space → List Text → Reading
fields_read c s ws =
    let r = reads_of c.operator in
    complete (call_of c.operator (cond r.n c.n.0 0) (cond r.g c.g.0 0) (cond r.m c.m.0 0) (cond r.v c.v 0) s) ws

fields_in_order : (c : Call) → CallFits c → (ws : List Text) → in_order c.operator (fields_then c ws) ≡ take_space (within 1 50 c.operator) ws (fields_read c)
unfolding in_order fields_then
fields_in_order c f ws =
    let o = c.operator in
    let r = reads_of c.operator in
    let n = cond r.n c.n.0 0 in
    let g = cond r.g c.g.0 0 in
    let m = cond r.m c.m.0 0 in
    take_printed r.n most_name c.n.0 _ (behind_n o) f.names.n (omega arith)
    ∙ take_printed r.g most_name c.g.0 _ (behind_g o n) f.names.g (omega arith)
    ∙ take_printed r.m most_name c.m.0 _ (behind_m o n g) f.names.m (omega arith)
    ∙ take_printed r.v most_value c.v ws (behind_v o n g m) f.value (omega arith)

in_order_lem : (c : Call) → CallFits c → c.operator ≤ 55 → in_order c.operator (ordered_of c) ≡ Ok (readable c)
unfolding ordered_of readable complete
in_order_lem c f k =
    let r = reads_of c.operator in
    fields_in_order c f (if_read r.s (space_text c.s) [])
    ∙ space_last r.s (within 1 50 c.operator) c.s (fields_read c) (space_asked c.operator f.least k) f.names.s

reads_other : (c : Call) → CallFits c → c.operator ≤ 55 → (c.operator ≡ 52 → ⊥) → with_number (operator_number (letters_of c.operator)) (λ (o : ℕ). arguments o (arguments_of c)) ≡ Ok (readable c)
unfolding with_number arguments arguments_of
reads_other c f k b =
    let p = ne_eqb c.operator 52 b in
    let q = ne_eqb c.operator 56 (λ e. omega arith) in
    let i = number_back c.operator f.least (omega arith) in
    rw (i, p, q) (in_order_lem c f k)

-- every call of an operator from 1 to 57 has a line, and the line reads as it
pub no_operator_out_of_reach : (c : Call) → CallFits c → read_line (line_of c) ≡ Ok (readable c)
no_operator_out_of_reach c f = whole c f ∙ go (eqb c.operator 57) refl (eqb c.operator 56) refl (eqb c.operator 52) refl
  where
    Claim : Call → Type 0
    Claim d = with_number (operator_number (letters_of d.operator)) (λ (o : ℕ). arguments o (arguments_of d)) ≡ Ok (readable d)

    at : (o : ℕ) → Type 0
    at o = Claim (call_of o c.n.0 c.g.0 c.m.0 c.v c.s)

    go : (a : Bool) → eqb c.operator 57 ≡ a → (b : Bool) → eqb c.operator 56 ≡ b → (d : Bool) → eqb c.operator 52 ≡ d → at c.operator
    go true e b h d k = subst at (sym (eqb-true c.operator 57 e)) (reads_57 c.n.0 c.g.0 c.m.0 c.v c.s f.names.n)
    go false e true h d k = subst at (sym (eqb-true c.operator 56 h)) (reads_56 c.n.0 c.g.0 c.m.0 c.v c.s)
    go false e false h true k = subst at (sym (eqb-true c.operator 52 k)) (reads_52 c.n.0 c.g.0 c.m.0 c.v c.s f.value f.names.s)
    go false e false h false k =
        let p = eqb-false c.operator 57 e in
        let q = eqb-false c.operator 56 h in
        reads_other c f (omega (arith, f.last)) (eqb-false c.operator 52 k)

-- ---- without s

-- "For 1–50 the last, s, may be missing and means UNIVERSE"
missing_last : (c : Call) → within 1 50 c.operator ≡ true → c.s ≡ Universe → take_space (within 1 50 c.operator) [] (fields_read c) ≡ Ok (readable c)
unfolding take_space readable complete
missing_last c h e =
    let least = leb-true 1 c.operator (and_left (leb 1 c.operator) (leb c.operator 50) h) in
    let most = leb-true c.operator 50 (and_right (leb 1 c.operator) (leb c.operator 50) h) in
    let read = space_asked c.operator least (omega (arith, most)) in
    rw (h, read, e)

pub space_left_out : (c : Call) → CallFits c → within 1 50 c.operator ≡ true → c.s ≡ Universe → read_line (short_line_of c) ≡ Ok (readable c)
unfolding read_line read_words short_line_of with_number arguments
space_left_out c f h e =
    let most = leb-true c.operator 50 (and_right (leb 1 c.operator) (leb c.operator 50) h) in
    let p = ne_eqb c.operator 52 (λ k. omega (arith, most)) in
    let q = ne_eqb c.operator 56 (λ k. omega (arith, most)) in
    let i = number_back c.operator f.least (omega (arith, most)) in
    ap read_words (parted (letters_of c.operator) (fields_then c []) (letters_plain c.operator f.least f.last) (fields_plain c [] refl))
    ∙ rw (i, p, q) (fields_in_order c f [] ∙ missing_last c h e)
