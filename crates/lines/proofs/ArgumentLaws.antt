-- Arguments by the words that they take.
use Rattle.std.specs.Prelude.{Bool, true, false, cond, Option, Some, None, Ok, List, [], ◌∷◌, ◌≡◌, ℕ, ◌≤◌, eqb, length, take, drop}
use Rattle.std.proofs.Common.{refl, sym, ap, ◌∙◌, arith}
use borrow.Author.Tests.{eqb-true}
use Rattle.model.specs.declared.Call.{Call}
use Rattle.model.specs.declared.Space.{Space}
use Rattle.model.specs.declared.Space.TheVariants.{Universe, Numbered, Nothing}
use Rattle.model.specs.Keys.{most_name}
use Rattle.text.specs.Bytes.{Text, before, blank, same_text, U, hyphen}
use Rattle.text.specs.Numerals.{is_digit, plain_digits, read_number}
use Rattle.std.specs.Str.{bytes_eq}
use Rattle.text.proofs.Reading.{before_take, same_text_lem, same_bytes, number_most}
use Rattle.lines.specs.declared.Argument.{Argument}
use Rattle.lines.specs.declared.Argument.TheVariants.{Number, Universal, NoSelection}
use Rattle.lines.specs.Calls.{Reading, refused, with_number, take_number, take_space, complete}
use Rattle.lines.specs.Places.{words_behind, others, as_number, of_word, first_of, field_of, left_by, space_of}
use Rattle.lines.proofs.WordLaws.{first_word}

-- nothing follows the last argument

pub nothing_follows : (c : Call) (t : Text) → eqb (length t) 0 ≡ true → Ok c ≡ complete c (words_behind t)
unfolding complete words_behind
nothing_follows c [] e = refl
nothing_follows c (b ∷ bs) e = absurd (omega (arith, eqb-true (length (b ∷ bs)) 0 e))

pub something_follows : (c : Call) (t : Text) → eqb (length t) 0 ≡ false → refused ≡ complete c (words_behind t)
unfolding complete words_behind
something_follows c [] e = absurd (cc)
something_follows c (b ∷ bs) e = sym (ap (complete c) (first_word bs))

-- one argument

-- what `==` says of a word and some letters
pub compared : (w letters lent : Text) (r t : Bool) → r ≡ bytes_eq w lent → lent ≡ letters → r ≡ t → same_text w letters ≡ t
compared w letters lent r t e f g = sym (same_bytes w letters) ∙ ap (bytes_eq w) (sym f) ∙ sym e ∙ g

pub is_universe_lem : (most : ℕ) (w : Text) → same_text w (U ∷ []) ≡ true → Universal ≡ of_word most w
unfolding of_word
is_universe_lem most w e = rw e

pub is_nothing_lem : (most : ℕ) (w : Text) → same_text w (U ∷ []) ≡ false → same_text w (hyphen ∷ []) ≡ true → NoSelection ≡ of_word most w
unfolding of_word
is_nothing_lem most w e f = rw (e, f)

pub is_number : (most : ℕ) (w : Text) (o : Option ℕ) → same_text w (U ∷ []) ≡ false → same_text w (hyphen ∷ []) ≡ false → o ≡ read_number most w → as_number o ≡ of_word most w
unfolding of_word
is_number most w o e f g = ap as_number g ∙ rw (e, f)

pub none_left : (t : Text) → length t ≡ 0 → words_behind t ≡ others (words_behind t)
unfolding words_behind others
none_left [] h = refl
none_left (b ∷ bs) h = absurd (omega arith)

-- the rest of a line that begins with a byte, and the words behind it, the first of which has n bytes
module _ (t words : Text) (b n : ℕ) (e : t ≡ b ∷ words) (f : n ≡ length (before blank words)) where
  parted_word : words_behind t ≡ before blank words ∷ words_behind (drop n words)
  unfolding words_behind
  parted_word = ap words_behind e ∙ first_word words ∙ ap (λ (k : ℕ). before blank words ∷ words_behind (drop k words)) (sym f)

  pub its_argument : (most : ℕ) (word : Text) (a : Argument) → word ≡ take n words → a ≡ of_word most word → a ≡ first_of most (words_behind t)
  unfolding first_of
  its_argument most word a g h =
      h
      ∙ ap (of_word most) (g ∙ ap (λ (k : ℕ). take k words) f ∙ before_take blank words)
      ∙ sym (ap (first_of most) parted_word)

  pub its_rest : (after : Text) → after ≡ drop n words → words_behind after ≡ others (words_behind t)
  unfolding others
  its_rest after g = ap words_behind g ∙ sym (ap others parted_word)

-- an argument that is a number is at most what it may be
word_most : (most : ℕ) (w : Text) (x : ℕ) → of_word most w ≡ Number x → x ≤ most
unfolding of_word as_number
word_most most w x f = go (same_text w (U ∷ [])) (same_text w (hyphen ∷ [])) (read_number most w) refl f
  where
    go : (b d : Bool) (o : Option ℕ) → read_number most w ≡ o → cond b Universal (cond d NoSelection (as_number o)) ≡ Number x → x ≤ most
    go true d o g h = absurd (cc)
    go false true o g h = absurd (cc)
    go false false None g h = absurd (cc)
    go false false (Some y) g h =
        let z : y ≡ x = cc in
        number_most most w x (g ∙ ap (λ (k : ℕ). Some k) z)

first_most : (most : ℕ) (ws : List Text) (x : ℕ) → first_of most ws ≡ Number x → x ≤ most
unfolding first_of
first_most most [] x f = absurd (cc)
first_most most (w ∷ ws) x f = word_most most w x f

pub argument_fits : (most : ℕ) (ws : List Text) (x : ℕ) (a : Argument) → a ≡ first_of most ws → a ≡ Number x → x ≤ most
argument_fits most ws x a f g = first_most most ws x (sym f ∙ g)

pub field_fits : (read : Bool) (most : ℕ) (ws : List Text) (x : ℕ) (a : Argument) → a ≡ field_of read most ws → a ≡ Number x → x ≤ most
unfolding field_of
field_fits true most ws x a f g = first_most most ws x (sym f ∙ g)
field_fits false most ws x a f g =
    let z : 0 ≡ x = cc in
    omega arith

-- the words that an argument takes

-- what the test on the variant of an argument says
abbrev pub NoNumber : Argument → Type 0
NoNumber a = (x : ℕ) → a ≡ Number x → ⊥

-- and that is what it says of each number
pub no_number : (a : Argument) → NoNumber a → (x : ℕ) → a ≡ Number x → ⊥
no_number a n = n

-- U is no number
u_no_number : (most : ℕ) (w : Text) → same_text w (U ∷ []) ≡ true → read_number most w ≡ None
unfolding read_number plain_digits is_digit
u_no_number most w e = ap (read_number most) (same_text_lem w (U ∷ []) e)

-- `-` is no number
hyphen_no_number : (most : ℕ) (w : Text) → same_text w (hyphen ∷ []) ≡ true → read_number most w ≡ None
unfolding read_number plain_digits is_digit
hyphen_no_number most w e = ap (read_number most) (same_text_lem w (hyphen ∷ []) e)

-- what a word leads to, where a number is asked for
word_number : (most : ℕ) (w : Text) (x : ℕ) (then : ℕ → Reading) → of_word most w ≡ Number x → with_number (read_number most w) then ≡ then x
unfolding of_word as_number with_number
word_number most w x then f = go (same_text w (U ∷ [])) (same_text w (hyphen ∷ [])) (read_number most w) f
  where
    go : (b d : Bool) (o : Option ℕ) → cond b Universal (cond d NoSelection (as_number o)) ≡ Number x → with_number o then ≡ then x
    go true d o h = absurd (cc)
    go false true o h = absurd (cc)
    go false false None h = absurd (cc)
    go false false (Some y) h =
        let z : y ≡ x = cc in
        ap then z

word_refused : (most : ℕ) (w : Text) (then : ℕ → Reading) → NoNumber (of_word most w) → with_number (read_number most w) then ≡ refused
unfolding of_word as_number with_number
word_refused most w then n = go (same_text w (U ∷ [])) refl (same_text w (hyphen ∷ [])) refl (read_number most w) refl n
  where
    go : (b : Bool) → same_text w (U ∷ []) ≡ b → (d : Bool) → same_text w (hyphen ∷ []) ≡ d → (o : Option ℕ) → read_number most w ≡ o
        → NoNumber (cond b Universal (cond d NoSelection (as_number o))) → with_number o then ≡ refused
    go b f d k None g h = refl
    go true f d k (Some y) g h =
        let u = u_no_number most w f in
        absurd (cc)
    go false f true k (Some y) g h =
        let u = hyphen_no_number most w k in
        absurd (cc)
    go false f false k (Some y) g h = absurd (h y refl)

pub takes_number : (read : Bool) (most : ℕ) (ws : List Text) (x : ℕ) (a : Argument) (then : ℕ → List Text → Reading) → a ≡ field_of read most ws → a ≡ Number x
    → take_number read most ws then ≡ then x (left_by read ws)
unfolding field_of left_by take_number first_of others
takes_number false most ws x a then f g =
    let p : 0 ≡ x = cc in
    ap (λ (y : ℕ). then y ws) p
takes_number true most [] x a then f g = absurd (cc)
takes_number true most (w ∷ ws) x a then f g = word_number most w x (λ (y : ℕ). then y ws) (sym f ∙ g)

pub takes_none : (read : Bool) (most : ℕ) (ws : List Text) (a : Argument) (then : ℕ → List Text → Reading) → a ≡ field_of read most ws → NoNumber a → take_number read most ws then ≡ refused
unfolding field_of take_number first_of
takes_none false most ws a then f n = absurd (n 0 f)
takes_none true most [] a then f n = refl
takes_none true most (w ∷ ws) a then f n = word_refused most w (λ (y : ℕ). then y ws) (λ (x : ℕ) (h : of_word most w ≡ Number x). n x (f ∙ h))

-- the words that a space takes

pub takes_space : (optional : Bool) (ws : List Text) (s : Space) (r : Option Space) (then : Space → List Text → Reading) → r ≡ space_of optional (first_of most_name ws) → r ≡ Some s
    → take_space optional ws then ≡ then s (others ws)
unfolding first_of of_word as_number space_of take_space with_number others
takes_space true [] s r then f g =
    let p : Universe ≡ s = cc in
    ap (λ (t : Space). then t []) p
takes_space false [] s r then f g = absurd (cc)
takes_space optional (w ∷ ws) s r then f g = go (same_text w (U ∷ [])) (same_text w (hyphen ∷ [])) (read_number most_name w) (sym f ∙ g)
  where
    go : (b d : Bool) (o : Option ℕ) → space_of optional (cond b Universal (cond d NoSelection (as_number o))) ≡ Some s
        → cond b (then Universe ws) (cond d (then Nothing ws) (with_number o (λ (x : ℕ). then (Numbered (record { 0 = x })) ws))) ≡ then s ws
    go true d o h =
        let p : Universe ≡ s = cc in
        ap (λ (t : Space). then t ws) p
    go false true o h =
        let p : Nothing ≡ s = cc in
        ap (λ (t : Space). then t ws) p
    go false false None h = absurd (cc)
    go false false (Some x) h =
        let p : Numbered (record { 0 = x }) ≡ s = cc in
        ap (λ (t : Space). then t ws) p

pub takes_no_space : (optional : Bool) (ws : List Text) (r : Option Space) (then : Space → List Text → Reading) → r ≡ space_of optional (first_of most_name ws) → r ≡ None
    → take_space optional ws then ≡ refused
unfolding first_of of_word as_number space_of take_space with_number
takes_no_space true [] r then f g = absurd (cc)
takes_no_space false [] r then f g = refl
takes_no_space optional (w ∷ ws) r then f g = go (same_text w (U ∷ [])) (same_text w (hyphen ∷ [])) (read_number most_name w) (sym f ∙ g)
  where
    go : (b d : Bool) (o : Option ℕ) → space_of optional (cond b Universal (cond d NoSelection (as_number o))) ≡ None
        → cond b (then Universe ws) (cond d (then Nothing ws) (with_number o (λ (x : ℕ). then (Numbered (record { 0 = x })) ws))) ≡ refused
    go true d o h = absurd (cc)
    go false true o h = absurd (cc)
    go false false None h = refl
    go false false (Some x) h = absurd (cc)
