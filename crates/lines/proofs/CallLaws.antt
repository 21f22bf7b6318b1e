-- A call read argument by argument.
use Rattle.std.specs.Prelude.{Bool, true, false, Option, Some, None, Ok, List, [], ◌∷◌, ◌≡◌, ℕ, length, take, drop, eqb}
use Rattle.std.proofs.Common.{refl, sym, ap, ◌∙◌, arith}
use borrow.Author.Tests.{eqb-true, ne_eqb}
use Rattle.model.specs.declared.Reads.{Reads}
use Rattle.model.specs.declared.Space.{Space}
use Rattle.model.specs.declared.Space.TheVariants.{Universe}
use Rattle.model.specs.Keys.{most_name}
use Rattle.model.specs.Operators.{reads_of, within}
use Rattle.text.specs.Bytes.{Text, before, blank}
use Rattle.text.proofs.Reading.{before_take}
use Rattle.lines.specs.declared.Argument.{Argument}
use Rattle.lines.specs.declared.Argument.TheVariants.{Number}
use Rattle.letters.specs.OperatorWords.{operator_number}
use Rattle.lines.specs.Calls.{Reading, most_value, refused, with_number, take_number, take_space, complete, call_of, in_order, space_then_value, spaces, arguments, read_words, read_line}
use Rattle.lines.specs.Places.{words_behind, others, first_of, field_of, left_by, space_of}
use Rattle.lines.proofs.WordLaws.{first_word}
use Rattle.lines.proofs.ArgumentLaws.{NoNumber, takes_number, takes_none, takes_space, takes_no_space}

-- what is left to read, behind n, g, m and v

abbrev pub behind_v : ℕ → ℕ → ℕ → ℕ → ℕ → List Text → Reading
behind_v o n g m v ws = take_space (within 1 50 o) ws (λ (s : Space) (vs : List Text). complete (call_of o n g m v s) vs)

abbrev pub behind_m : ℕ → ℕ → ℕ → ℕ → List Text → Reading
behind_m o n g m ws = take_number (reads_of o).v most_value ws (behind_v o n g m)

abbrev pub behind_g : ℕ → ℕ → ℕ → List Text → Reading
behind_g o n g ws = take_number (reads_of o).m most_name ws (behind_m o n g)

abbrev pub behind_n : ℕ → ℕ → List Text → Reading
behind_n o n ws = take_number (reads_of o).g most_name ws (behind_g o n)

-- one field, chosen of those that an operator reads
module _ (o : ℕ) (chosen : Reads → Bool) (most : ℕ) (ws : List Text) (then : ℕ → List Text → Reading) (r : Reads) (f : r ≡ reads_of o) (a : Argument) (h : a ≡ field_of (chosen r) most ws) where
  field : a ≡ field_of (chosen (reads_of o)) most ws
  field = h ∙ ap (λ (q : Reads). field_of (chosen q) most ws) f

  took : (x : ℕ) → a ≡ Number x → (vs : List Text) → vs ≡ left_by (chosen r) ws → take_number (chosen (reads_of o)) most ws then ≡ then x vs
  took x k vs l =
      takes_number (chosen (reads_of o)) most ws x a then field k
      ∙ ap (then x) (sym (l ∙ ap (λ (q : Reads). left_by (chosen q) ws) f))

  stopped : NoNumber a → refused ≡ take_number (chosen (reads_of o)) most ws then
  stopped n = sym (takes_none (chosen (reads_of o)) most ws a then field n)

-- the fields as the code finds them one after the other: the first that is no number ends it
module _ (o : ℕ) (ws : List Text) (r : Reads) (f : r ≡ reads_of o) (a₁ : Argument) (h₁ : a₁ ≡ field_of r.n most_name ws) where
  pub stop_at_n : NoNumber a₁ → refused ≡ in_order o ws
  unfolding in_order
  stop_at_n z = stopped o (λ (q : Reads). q.n) most_name ws (behind_n o) r f a₁ h₁ z

  module _ (n : ℕ) (k₁ : a₁ ≡ Number n) (ws₁ : List Text) (l₁ : ws₁ ≡ left_by r.n ws) (a₂ : Argument) (h₂ : a₂ ≡ field_of r.g most_name ws₁) where
    read_n : in_order o ws ≡ behind_n o n ws₁
    unfolding in_order
    read_n = took o (λ (q : Reads). q.n) most_name ws (behind_n o) r f a₁ h₁ n k₁ ws₁ l₁

    pub stop_at_g : NoNumber a₂ → refused ≡ in_order o ws
    stop_at_g z = stopped o (λ (q : Reads). q.g) most_name ws₁ (behind_g o n) r f a₂ h₂ z ∙ sym read_n

    module _ (g : ℕ) (k₂ : a₂ ≡ Number g) (ws₂ : List Text) (l₂ : ws₂ ≡ left_by r.g ws₁) (a₃ : Argument) (h₃ : a₃ ≡ field_of r.m most_name ws₂) where
      read_g : in_order o ws ≡ behind_g o n g ws₂
      read_g = read_n ∙ took o (λ (q : Reads). q.g) most_name ws₁ (behind_g o n) r f a₂ h₂ g k₂ ws₂ l₂

      pub stop_at_m : NoNumber a₃ → refused ≡ in_order o ws
      stop_at_m z = stopped o (λ (q : Reads). q.m) most_name ws₂ (behind_m o n g) r f a₃ h₃ z ∙ sym read_g

      module _ (m : ℕ) (k₃ : a₃ ≡ Number m) (ws₃ : List Text) (l₃ : ws₃ ≡ left_by r.m ws₂) (a₄ : Argument) (h₄ : a₄ ≡ field_of r.v most_value ws₃) where
        read_m : in_order o ws ≡ behind_m o n g m ws₃
        read_m = read_g ∙ took o (λ (q : Reads). q.m) most_name ws₂ (behind_m o n g) r f a₃ h₃ m k₃ ws₃ l₃

        pub stop_at_v : NoNumber a₄ → refused ≡ in_order o ws
        stop_at_v z = stopped o (λ (q : Reads). q.v) most_value ws₃ (behind_v o n g m) r f a₄ h₄ z ∙ sym read_m

        module _ (v : ℕ) (k₄ : a₄ ≡ Number v) (ws₄ : List Text) (l₄ : ws₄ ≡ left_by r.v ws₃) (optional : Bool) (p : optional ≡ within 1 50 o)
            (a₅ : Option Space) (h₅ : a₅ ≡ space_of optional (first_of most_name ws₄)) where
          read_v : in_order o ws ≡ behind_v o n g m v ws₄
          read_v = read_m ∙ took o (λ (q : Reads). q.v) most_value ws₃ (behind_v o n g m) r f a₄ h₄ v k₄ ws₄ l₄

          spaced : a₅ ≡ space_of (within 1 50 o) (first_of most_name ws₄)
          spaced = h₅ ∙ ap (λ (b : Bool). space_of b (first_of most_name ws₄)) p

          pub stop_at_s : a₅ ≡ None → refused ≡ in_order o ws
          stop_at_s z = sym (read_v ∙ takes_no_space (within 1 50 o) ws₄ a₅ (λ (t : Space) (vs : List Text). complete (call_of o n g m v t) vs) spaced z)

          pub all_read : (s : Space) → a₅ ≡ Some s → (ws₅ : List Text) → ws₅ ≡ others ws₄ → (x : Reading) → x ≡ complete (call_of o n g m v s) ws₅ → x ≡ in_order o ws
          all_read s k₅ ws₅ l₅ x q =
              q
              ∙ ap (complete (call_of o n g m v s)) l₅
              ∙ sym (read_v ∙ takes_space (within 1 50 o) ws₄ s a₅ (λ (t : Space) (vs : List Text). complete (call_of o n g m v t) vs) spaced k₅)

-- an argument that is read in any case
asked : (most : ℕ) (ws : List Text) → first_of most ws ≡ field_of true most ws
unfolding field_of
asked most ws = refl

its_left : (ws : List Text) → others ws ≡ left_by true ws
unfolding left_by
its_left ws = refl

-- "52 s v"

abbrev behind_s : ℕ → Space → List Text → Reading
behind_s o s ws = take_number true most_value ws (λ (v : ℕ) (vs : List Text). complete (call_of o 0 0 0 v s) vs)

module _ (o : ℕ) (ws : List Text) (r : Option Space) (f : r ≡ space_of false (first_of most_name ws)) where
  pub stop_at_space : r ≡ None → refused ≡ space_then_value o ws
  unfolding space_then_value
  stop_at_space z = sym (takes_no_space false ws r (behind_s o) f z)

  module _ (s : Space) (k : r ≡ Some s) (ws₁ : List Text) (l : ws₁ ≡ others ws) (a : Argument) (h : a ≡ first_of most_value ws₁) where
    read_space : space_then_value o ws ≡ behind_s o s ws₁
    unfolding space_then_value
    read_space = takes_space false ws s r (behind_s o) f k ∙ ap (behind_s o s) (sym l)

    pub stop_at_value : NoNumber a → refused ≡ space_then_value o ws
    stop_at_value z = sym (read_space ∙ takes_none true most_value ws₁ a (λ (v : ℕ) (vs : List Text). complete (call_of o 0 0 0 v s) vs) (h ∙ asked most_value ws₁) z)

    pub both_read : (v : ℕ) → a ≡ Number v → (ws₂ : List Text) → ws₂ ≡ others ws₁ → (x : Reading) → x ≡ complete (call_of o 0 0 0 v s) ws₂ → x ≡ space_then_value o ws
    both_read v k₂ ws₂ l₂ x q =
        q
        ∙ ap (complete (call_of o 0 0 0 v s)) (l₂ ∙ its_left ws₁)
        ∙ sym (read_space ∙ takes_number true most_value ws₁ v a (λ (v : ℕ) (vs : List Text). complete (call_of o 0 0 0 v s) vs) (h ∙ asked most_value ws₁) k₂)

-- SUS

abbrev behind_sUS : ℕ → List Text → Reading
behind_sUS n ws = complete (call_of 57 n 0 0 0 Universe) ws

pub alone : (t : Text) → eqb (length t) 0 ≡ true → Ok (call_of 56 0 0 0 0 Universe) ≡ spaces (words_behind t)
unfolding spaces words_behind
alone [] e = refl
alone (b ∷ bs) e = absurd (omega (arith, eqb-true (length (b ∷ bs)) 0 e))

module _ (t : Text) (some : eqb (length t) 0 ≡ false) (a : Argument) (f : a ≡ first_of most_name (words_behind t)) where
  node_asked : spaces (words_behind t) ≡ take_number true most_name (words_behind t) behind_sUS
  unfolding words_behind spaces
  node_asked = go t some
    where
      go : (u : Text) → eqb (length u) 0 ≡ false → spaces (words_behind u) ≡ take_number true most_name (words_behind u) behind_sUS
      go [] e = absurd (cc)
      go (b ∷ bs) e = ap spaces (first_word bs) ∙ sym (ap (λ (ws : List Text). take_number true most_name ws behind_sUS) (first_word bs))

  pub node_given : (x : ℕ) → a ≡ Number x → (ws : List Text) → ws ≡ others (words_behind t) → (y : Reading) → y ≡ complete (call_of 57 x 0 0 0 Universe) ws → y ≡ spaces (words_behind t)
  node_given x k ws l y q =
      q
      ∙ ap (behind_sUS x) (l ∙ its_left (words_behind t))
      ∙ sym (node_asked ∙ takes_number true most_name (words_behind t) x a behind_sUS (f ∙ asked most_name (words_behind t)) k)

  pub no_node : NoNumber a → refused ≡ spaces (words_behind t)
  no_node z = sym (node_asked ∙ takes_none true most_name (words_behind t) a behind_sUS (f ∙ asked most_name (words_behind t)) z)

-- the whole line, by the number of its first word

module _ (line letters rest : Text) (end : ℕ) (r : Option ℕ) (e : end ≡ length (before blank line)) (p : letters ≡ take end line) (q : rest ≡ drop end line) (k : r ≡ operator_number letters) where
  whole : read_line line ≡ with_number r (λ (o : ℕ). arguments o (words_behind rest))
  unfolding read_line read_words
  whole =
      ap read_words (first_word line)
      ∙ ap (λ (w : Text). with_number (operator_number w) (λ (o : ℕ). arguments o (words_behind (drop (length (before blank line)) line)))) (sym (p ∙ ap (λ (n : ℕ). take n line) e ∙ before_take blank line))
      ∙ ap (λ (t : Text). with_number (operator_number letters) (λ (o : ℕ). arguments o (words_behind t))) (sym (q ∙ ap (λ (n : ℕ). drop n line) e))
      ∙ ap (λ (x : Option ℕ). with_number x (λ (o : ℕ). arguments o (words_behind rest))) (sym k)

  pub no_operator_read : r ≡ None → refused ≡ read_line line
  unfolding with_number
  no_operator_read z = sym (whole ∙ ap (λ (x : Option ℕ). with_number x (λ (o : ℕ). arguments o (words_behind rest))) z)

  read_as : (o : ℕ) → r ≡ Some o → read_line line ≡ arguments o (words_behind rest)
  unfolding with_number
  read_as o z = whole ∙ ap (λ (x : Option ℕ). with_number x (λ (o : ℕ). arguments o (words_behind rest))) z

  pub bus_read : r ≡ Some 52 → (x : Reading) → x ≡ space_then_value 52 (words_behind rest) → x ≡ read_line line
  unfolding arguments
  bus_read z x g = g ∙ sym (read_as 52 z)

  pub sus_read : r ≡ Some 56 → (x : Reading) → x ≡ spaces (words_behind rest) → x ≡ read_line line
  unfolding arguments
  sus_read z x g = g ∙ sym (read_as 56 z)

  pub other_read : (o : ℕ) → r ≡ Some o → (o ≡ 52 → ⊥) → (o ≡ 56 → ⊥) → (x : Reading) → x ≡ in_order o (words_behind rest) → x ≡ read_line line
  unfolding arguments
  other_read o z b s x g =
      let p = ne_eqb o 52 b in
      let q = ne_eqb o 56 s in
      let h : arguments o (words_behind rest) ≡ in_order o (words_behind rest) = rw (p, q) in
      g ∙ sym (read_as o z ∙ h)
