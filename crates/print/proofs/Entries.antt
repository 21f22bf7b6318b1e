-- The entries of a list put one after the other.
use mathlib.Core.List.{List, [], ◌∷◌, ◌++◌, map, append_assoc, append-nil}
use mathlib.Core.Path.{◌≡◌, refl, sym, ap, ◌∙◌}
use Prim.Native.Nat.{ℕ, ◌+◌, ◌≤◌, ◌<◌}
use native.Mathlib.Numerals.{add-one}
use native.Mathlib.Omega.{arith}
use lib.ListN.{length, take, drop, get_or, length-append, take-append-drop}
use lib.Seq.{take-suc, take_all}
use Rattle.model.specs.OneCall.{unpack}
use Rattle.text.specs.Bytes.{Text}
use Rattle.print.specs.declared.line.Line.{Line}
use Rattle.print.specs.Answers.{entry_text, entries_text, Room, Adds}
use Rattle.print.proofs.Puts.{adds_none, adds_then, adds_same, room_after}

-- the text of the first entries
abbrev pub first_entries : List ℕ → ℕ → Text
first_entries list i = entries_text (map unpack (take i list))

entries_append : (ws vs : List ℕ) → entries_text (map unpack (ws ++ vs)) ≡ entries_text (map unpack ws) ++ entries_text (map unpack vs)
unfolding entries_text
entries_append [] vs = refl
entries_append (w ∷ ws) vs = ap (λ (bs : Text). entry_text (unpack w) ++ bs) (entries_append ws vs) ∙ sym (append_assoc (entry_text (unpack w)) (entries_text (map unpack ws)) (entries_text (map unpack vs)))

entries_one : (w : ℕ) → entries_text (map unpack (w ∷ [])) ≡ entry_text (unpack w)
unfolding entries_text
entries_one w = append-nil (entry_text (unpack w))

-- one entry more
entries_more : (list : List ℕ) (i : ℕ) → i < length list → first_entries list (i + 1) ≡ first_entries list i ++ entry_text (unpack (get_or list i 0))
entries_more list i h =
    ap (λ (ws : List ℕ). entries_text (map unpack ws)) (ap (λ (n : ℕ). take n list) (add-one i) ∙ take-suc list i 0 h)
    ∙ entries_append (take i list) (get_or list i 0 ∷ [])
    ∙ ap (λ (bs : Text). first_entries list i ++ bs) (entries_one (get_or list i 0))

-- the first entries are no longer than all
first_within : (list : List ℕ) (i : ℕ) → length (first_entries list i) ≤ length (entries_text (map unpack list))
first_within list i =
    let all : entries_text (map unpack list) ≡ first_entries list i ++ entries_text (map unpack (drop i list)) =
    ap (λ (ws : List ℕ). entries_text (map unpack ws)) (sym (take-append-drop i list)) ∙ entries_append (take i list) (drop i list) in
    omega (arith, ap length all, length-append (first_entries list i) (entries_text (map unpack (drop i list))))

pub no_entries : (list : List ℕ) (l : Line) → Adds (first_entries list 0) l l
unfolding entries_text
no_entries list l = adds_none l

-- the first i entries are put
module _ (list : List ℕ) (i : ℕ) {l l' : Line} (fits : Room (entries_text (map unpack list)) l) (p : Adds (first_entries list i) l l') where
  pub entry_room : i < length list → Room (entry_text (unpack (get_or list i 0))) l'
  entry_room h =
      let more : length (first_entries list (i + 1)) ≡ length (first_entries list i) + length (entry_text (unpack (get_or list i 0))) =
      ap length (entries_more list i h) ∙ length-append (first_entries list i) (entry_text (unpack (get_or list i 0))) in
      room_after (length (entry_text (unpack (get_or list i 0)))) p (omega (arith, first_within list (i + 1)))

  pub one_more_entry : {l'' : Line} → i < length list → Adds (entry_text (unpack (get_or list i 0))) l' l'' → Adds (first_entries list (i + 1)) l l''
  one_more_entry h q = adds_same (sym (entries_more list i h)) (adds_then (omega (arith, first_within list i)) p q)

  pub all_entries : length list ≤ i → Adds (entries_text (map unpack list)) l l'
  all_entries h = adds_same (ap (λ (ws : List ℕ). entries_text (map unpack ws)) (take_all i list h)) p
