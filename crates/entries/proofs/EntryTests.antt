-- The entry that a key gives, one answer at a time.
use mathlib.Core.Bool.{Bool, true, false, cond, not, ◌&&◌, ◌||◌}
use mathlib.Core.List.{List, [], ◌∷◌}
use mathlib.Core.Logic.{◌⊎◌, inl, inr}
use mathlib.Core.Path.{◌≡◌, refl, sym, ap, ap₂, ◌∙◌}
use Prim.Native.Nat.{ℕ}
use lib.Dec.{eqb}
use borrow.Author.Tests.{eq-eqb, ne_eqb}
use Rattle.model.specs.declared.Direction.{Direction}
use Rattle.model.specs.declared.Direction.TheVariants.{Outpointing, Inpointing, Adjacent}
use Rattle.model.specs.declared.Key.{Key}
use Rattle.model.specs.declared.Pair.{Pair}
use Rattle.model.specs.Keys.{is_edge}
use Rattle.model.specs.Pairs.{pair, only_if, out_pair, in_pair}
use Rattle.model.proofs.Bools.{not_yes, not_no, and_never, or_no_left, or_no_right}
use Rattle.taken.specs.Selections.{passes}
use Rattle.entries.specs.declared.Part.{Part}
use Rattle.entries.specs.declared.Part.TheVariants.{Both, Edge, Node}
use Rattle.entries.specs.declared.PairQuery.{PairQuery}
use Rattle.entries.specs.declared.Query.TheVariants.{Pairs}
use Rattle.entries.specs.Cursors.{MaybeEntry, list_of}
use Rattle.entries.specs.Queries.{part_of, chosen, end_pair, first_pairs, first_at, ends_at}

-- ---- a pair that is asked for or not

module _ (q : PairQuery) (edge node : ℕ) (t : Bool) (e : t ≡ passes q.g q.m (pair edge node)) where
  module _ (n : not t ≡ false) where
    one_part : (part : Part) → q.part ≡ part → part_of part (pair edge node) ∷ [] ≡ chosen q (pair edge node ∷ [])
    unfolding chosen
    one_part part f =
        ap (λ (x : Part). part_of x (pair edge node) ∷ []) (sym f)
        ∙ ap (λ (u : Bool). cond u (part_of q.part (pair edge node) ∷ []) []) (sym (not_no t n) ∙ e)

    pub chosen_both : q.part ≡ Both → pair edge node ∷ [] ≡ chosen q (pair edge node ∷ [])
    unfolding part_of
    chosen_both f = one_part Both f

    pub chosen_edge : q.part ≡ Edge → pair edge 0 ∷ [] ≡ chosen q (pair edge node ∷ [])
    unfolding part_of
    chosen_edge f = one_part Edge f

    pub chosen_node : q.part ≡ Node → pair 0 node ∷ [] ≡ chosen q (pair edge node ∷ [])
    unfolding part_of
    chosen_node f = one_part Node f

-- ---- the pair that a key gives

only_no : (b : Bool) (p : Pair) → b ≡ false → only_if b p ≡ []
only_no b p e = ap (λ (t : Bool). only_if t p) e

only_yes : (b : Bool) (p : Pair) → b ≡ true → only_if b p ≡ p ∷ []
only_yes b p e = ap (λ (t : Bool). only_if t p) e

module _ (q : PairQuery) (edge first second : ℕ) where
  pub end_none : edge ≡ 0 → [] ≡ chosen q (end_pair q.n edge first second)
  unfolding end_pair chosen
  end_none e =
      sym (ap (λ (ps : List Pair). chosen q ps)
      (only_no (not (eqb edge 0) && eqb first q.n) (pair edge second) (ap (λ (t : Bool). not t && eqb first q.n) (eq-eqb edge 0 e))))

  module _ (g : edge ≡ 0 → ⊥) where
    pub end_other : (first ≡ q.n → ⊥) → [] ≡ chosen q (end_pair q.n edge first second)
    unfolding end_pair chosen
    end_other d =
        sym (ap (λ (ps : List Pair). chosen q ps)
        (only_no (not (eqb edge 0) && eqb first q.n) (pair edge second) (ap₂ (λ (t u : Bool). not t && u) (ne_eqb edge 0 g) (ne_eqb first q.n d))))

    pub end_given : first ≡ q.n → (r : MaybeEntry) → list_of r ≡ chosen q (pair edge second ∷ []) → list_of r ≡ chosen q (end_pair q.n edge first second)
    unfolding end_pair
    end_given e r er =
        er
        ∙ sym (ap (λ (ps : List Pair). chosen q ps)
        (only_yes (not (eqb edge 0) && eqb first q.n) (pair edge second) (ap₂ (λ (t u : Bool). not t && u) (ne_eqb edge 0 g) (eq-eqb first q.n e))))

-- ---- the directions

module _ (q : PairQuery) (k : Key) where
  elsewhere : (ps : List Pair) → (k.s ≡ q.s → ⊥) → [] ≡ cond (eqb k.s q.s) (chosen q ps) []
  elsewhere ps d = sym (ap (λ (t : Bool). cond t (chosen q ps) []) (ne_eqb k.s q.s d))

  here : (ps rs : List Pair) → k.s ≡ q.s → rs ≡ ps → (r : List Pair) → r ≡ chosen q ps → r ≡ cond (eqb k.s q.s) (chosen q rs) []
  here ps rs e same r er =
      er
      ∙ ap (λ (xs : List Pair). chosen q xs) (sym same)
      ∙ sym (ap (λ (t : Bool). cond t (chosen q rs) []) (eq-eqb k.s q.s e))

  module _ (e : k.s ≡ q.s) (r : MaybeEntry) where
    by_direction : (d : Direction) → q.d ≡ d → list_of r ≡ chosen q (first_pairs d q.n k) → list_of r ≡ first_at (Pairs q) k
    unfolding first_at
    by_direction d ed er = here (first_pairs d q.n k) (first_pairs q.d q.n k) e (ap (λ (x : Direction). first_pairs x q.n k) ed) (list_of r) er

    pub first_out : (q.d ≡ Outpointing) ⊎ (q.d ≡ Adjacent) → list_of r ≡ chosen q (end_pair q.n k.g k.n k.m) → list_of r ≡ first_at (Pairs q) k
    unfolding first_pairs out_pair end_pair
    first_out (inl d) er = by_direction Outpointing d er
    first_out (inr d) er = by_direction Adjacent d er

    pub first_in : q.d ≡ Inpointing → list_of r ≡ chosen q (end_pair q.n k.g k.m k.n) → list_of r ≡ first_at (Pairs q) k
    unfolding first_pairs in_pair end_pair
    first_in d er = by_direction Inpointing d er

-- ---- an edge that the node is no end of gives no pair

module _ (q : PairQuery) (k : Key) (t : Bool) (et : t ≡ ends_at q.n k) (no' : not t ≡ true) where
  neither : (eqb k.n q.n || eqb k.m q.n) ≡ false
  unfolding ends_at
  neither = sym et ∙ not_yes t no'

  pub apart_first : [] ≡ first_at (Pairs q) k
  unfolding first_at first_pairs out_pair in_pair chosen
  apart_first = sym (go q.d (eqb k.s q.s))
    where
      out : chosen q (only_if (is_edge k && eqb k.n q.n) (pair k.g k.m)) ≡ []
      out =
          ap (λ (u : Bool). chosen q (only_if u (pair k.g k.m)))
          (and_never (is_edge k) (eqb k.n q.n) (or_no_left (eqb k.n q.n) (eqb k.m q.n) neither))

      into : chosen q (only_if (is_edge k && eqb k.m q.n) (pair k.g k.n)) ≡ []
      into =
          ap (λ (u : Bool). chosen q (only_if u (pair k.g k.n)))
          (and_never (is_edge k) (eqb k.m q.n) (or_no_right (eqb k.n q.n) (eqb k.m q.n) neither))

      go : (d : Direction) (u : Bool) → cond u (chosen q (first_pairs d q.n k)) [] ≡ []
      go d false = refl
      go Outpointing true = out
      go Inpointing true = into
      go Adjacent true = out
