-- Conditions 5 to 8 by what is told of a call (specs/Located.antt of located).
use mathlib.Core.Bool.{Bool, true, false, not, ◌&&◌, ◌||◌, or-false}
use mathlib.Core.List.{List}
use mathlib.Core.Path.{◌≡◌, refl, sym, ap, ◌∙◌}
use Prim.Native.Nat.{ℕ}
use lib.Dec.{leb}
use borrow.Author.Tests.{leb-true}
use Rattle.model.specs.declared.Call.{Call}
use Rattle.model.specs.declared.Decoded.{Decoded}
use Rattle.model.specs.Keys.{space_key, node_key}
use Rattle.model.specs.Numbers.{every_up_to}
use Rattle.model.specs.Operators.{within, reads_of, asks_of}
use Rattle.model.specs.Tuples.{Tuples, present, any_present}
use Rattle.model.specs.Steps.{decoded}
use Rattle.model.specs.Refusals.{no_operator, space_absent, node_absent, second_absent, worked_on, edge_absent}
use Rattle.layouts.specs.Buffer.{tuples_of}
use Rattle.model.proofs.Bools.{or_left, or_right, and_left, and_right, and_no, not_no, not_yes}
use Rattle.model.proofs.Numbers.{every_up_to_lem}
use Rattle.located.specs.declared.Located.{Located}
use Rattle.located.specs.Located.{Told}
use Rattle.refusals.specs.Checks.{Unstopped}

-- ---- what an operator works on, once it is known which it is

-- ---- what one row asks for goes with what it reads

-- an operator that asks for n in s, or reads m, asks for its space; one that asks for n in s reads n; one that asks for n in UNIVERSE does not ask for it in s
abbrev asks_together : ℕ → Bool
asks_together o = not ((asks_of o).node || (reads_of o).m) || (asks_of o).space

abbrev reads_node : ℕ → Bool
reads_node o = not (asks_of o).node || (reads_of o).n

all_ask : every_up_to asks_together 57 ≡ true
unfolding every_up_to reads_of
all_ask = refl

all_read : every_up_to reads_node 57 ≡ true
unfolding every_up_to reads_of
all_read = refl

-- a test that passes at every number passes at that of a call that condition 2 does not stop
known_passes : (p : ℕ → Bool) (c : Call) → every_up_to p 57 ≡ true → no_operator c ≡ false → p c.operator ≡ true
unfolding no_operator
known_passes p c e valid =
    let o : ℕ = c.operator in
    let w = not_no (within 1 57 o) valid in
    every_up_to_lem p 57 e o (leb-true 1 o (and_left (leb 1 o) (leb o 57) w)) (leb-true o 57 (and_right (leb 1 o) (leb o 57) w))

module _ (d : Decoded) (U : Unstopped d) where
  abbrev o : ℕ
  o = U.call.operator

  asks_of_lem : (f : Decoded → Bool) (t : Bool) → f d ≡ t → f (decoded U.call) ≡ t
  asks_of_lem f t e = sym (ap f U.same) ∙ e

  of_asks : (f : Decoded → Bool) (t : Bool) → f (decoded U.call) ≡ t → f d ≡ t
  of_asks f t e = ap f U.same ∙ e

  space_is_read : d.row.asks.space ≡ true → d.row.reads.s ≡ true
  space_is_read e = of_asks (λ x. x.row.reads.s) true (and_left (reads_of o).s _ (asks_of_lem (λ x. x.row.asks.space) true e))

  node_is_read : d.row.asks.node ≡ true → d.row.reads.n ≡ true
  node_is_read e =
      of_asks (λ x. x.row.reads.n) true
      (sym (ap (λ (x : Bool). not x || (reads_of o).n) (asks_of_lem (λ x. x.row.asks.node) true e)) ∙ known_passes reads_node U.call all_read U.known)

  space_is_asked : (d.row.asks.node || d.row.reads.m) ≡ true → d.row.asks.space ≡ true
  space_is_asked e =
      of_asks (λ x. x.row.asks.space) true
      (sym (ap (λ (x : Bool). not x || (asks_of o).space) (asks_of_lem (λ x. x.row.asks.node || x.row.reads.m) true e))
      ∙ known_passes asks_together U.call all_ask U.known)

module _ (b : List ℕ) (d : Decoded) where
  abbrev ts : Tuples
  ts = tuples_of b

  abbrev space_there : Bool
  space_there = present (space_key d.fields.s) ts

  abbrev node_there : Bool
  node_there = present (node_key d.fields.s d.fields.n) ts

  abbrev node_in_universe : Bool
  node_in_universe = present (node_key 0 d.fields.n) ts

  abbrev second_there : Bool
  second_there = present (node_key d.fields.s d.fields.m) ts

  -- ---- 8

  pub edge_unasked : not d.row.asks.edge ≡ true → false ≡ edge_absent d ts
  unfolding edge_absent
  edge_unasked e = sym (ap (λ (t : Bool). t && not (any_present (worked_on d.operator d.fields) ts)) (not_yes d.row.asks.edge e))

  module _ (l : Located) (T : Told b d l) (U : Unstopped d) where
    -- ---- 5

    pub space_asked : not d.row.asks.space ≡ false → not l.space ≡ space_absent d ts
    unfolding space_absent
    space_asked e =
        let h = not_no d.row.asks.space e in
        ap not (T.space (space_is_read d U h)) ∙ sym (ap (λ (t : Bool). t && not space_there) h)

    -- ---- 6 and 7, where condition 5 does not apply

    module _ (passed : space_absent d ts ≡ false) where
      space_there_lem : (d.row.asks.node || d.row.reads.m) ≡ true → l.space ≡ true
      unfolding space_absent
      space_there_lem h =
          let s = space_is_asked d U h in
          T.space (space_is_read d U s) ∙ not_no space_there (and_no d.row.asks.space _ passed s)

      pub node_asked : d.row.asks.universe ≡ false → not d.row.asks.node ≡ false → not l.node ≡ node_absent d ts
      unfolding node_absent
      node_asked u n =
          let h = not_no d.row.asks.node n in
          ap not (T.node (node_is_read d U h) (space_there_lem (or_left d.row.asks.node _ h)))
          ∙ sym (or-false (not node_there))
          ∙ (λ i. ((sym h i) && not node_there) || ((sym u i) && not node_in_universe))

      pub second_unread : not d.row.reads.m ≡ true → false ≡ second_absent d ts
      unfolding second_absent
      second_unread e = sym (ap (λ (t : Bool). t && not second_there) (not_yes d.row.reads.m e))

      pub second_read : not d.row.reads.m ≡ false → not l.second ≡ second_absent d ts
      unfolding second_absent
      second_read e =
          let h = not_no d.row.reads.m e in
          ap not (T.second h (space_there_lem (or_right d.row.asks.node _ h))) ∙ sym (ap (λ (t : Bool). t && not second_there) h)
