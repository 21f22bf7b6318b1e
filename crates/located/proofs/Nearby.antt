-- Where what a call names is to be sought (specs/Located.antt): each place is a hint.
use mathlib.Core.Bool.{Bool, true, false, cond, not, false≢true}
use mathlib.Core.List.{List}
use mathlib.Core.Path.{◌≡◌, refl, sym, ap, ap₂, ◌∙◌, subst}
use Prim.Native.Nat.{ℕ}
use lib.Dec.{eqb, leb}
use Rattle.model.specs.declared.Decoded.{Decoded}
use Rattle.model.specs.declared.Fields.{Fields}
use Rattle.model.specs.declared.Key.{Key}
use Rattle.model.specs.declared.Reads.{Reads}
use Rattle.model.specs.Keys.{node_key}
use Rattle.model.specs.Tuples.{present}
use Rattle.layouts.specs.Buffer.{key_at, used_of, tuples_of}
use Rattle.model.proofs.Bools.{clash}
use Rattle.chain.specs.Links.{Linked, Hint, place_in}
use Rattle.chain.proofs.Hints.{no_hint, place_hint}
use Rattle.located.specs.declared.Near.{Near}
use Rattle.located.specs.Located.{NearIn, before_key, near, near_nodes, near_universe, also_in, farther_of, sought_in, located_space, located_node, located_nodes, located_in, Told}
use Rattle.located.specs.declared.Sought.{Sought}
use Rattle.located.specs.declared.Located.{Located}

module _ (b : List ℕ) (L : Linked b) where
  pub before_hint : (i : ℕ) (k : Key) → i ≡ before_key b k → Hint b i
  before_hint i k e = subst (Hint b) (sym e) (place_hint b k (place_in (key_at b) k 0 (used_of b)) L refl)

  pub nowhere_near : NearIn b (near 0 0 0)
  nowhere_near = record { space = no_hint b; node = no_hint b; second = no_hint b }

  nodes_near : (space s n m : ℕ) → Hint b space → NearIn b (near_nodes b space s n m)
  nodes_near space s n m H = record { space = H; node = before_hint _ (node_key s n) refl; second = before_hint _ (node_key s m) refl }

  pub universe_near : (u : Near) (d : Decoded) → u ≡ near_universe b d → NearIn b u
  unfolding near_universe
  universe_near u d e =
      subst (NearIn b) (sym e) (go (eqb d.fields.s 0) d.row.both)
    where
      go : (z a : Bool) → NearIn b (cond z (near 0 0 0) (cond a (near_nodes b 0 0 d.fields.n d.fields.m) (near 0 0 0)))
      go true a = nowhere_near
      go false true = nodes_near 0 0 d.fields.n d.fields.m (no_hint b)
      go false false = nowhere_near

  pub sought_hint : (x : Sought) (k : Key) → x ≡ sought_in b k → Hint b x.before
  unfolding sought_in
  sought_hint x k e = before_hint _ k (ap (λ (y : Sought). y.before) e)

  pub farther_hint : (u : Near) (f : Fields) (h : ℕ) → NearIn b u → h ≡ farther_of u f → Hint b h
  unfolding farther_of
  farther_hint u f h N e = subst (Hint b) (sym e) (go (leb f.n f.m))
    where
      go : (t : Bool) → Hint b (cond t u.second u.node)
      go true = N.second
      go false = N.node

  pub also_near : (here u v : Near) (s : ℕ) → NearIn b here → NearIn b u → v ≡ also_in here u s → NearIn b v
  unfolding also_in
  also_near here u v s N M e = subst (NearIn b) (sym e) (go (eqb s 0))
    where
      go : (z : Bool) → NearIn b (cond z here u)
      go true = N
      go false = M

-- ---- what each function answers

pub nodes_located : (b : List ℕ) (space s n m : ℕ) (x y : Sought) (l : Located) → x ≡ sought_in b (node_key s n) → y ≡ sought_in b (node_key s m)
    → l ≡ located_nodes space x y → l ≡ located_nodes space (sought_in b (node_key s n)) (sought_in b (node_key s m))
nodes_located b space s n m x y l X Y L = L ∙ ap₂ (located_nodes space) X Y

-- ---- what is located is so

module _ (b : List ℕ) (L : Linked b) (d : Decoded) where
  abbrev reads : Reads
  reads = d.row.reads

  abbrev fields : Fields
  fields = d.fields

  abbrev space_before : ℕ
  space_before = before_key b (node_key fields.s 0)

  node_hint : (n : ℕ) → Hint b (before_key b (node_key fields.s n))
  node_hint n = before_hint b L _ (node_key fields.s n) refl

  parts : (s t m n : Bool) → reads.s ≡ s → present (node_key fields.s 0) (tuples_of b) ≡ t → reads.m ≡ m → reads.n ≡ n
      → Told b d
      (cond (not s) (located_space 0 false)
      (cond (not t) (located_space space_before false)
      (cond m (located_nodes space_before (sought_in b (node_key fields.s fields.n)) (sought_in b (node_key fields.s fields.m)))
      (cond n (located_node space_before (sought_in b (node_key fields.s fields.n))) (located_space space_before true)))))
  unfolding sought_in
  parts false t m n S T M N =
      record {
        near = nowhere_near b L;
        space = λ h. absurd (clash h S);
        node = λ h y. absurd (false≢true y);
        second = λ h y. absurd (false≢true y);
      }
  parts true false m n S T M N =
      record {
        near = record { space = node_hint 0; node = no_hint b; second = no_hint b };
        space = λ h. sym T;
        node = λ h y. absurd (false≢true y);
        second = λ h y. absurd (false≢true y);
      }
  parts true true true n S T M N =
      record {
        near = record { space = node_hint 0; node = node_hint fields.n; second = node_hint fields.m };
        space = λ h. sym T;
        node = λ h y. refl;
        second = λ h y. refl;
      }
  parts true true false true S T M N =
      record {
        near = record { space = node_hint 0; node = node_hint fields.n; second = no_hint b };
        space = λ h. sym T;
        node = λ h y. refl;
        second = λ h y. absurd (clash h M);
      }
  parts true true false false S T M N =
      record {
        near = record { space = node_hint 0; node = no_hint b; second = no_hint b };
        space = λ h. sym T;
        node = λ h y. absurd (clash h N);
        second = λ h y. absurd (clash h M);
      }

  pub located_told : (l : Located) → l ≡ located_in b d → Told b d l
  unfolding located_in sought_in
  located_told l e =
      subst (Told b d) (sym e) (parts reads.s (present (node_key fields.s 0) (tuples_of b)) reads.m reads.n refl refl refl refl)
