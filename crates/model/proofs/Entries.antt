-- Each S list is strictly ascending and holds exactly the entries that document 01 says (specs/Entries.antt): sound and complete.
use mathlib.Core.Bool.{Bool, true, false, cond, not, ◌&&◌, ◌||◌, false≢true, or-false, or_assoc}
use mathlib.Core.List.{List, [], ◌∷◌, ◌++◌, map}
use mathlib.Core.Logic.{◌⊎◌, inl, inr, ⊎_elim, ◌≢◌, ◌↔◌}
use mathlib.Core.Path.{◌≡◌, refl, sym, ap, ◌∙◌, subst}
use Prim.Native.Nat.{ℕ}
use lib.Dec.{eqb, compare_is_eq}
use borrow.Author.Tests.{eqb-true, eqb-false, eq-eqb, ne_eqb}
use Rattle.model.specs.declared.Fields.{Fields}
use Rattle.model.specs.declared.Pair.{Pair}
use Rattle.model.specs.Ordered.{holds, Ascending}
use Rattle.model.specs.declared.Key.{Key}
use Rattle.model.specs.Keys.{space_key, node_key, edge_key, is_node, is_edge, same_key}
use Rattle.model.specs.Tuples.{Tuples, present}
use Rattle.model.specs.declared.Direction.{Direction}
use Rattle.model.specs.declared.Direction.TheVariants.{Outpointing, Inpointing, Adjacent}
use Rattle.model.specs.declared.Listing.{Listing}
use Rattle.model.specs.Pairs.{pair, edge_of, node_of, compare_pairs, itself, member, ascending, gather, only_if, out_pair, in_pair, pairs_at, pairs_of, edge_names, node_names, only, with_edge, with_node, nodes_in, spaces_in, spaces_with}
use Rattle.model.specs.Steps.{listed}
use Rattle.model.specs.Rules.{Has, TupleRules}
use Rattle.model.specs.Entries.{PointsOut, PointsIn, IsPair, Entry}
use Rattle.model.proofs.Bools.{or_cases, or_left, or_right, and_left, and_right, and_both, not_yes, no_not}
use Rattle.model.proofs.Order.{pairs}
use Rattle.model.proofs.Ordered.{at_element, self, holds_put, put_ascending}
use Rattle.model.proofs.Tuples.{same_key_lem, own_key}

abbrev pub Member : Pair → List Pair → Type 0
Member q ps = member q ps ≡ true

abbrev pub same_pair : Pair → Pair → Bool
same_pair p q = compare_is_eq (compare_pairs p q)

pub same_pair_lem : (p q : Pair) → same_pair p q ≡ true → p ≡ q
same_pair_lem p q e = at_element itself compare_pairs pairs p q e

pub own_pair : (p : Pair) → same_pair p p ≡ true
own_pair p = self itself compare_pairs pairs p

-- ---- how lists are made

pub ascending_ascends : (ps : List Pair) → Ascending itself compare_pairs (ascending ps)
unfolding ascending
ascending_ascends [] = tt
ascending_ascends (p ∷ ps) = put_ascending itself compare_pairs pairs p (ascending ps) (ascending_ascends ps)

pub member_ascending : (q : Pair) (ps : List Pair) → member q (ascending ps) ≡ member q ps
unfolding ascending holds
member_ascending q [] = refl
member_ascending q (p ∷ ps) =
    holds_put itself compare_pairs pairs q p (ascending ps) ∙ ap (λ (b : Bool). same_pair q p || b) (member_ascending q ps)

pub member_append : (q : Pair) (ps rs : List Pair) → member q (ps ++ rs) ≡ (member q ps || member q rs)
unfolding holds
member_append q [] rs = refl
member_append q (p ∷ ps) rs =
    ap (λ (b : Bool). same_pair q p || b) (member_append q ps rs) ∙ sym (or_assoc (same_pair q p) (member q ps) (member q rs))

-- what is gathered comes from a key that is present ..
pub gather_sound : (f : Key → List Pair) (ts : Tuples) (q : Pair) → Member q (gather f ts) → (k : Key) × Has k ts × Member q (f k)
unfolding gather holds
gather_sound f [] q e = absurd (false≢true e)
gather_sound f (t ∷ ts) q e =
    ⊎_elim (λ h. (t.key, or_left (same_key t.key t.key) (present t.key ts) (own_key t.key), h))
    (λ h. let r = gather_sound f ts q h in (r.0, or_right (same_key r.0 t.key) (present r.0 ts) r.1, r.2))
    (or_cases (member q (f t.key)) (member q (gather f ts)) (sym (member_append q (f t.key) (gather f ts)) ∙ e))

-- .. and nothing is left out
pub gather_complete : (f : Key → List Pair) (ts : Tuples) (q : Pair) (k : Key) → Has k ts → Member q (f k) → Member q (gather f ts)
unfolding gather holds
gather_complete f [] q k h e = absurd (false≢true h)
gather_complete f (t ∷ ts) q k h e =
    member_append q (f t.key) (gather f ts)
    ∙ ⊎_elim
    (λ same. or_left (member q (f t.key)) (member q (gather f ts)) (subst (λ (j : Key). Member q (f j)) (same_key_lem k t.key same) e))
    (λ there. or_right (member q (f t.key)) (member q (gather f ts)) (gather_complete f ts q k there e))
    (or_cases (same_key k t.key) (present k ts) h)

pub map_sound : (f : Pair → Pair) (ps : List Pair) (q : Pair) → Member q (map f ps) → (p : Pair) × Member p ps × (q ≡ f p)
unfolding holds
map_sound f [] q e = absurd (false≢true e)
map_sound f (p ∷ ps) q e =
    ⊎_elim (λ h. (p, or_left (same_pair p p) (member p ps) (own_pair p), same_pair_lem q (f p) h))
    (λ h. let r = map_sound f ps q h in (r.0, or_right (same_pair r.0 p) (member r.0 ps) r.1, r.2))
    (or_cases (same_pair q (f p)) (member q (map f ps)) e)

pub map_complete : (f : Pair → Pair) (ps : List Pair) (p : Pair) → Member p ps → Member (f p) (map f ps)
unfolding holds
map_complete f [] p e = absurd (false≢true e)
map_complete f (r ∷ ps) p e =
    ⊎_elim
    (λ h.
    or_left (same_pair (f p) (f r)) (member (f p) (map f ps))
    (subst (λ (x : Pair). same_pair (f p) (f x) ≡ true) (same_pair_lem p r h) (own_pair (f p))))
    (λ h. or_right (same_pair (f p) (f r)) (member (f p) (map f ps)) (map_complete f ps p h))
    (or_cases (same_pair p r) (member p ps) e)

pub only_sound : (p : Pair → Bool) (ps : List Pair) (q : Pair) → Member q (only p ps) → Member q ps × (p q ≡ true)
unfolding only holds
only_sound p [] q e = absurd (false≢true e)
only_sound p (r ∷ ps) q e = go (p r) refl (only_sound p ps q) e
  where
    go : (b : Bool) → p r ≡ b → (Member q (only p ps) → Member q ps × (p q ≡ true)) → Member q (cond b (r ∷ only p ps) (only p ps))
        → Member q (r ∷ ps) × (p q ≡ true)
    go true f ih h =
        ⊎_elim (λ same. (or_left (same_pair q r) (member q ps) same, ap p (same_pair_lem q r same) ∙ f))
        (λ there. let s = ih there in (or_right (same_pair q r) (member q ps) s.0, s.1))
        (or_cases (same_pair q r) (member q (only p ps)) h)
    go false f ih h = let s = ih h in (or_right (same_pair q r) (member q ps) s.0, s.1)

pub only_complete : (p : Pair → Bool) (ps : List Pair) (q : Pair) → Member q ps → p q ≡ true → Member q (only p ps)
unfolding only holds
only_complete p [] q e h = absurd (false≢true e)
only_complete p (r ∷ ps) q e h = go (p r) refl (λ f. only_complete p ps q f h) (or_cases (same_pair q r) (member q ps) e)
  where
    go : (b : Bool) → p r ≡ b → (Member q ps → Member q (only p ps)) → (same_pair q r ≡ true) ⊎ Member q ps
        → Member q (cond b (r ∷ only p ps) (only p ps))
    go true f rest (inl same) = or_left (same_pair q r) (member q (only p ps)) same
    go true f rest (inr there) = or_right (same_pair q r) (member q (only p ps)) (rest there)
    go false f rest (inl same) = absurd (false≢true (sym f ∙ ap p (sym (same_pair_lem q r same)) ∙ h))
    go false f rest (inr there) = rest there

only_if_sound : (b : Bool) (p q : Pair) → Member q (only_if b p) → (b ≡ true) × (q ≡ p)
unfolding holds
only_if_sound true p q e = (refl, same_pair_lem q p (sym (or-false (same_pair q p)) ∙ e))
only_if_sound false p q e = absurd (false≢true e)

only_if_complete : (b : Bool) (p : Pair) → b ≡ true → Member p (only_if b p)
unfolding holds
only_if_complete true p e = or-false (same_pair p p) ∙ own_pair p
only_if_complete false p e = absurd (false≢true e)

cond_sound : (b : Bool) (ps : List Pair) (q : Pair) → Member q (cond b ps []) → (b ≡ true) × Member q ps
unfolding holds
cond_sound true ps q e = (refl, e)
cond_sound false ps q e = absurd (false≢true e)

cond_complete : (b : Bool) (ps : List Pair) (q : Pair) → b ≡ true → Member q ps → Member q (cond b ps [])
cond_complete true ps q e h = h
cond_complete false ps q e h = absurd (false≢true e)

-- ---- pairs

nonzero_yes : (n : ℕ) → not (eqb n 0) ≡ true → n ≢ 0
nonzero_yes n e = eqb-false n 0 (not_yes (eqb n 0) e)

yes_nonzero : (n : ℕ) → n ≢ 0 → not (eqb n 0) ≡ true
yes_nonzero n h = no_not (eqb n 0) (ne_eqb n 0 h)

-- a key in space s from node n, or to node n
from_node_lem : (s n : ℕ) (k : Key) (ts : Tuples) → k.s ≡ s → k.n ≡ n → Has k ts → Has (edge_key s n k.g k.m) ts
from_node_lem s n k ts e f h = subst (λ (j : Key). Has j ts) (λ i. record { s = e i; n = f i; g = k.g; m = k.m }) h

to_node : (s n : ℕ) (k : Key) (ts : Tuples) → k.s ≡ s → k.m ≡ n → Has k ts → Has (edge_key s k.n k.g n) ts
to_node s n k ts e f h = subst (λ (j : Key). Has j ts) (λ i. record { s = e i; n = k.n; g = k.g; m = f i }) h

out_sound : (s n : ℕ) (ts : Tuples) (k : Key) (q : Pair) → Has k ts → k.s ≡ s → Member q (out_pair n k) → PointsOut s n ts q
unfolding out_pair
out_sound s n ts k q h e m =
    let r = only_if_sound (is_edge k && eqb k.n n) (pair k.g k.m) q m in
    subst (PointsOut s n ts) (sym r.1) (
      nonzero_yes k.g (and_left (is_edge k) (eqb k.n n) r.0),
      from_node_lem s n k ts e (eqb-true k.n n (and_right (is_edge k) (eqb k.n n) r.0)) h,
    )

in_sound : (s n : ℕ) (ts : Tuples) (k : Key) (q : Pair) → Has k ts → k.s ≡ s → Member q (in_pair n k) → PointsIn s n ts q
unfolding in_pair
in_sound s n ts k q h e m =
    let r = only_if_sound (is_edge k && eqb k.m n) (pair k.g k.n) q m in
    subst (PointsIn s n ts) (sym r.1) (
      nonzero_yes k.g (and_left (is_edge k) (eqb k.m n) r.0),
      to_node s n k ts e (eqb-true k.m n (and_right (is_edge k) (eqb k.m n) r.0)) h,
    )

at_sound : (d : Direction) (s n : ℕ) (ts : Tuples) (k : Key) (q : Pair) → Has k ts → k.s ≡ s → Member q (pairs_at d n k) → IsPair d s n ts q
unfolding pairs_at
at_sound Outpointing s n ts k q h e m = out_sound s n ts k q h e m
at_sound Inpointing s n ts k q h e m = in_sound s n ts k q h e m
at_sound Adjacent s n ts k q h e m =
    ⊎_elim (λ o. inl (out_sound s n ts k q h e o)) (λ o. inr (in_sound s n ts k q h e o))
    (or_cases (member q (out_pair n k)) (member q (in_pair n k)) (sym (member_append q (out_pair n k) (in_pair n k)) ∙ m))

pub pairs_sound : (d : Direction) (s n : ℕ) (ts : Tuples) (q : Pair) → Member q (pairs_of d s n ts) → IsPair d s n ts q
unfolding pairs_of
pairs_sound d s n ts q e =
    let f : Key → List Pair = λ k. cond (eqb k.s s) (pairs_at d n k) [] in
    let r = gather_sound f ts q (sym (member_ascending q (gather f ts)) ∙ e) in
    let i = cond_sound (eqb r.0.s s) (pairs_at d n r.0) q r.2 in
    at_sound d s n ts r.0 q r.1 (eqb-true r.0.s s i.0) i.1

-- a pair that is present is gathered from its edge
gathered : (d : Direction) (s n : ℕ) (ts : Tuples) (q : Pair) (k : Key) → Has k ts → k.s ≡ s → Member q (pairs_at d n k) → Member q (pairs_of d s n ts)
unfolding pairs_of
gathered d s n ts q k h e m =
    let f : Key → List Pair = λ k. cond (eqb k.s s) (pairs_at d n k) [] in
    member_ascending q (gather f ts) ∙ gather_complete f ts q k h (cond_complete (eqb k.s s) (pairs_at d n k) q (eq-eqb k.s s e) m)

out_at : (s n : ℕ) (q : Pair) → edge_of q ≢ 0 → Member q (out_pair n (edge_key s n (edge_of q) (node_of q)))
unfolding out_pair
out_at s n q h = only_if_complete _ q (and_both (not (eqb (edge_of q) 0)) (eqb n n) (yes_nonzero (edge_of q) h) (eq-eqb n n refl))

in_at : (s n : ℕ) (q : Pair) → edge_of q ≢ 0 → Member q (in_pair n (edge_key s (node_of q) (edge_of q) n))
unfolding in_pair
in_at s n q h = only_if_complete _ q (and_both (not (eqb (edge_of q) 0)) (eqb n n) (yes_nonzero (edge_of q) h) (eq-eqb n n refl))

pub pairs_complete : (d : Direction) (s n : ℕ) (ts : Tuples) (q : Pair) → IsPair d s n ts q → Member q (pairs_of d s n ts)
unfolding pairs_at
pairs_complete Outpointing s n ts q h = gathered Outpointing s n ts q (edge_key s n (edge_of q) (node_of q)) h.1 refl (out_at s n q h.0)
pairs_complete Inpointing s n ts q h = gathered Inpointing s n ts q (edge_key s (node_of q) (edge_of q) n) h.1 refl (in_at s n q h.0)
pairs_complete Adjacent s n ts q (inl h) =
    let k : Key = edge_key s n (edge_of q) (node_of q) in
    gathered Adjacent s n ts q k h.1 refl
    (member_append q (out_pair n k) (in_pair n k) ∙ or_left (member q (out_pair n k)) (member q (in_pair n k)) (out_at s n q h.0))
pairs_complete Adjacent s n ts q (inr h) =
    let k : Key = edge_key s (node_of q) (edge_of q) n in
    gathered Adjacent s n ts q k h.1 refl
    (member_append q (out_pair n k) (in_pair n k) ∙ or_right (member q (out_pair n k)) (member q (in_pair n k)) (in_at s n q h.0))

-- ---- names

edges_sound : (ps : List Pair) (q : Pair) → Member q (edge_names ps) → (p : Pair) × Member p ps × (q ≡ pair (edge_of p) 0)
unfolding edge_names
edges_sound ps q e = map_sound (λ p. pair (edge_of p) 0) ps q (sym (member_ascending q _) ∙ e)

edges_complete : (ps : List Pair) (p : Pair) → Member p ps → Member (pair (edge_of p) 0) (edge_names ps)
unfolding edge_names
edges_complete ps p e = member_ascending (pair (edge_of p) 0) _ ∙ map_complete (λ p. pair (edge_of p) 0) ps p e

pub nodes_sound : (ps : List Pair) (q : Pair) → Member q (node_names ps) → (p : Pair) × Member p ps × (q ≡ pair 0 (node_of p))
unfolding node_names
nodes_sound ps q e = map_sound (λ p. pair 0 (node_of p)) ps q (sym (member_ascending q _) ∙ e)

pub nodes_complete : (ps : List Pair) (p : Pair) → Member p ps → Member (pair 0 (node_of p)) (node_names ps)
unfolding node_names
nodes_complete ps p e = member_ascending (pair 0 (node_of p)) _ ∙ map_complete (λ p. pair 0 (node_of p)) ps p e

-- ---- nodes and spaces

-- a node tuple's key is (s,n,0,0), a space tuple's (s,0,0,0)
node_key_lem : (ts : Tuples) → TupleRules ts → (k : Key) → Has k ts → k.g ≡ 0 → k ≡ node_key k.s k.n
node_key_lem ts R k h e = λ i. record { s = k.s; n = k.n; g = e i; m = (R.shaped k h).ends.0 e i }

space_key_lem : (ts : Tuples) → TupleRules ts → (k : Key) → Has k ts → k.n ≡ 0 → k ≡ space_key k.s
space_key_lem ts R k h e = let z = (R.shaped k h).named e in λ i. record { s = k.s; n = e i; g = z.0 i; m = z.1 i }

module _ (ts : Tuples) (R : TupleRules ts) where
  nodes_in_sound : (s : ℕ) (q : Pair) → Member q (nodes_in s ts) → (n : ℕ) × (n ≢ 0) × Has (node_key s n) ts × (q ≡ pair 0 n)
  unfolding nodes_in
  nodes_in_sound s q e =
      let f : Key → List Pair = λ k. only_if (is_node k && eqb k.s s) (pair 0 k.n) in
      let r = gather_sound f ts q (sym (member_ascending q (gather f ts)) ∙ e) in
      let k : Key = r.0 in
      let i = only_if_sound (is_node k && eqb k.s s) (pair 0 k.n) q r.2 in
      let node = and_left (is_node k) (eqb k.s s) i.0 in
      let here : k.s ≡ s = eqb-true k.s s (and_right (is_node k) (eqb k.s s) i.0) in
      let plain : k.g ≡ 0 = eqb-true k.g 0 (and_right (not (eqb k.n 0)) (eqb k.g 0) node) in (
        k.n,
        nonzero_yes k.n (and_left (not (eqb k.n 0)) (eqb k.g 0) node),
        subst (λ (x : ℕ). Has (node_key x k.n) ts) here (subst (λ (j : Key). Has j ts) (node_key_lem ts R k r.1 plain) r.1),
        i.1,
      )

  nodes_in_complete : (s n : ℕ) → n ≢ 0 → Has (node_key s n) ts → Member (pair 0 n) (nodes_in s ts)
  unfolding nodes_in
  nodes_in_complete s n h has =
      let f : Key → List Pair = λ k. only_if (is_node k && eqb k.s s) (pair 0 k.n) in
      member_ascending (pair 0 n) (gather f ts)
      ∙ gather_complete f ts (pair 0 n) (node_key s n) has
      (only_if_complete _ (pair 0 n)
      (and_both (is_node (node_key s n)) (eqb s s) (and_both (not (eqb n 0)) true (yes_nonzero n h) refl) (eq-eqb s s refl)))

  spaces_in_sound : (q : Pair) → Member q (spaces_in ts) → (s : ℕ) × Has (space_key s) ts × (q ≡ pair 0 s)
  unfolding spaces_in
  spaces_in_sound q e =
      let f : Key → List Pair = λ k. only_if (eqb k.n 0) (pair 0 k.s) in
      let r = gather_sound f ts q (sym (member_ascending q (gather f ts)) ∙ e) in
      let k : Key = r.0 in
      let i = only_if_sound (eqb k.n 0) (pair 0 k.s) q r.2 in
      (k.s, subst (λ (j : Key). Has j ts) (space_key_lem ts R k r.1 (eqb-true k.n 0 i.0)) r.1, i.1)

  spaces_in_complete : (s : ℕ) → Has (space_key s) ts → Member (pair 0 s) (spaces_in ts)
  unfolding spaces_in
  spaces_in_complete s has =
      let f : Key → List Pair = λ k. only_if (eqb k.n 0) (pair 0 k.s) in
      member_ascending (pair 0 s) (gather f ts) ∙ gather_complete f ts (pair 0 s) (space_key s) has (only_if_complete true (pair 0 s) refl)

  spaces_with_sound : (n : ℕ) (q : Pair) → Member q (spaces_with n ts) → (s : ℕ) × (n ≢ 0) × Has (node_key s n) ts × (q ≡ pair 0 s)
  unfolding spaces_with
  spaces_with_sound n q e =
      let f : Key → List Pair = λ k. only_if (is_node k && eqb k.n n) (pair 0 k.s) in
      let r = gather_sound f ts q (sym (member_ascending q (gather f ts)) ∙ e) in
      let k : Key = r.0 in
      let i = only_if_sound (is_node k && eqb k.n n) (pair 0 k.s) q r.2 in
      let node = and_left (is_node k) (eqb k.n n) i.0 in
      let here : k.n ≡ n = eqb-true k.n n (and_right (is_node k) (eqb k.n n) i.0) in
      let plain : k.g ≡ 0 = eqb-true k.g 0 (and_right (not (eqb k.n 0)) (eqb k.g 0) node) in (
        k.s,
        subst (λ (x : ℕ). x ≢ 0) here (nonzero_yes k.n (and_left (not (eqb k.n 0)) (eqb k.g 0) node)),
        subst (λ (x : ℕ). Has (node_key k.s x) ts) here (subst (λ (j : Key). Has j ts) (node_key_lem ts R k r.1 plain) r.1),
        i.1,
      )

  spaces_with_complete : (n s : ℕ) → n ≢ 0 → Has (node_key s n) ts → Member (pair 0 s) (spaces_with n ts)
  unfolding spaces_with
  spaces_with_complete n s h has =
      let f : Key → List Pair = λ k. only_if (is_node k && eqb k.n n) (pair 0 k.s) in
      member_ascending (pair 0 s) (gather f ts)
      ∙ gather_complete f ts (pair 0 s) (node_key s n) has
      (only_if_complete _ (pair 0 s)
      (and_both (is_node (node_key s n)) (eqb n n) (and_both (not (eqb n 0)) true (yes_nonzero n h) refl) (eq-eqb n n refl)))

  -- ---- the lists

  -- what a list holds is an entry
  pub listed_sound : (l : Listing) (f : Fields) (q : Pair) → Member q (listed l f ts) → Entry l f ts q
  unfolding listed
  listed_sound (Listing.P d) f q e = pairs_sound d f.s f.n ts q e
  listed_sound (Listing.G d) f q e =
      let r = edges_sound (pairs_of d f.s f.n ts) q e in (r.0, pairs_sound d f.s f.n ts r.0 r.1, r.2)
  listed_sound (Listing.GN d) f q e =
      let ps = pairs_of d f.s f.n ts in
      let r = edges_sound (with_node f.m ps) q e in
      let i = only_sound (λ p. eqb (node_of p) f.m) ps r.0 r.1 in
      (r.0, pairs_sound d f.s f.n ts r.0 i.0, eqb-true (node_of r.0) f.m i.1, r.2)
  listed_sound (Listing.N d) f q e =
      let r = nodes_sound (pairs_of d f.s f.n ts) q e in (r.0, pairs_sound d f.s f.n ts r.0 r.1, r.2)
  listed_sound (Listing.NG d) f q e =
      let ps = pairs_of d f.s f.n ts in
      let r = nodes_sound (with_edge f.g ps) q e in
      let i = only_sound (λ p. eqb (edge_of p) f.g) ps r.0 r.1 in
      (r.0, pairs_sound d f.s f.n ts r.0 i.0, eqb-true (edge_of r.0) f.g i.1, r.2)
  listed_sound Listing.UN f q e = nodes_in_sound f.s q e
  listed_sound Listing.US f q e = spaces_in_sound q e
  listed_sound Listing.USn f q e = spaces_with_sound f.n q e

  -- every entry is in the list
  pub listed_complete : (l : Listing) (f : Fields) (q : Pair) → Entry l f ts q → Member q (listed l f ts)
  unfolding listed
  listed_complete (Listing.P d) f q h = pairs_complete d f.s f.n ts q h
  listed_complete (Listing.G d) f q h =
      let ps = pairs_of d f.s f.n ts in
      subst (λ (x : Pair). Member x (edge_names ps)) (sym h.2) (edges_complete ps h.0 (pairs_complete d f.s f.n ts h.0 h.1))
  listed_complete (Listing.GN d) f q h =
      let ps = pairs_of d f.s f.n ts in
      subst (λ (x : Pair). Member x (edge_names (with_node f.m ps))) (sym h.3)
      (edges_complete (with_node f.m ps) h.0
      (only_complete (λ p. eqb (node_of p) f.m) ps h.0 (pairs_complete d f.s f.n ts h.0 h.1) (eq-eqb _ f.m h.2)))
  listed_complete (Listing.N d) f q h =
      let ps = pairs_of d f.s f.n ts in
      subst (λ (x : Pair). Member x (node_names ps)) (sym h.2) (nodes_complete ps h.0 (pairs_complete d f.s f.n ts h.0 h.1))
  listed_complete (Listing.NG d) f q h =
      let ps = pairs_of d f.s f.n ts in
      subst (λ (x : Pair). Member x (node_names (with_edge f.g ps))) (sym h.3)
      (nodes_complete (with_edge f.g ps) h.0
      (only_complete (λ p. eqb (edge_of p) f.g) ps h.0 (pairs_complete d f.s f.n ts h.0 h.1) (eq-eqb _ f.g h.2)))
  listed_complete Listing.UN f q h =
      subst (λ (x : Pair). Member x (nodes_in f.s ts)) (sym h.3) (nodes_in_complete f.s h.0 h.1 h.2)
  listed_complete Listing.US f q h = subst (λ (x : Pair). Member x (spaces_in ts)) (sym h.2) (spaces_in_complete h.0 h.1)
  listed_complete Listing.USn f q h =
      subst (λ (x : Pair). Member x (spaces_with f.n ts)) (sym h.3) (spaces_with_complete f.n h.0 h.1 h.2)

-- each list is strictly ascending: "ascending by edge, then node, each once"
pub listed_ascends : (l : Listing) (f : Fields) (ts : Tuples) → Ascending itself compare_pairs (listed l f ts)
unfolding listed pairs_of edge_names node_names nodes_in spaces_in spaces_with
listed_ascends (Listing.P d) f ts = ascending_ascends _
listed_ascends (Listing.G d) f ts = ascending_ascends _
listed_ascends (Listing.GN d) f ts = ascending_ascends _
listed_ascends (Listing.N d) f ts = ascending_ascends _
listed_ascends (Listing.NG d) f ts = ascending_ascends _
listed_ascends Listing.UN f ts = ascending_ascends _
listed_ascends Listing.US f ts = ascending_ascends _
listed_ascends Listing.USn f ts = ascending_ascends _

-- the theorem about lists that S operators answer
pub lists_exactly : (l : Listing) (f : Fields) (ts : Tuples) → TupleRules ts
    → Ascending itself compare_pairs (listed l f ts) × ((q : Pair) → Member q (listed l f ts) ↔ Entry l f ts q)
lists_exactly l f ts R = (listed_ascends l f ts, λ q. (listed_sound ts R l f q, listed_complete ts R l f q))
