-- What the marks show is there: all that a tuple of the walk names, but second ends that are kept.
use mathlib.Core.Bool.{Bool, true, false, cond, not, ◌&&◌, ◌||◌}
use mathlib.Core.List.{List}
use mathlib.Core.Logic.{◌≢◌, ⊎_elim}
use mathlib.Core.Path.{◌≡◌, refl, sym, ap, ap₂, ◌∙◌}
use Prim.Native.Nat.{ℕ}
use lib.Dec.{eqb, ltb}
use borrow.Author.Tests.{eqb-true, eqb-false, eq-eqb, ne_eqb}
use Rattle.model.specs.declared.Key.{Key}
use Rattle.model.specs.Keys.{space_key, node_key, edge_key, is_node, is_edge}
use Rattle.model.specs.Tuples.{Tuples, present}
use Rattle.layouts.specs.Buffer.{tuples_of}
use Rattle.model.specs.Rules.{node_supported, edge_supported}
use Rattle.model.proofs.Bools.{or_cases, and_left, and_right}
use Rattle.presence.specs.Presence.{MarksHold, node_shown, edge_shown, node_settled, edge_settled, settled, end_there, end_shown, nothing_kept, supported, good_key}
use Rattle.presence.proofs.Hints.{show_node, show_edge}
use Rattle.presence.proofs.Shows.{good_end, good_nameless, good_second, good_n, good_m, good_node}

-- a second end that is not kept is there
pub not_kept_there : (b ms : List ℕ) (k : Key) → MarksHold b ms → good_key k ≡ true → nothing_kept ms k ≡ true → end_there (tuples_of b) k ≡ true
unfolding nothing_kept end_shown end_there
not_kept_there b ms k M good e = go (eqb k.g 0) refl e
  where
    go : (t : Bool) → eqb k.g 0 ≡ t → (t || (not (ltb k.n k.m) && node_shown ms k.s k.m)) ≡ true
        → (not (not t) || present (node_key k.s k.m) (tuples_of b)) ≡ true
    go true f h = refl
    go false f h =
        show_node b ms M k.s k.m (good_second k good (eqb-false k.g 0 f)) (good_m k good) (and_right (not (ltb k.n k.m)) _ h)

-- ---- one tuple of the walk

-- what is known of the last key: its space is there, and its node
pub record Stands (ts : Tuples) (k : Key) : Type 0 where
  pub space : present (space_key k.s) ts ≡ true
  pub node : present (node_key k.s k.n) ts ≡ true

-- all that a settled key names is there, but for its second end
pub record Settled (ts : Tuples) (k : Key) : Type 0 where
  pub stands : Stands ts k
  pub end : supported ts k ≡ end_there ts k

module _ (b ms : List ℕ) (j k : Key) (M : MarksHold b ms) (S : Stands (tuples_of b) j) (own : present k (tuples_of b) ≡ true) (good : good_key k ≡ true) where
  abbrev ts : Tuples
  ts = tuples_of b

  as_node : k.g ≡ 0 → k ≡ node_key k.s k.n
  as_node g = good_node k good g

  as_space : k.g ≡ 0 → k.n ≡ 0 → k ≡ space_key k.s
  as_space g n = λ i. record { s = k.s; n = n i; g = g i; m = good_end k good g i }

  of_space : k.g ≡ 0 → k.n ≡ 0 → Settled ts k
  unfolding supported node_supported edge_supported end_there
  of_space g n =
      record {
        stands =
            record {
              space = ap (λ (x : Key). present x ts) (sym (as_space g n)) ∙ own;
              node = ap (λ (x : Key). present x ts) (sym (as_node g)) ∙ own;
            };
        end = simp (eq-eqb k.n 0 n, eq-eqb k.g 0 g);
      }

  module _ (same : k.s ≡ j.s) where
    space_there_lem : present (space_key k.s) ts ≡ true
    space_there_lem = ap (λ (x : ℕ). present (space_key x) ts) same ∙ S.space

    of_node : k.g ≡ 0 → k.n ≢ 0 → (eqb k.s 0 || node_shown ms 0 k.n) ≡ true → Settled ts k
    unfolding supported node_supported edge_supported end_there
    of_node g n universe =
        let u : present (node_key 0 k.n) ts ≡ true
        = ⊎_elim (λ t. itself (eqb-true k.s 0 t)) (λ t. show_node b ms M 0 k.n n (good_n k good) t) (or_cases (eqb k.s 0) _ universe) in
        record {
          stands = record { space = space_there_lem; node = ap (λ (x : Key). present x ts) (sym (as_node g)) ∙ own };
          end = simp (ne_eqb k.n 0 n, eq-eqb k.g 0 g, space_there_lem, u);
        }
      where
        itself : k.s ≡ 0 → present (node_key 0 k.n) ts ≡ true
        itself z = ap (λ (x : ℕ). present (node_key x k.n) ts) (sym z) ∙ ap (λ (x : Key). present x ts) (sym (as_node g)) ∙ own

    of_edge : k.g ≢ 0 → k.n ≡ j.n → (eqb k.s 0 || edge_shown b ms k) ≡ true → Settled ts k
    unfolding supported node_supported edge_supported end_there
    of_edge g f universe =
        let u : present (edge_key 0 k.n k.g k.m) ts ≡ true
        = ⊎_elim (λ t. itself (eqb-true k.s 0 t)) (λ t. show_edge b ms M k t) (or_cases (eqb k.s 0) _ universe) in
        let n : k.n ≢ 0 = λ z. g (good_nameless k good z) in
        let p : present (node_key k.s k.n) ts ≡ true = ap₂ (λ (x y : ℕ). present (node_key x y) ts) same f ∙ S.node in
        record {
          stands = record { space = space_there_lem; node = p };
          end = edge_left (present (node_key k.s k.m) ts) n p u;
        }
      where
        itself : k.s ≡ 0 → present (edge_key 0 k.n k.g k.m) ts ≡ true
        itself z = ap (λ (x : ℕ). present (edge_key x k.n k.g k.m) ts) (sym z) ∙ own

        edge_left : (e : Bool) → k.n ≢ 0 → present (node_key k.s k.n) ts ≡ true → present (edge_key 0 k.n k.g k.m) ts ≡ true
            → ((not (is_node k) || (present (space_key k.s) ts && present (node_key 0 k.n) ts))
            && (not (is_edge k) || (present (node_key k.s k.n) ts && (e && present (edge_key 0 k.n k.g k.m) ts))))
            ≡ (not (is_edge k) || e)
        edge_left true n p u = simp (ne_eqb k.n 0 n, ne_eqb k.g 0 g, p, u)
        edge_left false n p u = simp (ne_eqb k.n 0 n, ne_eqb k.g 0 g, p, u)

  pub settled_all : settled b ms j k ≡ true → Settled ts k
  unfolding settled node_settled edge_settled
  settled_all e = go (eqb k.g 0) refl e
    where
      plain : (t : Bool) → eqb k.n 0 ≡ t → k.g ≡ 0 → (t || (eqb k.s j.s && (eqb k.s 0 || node_shown ms 0 k.n))) ≡ true → Settled ts k
      plain true f g h = of_space g (eqb-true k.n 0 f)
      plain false f g h =
          of_node (eqb-true k.s j.s (and_left (eqb k.s j.s) _ h)) g (eqb-false k.n 0 f) (and_right (eqb k.s j.s) _ h)

      go : (t : Bool) → eqb k.g 0 ≡ t
          → cond t (eqb k.n 0 || (eqb k.s j.s && (eqb k.s 0 || node_shown ms 0 k.n)))
          (eqb k.s j.s && (eqb k.n j.n && (eqb k.s 0 || edge_shown b ms k))) ≡ true → Settled ts k
      go true f h = plain (eqb k.n 0) refl (eqb-true k.g 0 f) h
      go false f h =
          let h' = and_right (eqb k.s j.s) _ h in
          of_edge (eqb-true k.s j.s (and_left (eqb k.s j.s) _ h)) (eqb-false k.g 0 f)
          (eqb-true k.n j.n (and_left (eqb k.n j.n) _ h')) (and_right (eqb k.n j.n) _ h')
