-- The step of each family of operators (specs/Perform.antt).
use mathlib.Core.Bool.{Bool, true, true≢false}
use mathlib.Core.List.{List}
use mathlib.Core.Path.{◌≡◌, refl, sym, ap, ap₂, ◌∙◌, subst}
use Prim.Native.Nat.{ℕ, ◌-◌, ◌≤◌}
use native.Mathlib.Omega.{arith}
use lib.ListN.{length}
use Rattle.std.specs.Prelude.{Ok}
use Rattle.model.specs.declared.Answer.TheVariants.{Name, Added, Removed, Value, YesNo, List as Listed}
use Rattle.model.specs.declared.Fields.{Fields}
use Rattle.model.specs.declared.Object.{Object}
use Rattle.model.specs.declared.Listing.{Listing}
use Rattle.model.specs.declared.Operator.{Operator}
use Rattle.model.specs.declared.Operator.TheVariants.{Create, Bind, Value as Values, Exists, Destroy, List as Lists}
use Rattle.model.specs.declared.Removal.{Removal}
use Rattle.model.specs.Tuples.{any_present, add_all}
use Rattle.layouts.specs.Buffer.{tuples_of, is_store}
use Rattle.model.specs.Steps.{object_keys, created, first_value, destroyed, listed, reply, after}
use Rattle.model.specs.OneCall.{answer_of, list_after, writes}
use Rattle.chain.specs.Links.{Linked, Edited}
use Rattle.edit.proofs.Built.{unedited, store_linked}
use Rattle.model.proofs.Tuples.{length_add_all}
use Rattle.model.proofs.Steps.{length_destroyed}
use Rattle.entries.specs.Queries.{written_pairs}
use Rattle.steps.specs.Objects.{Room, Bound}
use Rattle.listings.specs.Lists.{NamesAsked}
use Rattle.removals.specs.Collected.{NamesRead}
use Rattle.calls.specs.Perform.{ReadyFor, Ready, Performed}

-- ---- what each family of operators requires

module _ (op : Operator) (f : Fields) (b : List ℕ) (room : ℕ) (h : Ready op f b room) where
  ready_of : {x : Operator} → op ≡ x → ReadyFor x f b room
  ready_of e = subst (λ (y : Operator). ReadyFor y f b room) e h.ready

  pub ready_create : (o : Object) → op ≡ Create o → Room b (created o f)
  ready_create o e = ready_of e

  pub ready_destroy : (r : Removal) → op ≡ Destroy r → NamesRead r f
  ready_destroy r e = ready_of e

  pub ready_names : (l : Listing) → op ≡ Lists l → NamesAsked l f
  ready_names l e = (ready_of e).0

  pub ready_room : (l : Listing) → op ≡ Lists l → length (listed l f (tuples_of b)) ≤ room
  ready_room l e = (ready_of e).1

-- ---- an operator's step

module _ (op : Operator) (x : ℕ) (f : Fields) (b l : List ℕ) where
  -- how many tuples there are before and after the step
  module _ (b' : List ℕ) (before now : ℕ) (told : before ≡ length (tuples_of b)) (found : now ≡ length (tuples_of b')) where
    pub create_grows : (o : Object) → is_store b ≡ true → Edited b b' (add_all (created o f) (tuples_of b)) → before ≤ now
    create_grows o store E =
        omega (arith, told, found, ap length E.tuples, length_add_all (created o f) (tuples_of b) (store_linked b store).ascends)

    pub create_performed : (o : Object) → op ≡ Create o → Edited b b' (add_all (created o f) (tuples_of b)) → Performed op x f b l (Added x (now - before)) b' l
    unfolding reply after answer_of list_after writes
    create_performed o e E =
        subst (λ (y : Operator). Performed y x f b l (Added x (now - before)) b' l) (sym e)
        (record { answer = ap (λ (k : ℕ). Ok (Added x k)) (ap₂ ◌-◌ (found ∙ ap length E.tuples) told); list = refl; edited = E; reading = λ w. absurd (true≢false w) })

    pub destroy_shrinks : (r : Removal) → Edited b b' (destroyed r f (tuples_of b)) → now ≤ before
    destroy_shrinks r E = omega (arith, told, found, ap length E.tuples, length_destroyed r f (tuples_of b))

    pub destroy_performed : (r : Removal) → op ≡ Destroy r → Edited b b' (destroyed r f (tuples_of b)) → Performed op x f b l (Removed x (before - now)) b' l
    unfolding reply after answer_of list_after writes
    destroy_performed r e E =
        subst (λ (y : Operator). Performed y x f b l (Removed x (before - now)) b' l) (sym e)
        (record { answer = ap (λ (k : ℕ). Ok (Removed x k)) (ap₂ ◌-◌ told (found ∙ ap length E.tuples)); list = refl; edited = E; reading = λ w. absurd (true≢false w) })

  pub bind_performed : (o : Object) (b' : List ℕ) → op ≡ Bind o → Bound b (object_keys o f.s f) f.v b' → Performed op x f b l (Name x) b' l
  unfolding reply after answer_of list_after writes
  bind_performed o b' e B =
      subst (λ (y : Operator). Performed y x f b l (Name x) b' l) (sym e)
      (record { answer = refl; list = refl; edited = B.edited; reading = λ w. absurd (true≢false w) })

  pub value_performed : (o : Object) (v : ℕ) → op ≡ Values o → Linked b → v ≡ first_value (object_keys o f.s f) (tuples_of b)
      → Performed op x f b l (Value v) b l
  unfolding reply after answer_of list_after
  value_performed o v e L h =
      subst (λ (y : Operator). Performed y x f b l (Value v) b l) (sym e)
      (record { answer = ap (λ (k : ℕ). Ok (Value k)) h; list = refl; edited = unedited b (tuples_of b) L refl; reading = λ w. refl })

  pub exists_performed : (o : Object) (t : Bool) → op ≡ Exists o → Linked b → t ≡ any_present (object_keys o f.s f) (tuples_of b)
      → Performed op x f b l (YesNo t) b l
  unfolding reply after answer_of list_after
  exists_performed o t e L h =
      subst (λ (y : Operator). Performed y x f b l (YesNo t) b l) (sym e)
      (record { answer = ap (λ (y : Bool). Ok (YesNo y)) h; list = refl; edited = unedited b (tuples_of b) L refl; reading = λ w. refl })

  pub list_performed : (q : Listing) (l' : List ℕ) (k : ℕ) → op ≡ Lists q → Linked b → k ≡ length (listed q f (tuples_of b))
      → l' ≡ written_pairs (listed q f (tuples_of b)) l → Performed op x f b l (Listed k) b l'
  unfolding reply after answer_of list_after written_pairs
  list_performed q l' k e L h w =
      subst (λ (y : Operator). Performed y x f b l (Listed k) b l') (sym e)
      (record { answer = ap (λ (n : ℕ). Ok (Listed n)) h; list = w; edited = unedited b (tuples_of b) L refl; reading = λ z. refl })

-- ---- with nothing as the space
