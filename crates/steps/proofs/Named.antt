-- What C, B, V and X work on, key by key (specs/Objects.antt), is what the definitions say (`object_keys`).
use mathlib.Core.Bool.{Bool, true, false, cond, ◌||◌, or-false}
use mathlib.Core.List.{List, [], ◌∷◌}
use mathlib.Core.Logic.{◌≢◌}
use mathlib.Core.Path.{◌≡◌, refl, sym, ap, ap₂, ◌∙◌, subst}
use Prim.Native.Nat.{ℕ, ◌+◌}
use lib.Dec.{eqb}
use lib.ListN.{set}
use lib.Seq.{get_or-set_other}
use Rattle.model.specs.declared.Fields.{Fields}
use Rattle.model.specs.declared.Direction.{Direction}
use Rattle.model.specs.declared.Direction.TheVariants.{Outpointing, Inpointing, Adjacent}
use Rattle.model.specs.declared.Key.{Key}
use Rattle.model.specs.declared.Object.{Object}
use Rattle.model.specs.Keys.{Value, edge_key}
use Rattle.model.specs.Tuples.{Tuples, present, any_present, value_at, assign, assign_all}
use Rattle.layouts.specs.Buffer.{word, record_start, value_place, key_at, used_of, tuples_of}
use Rattle.model.specs.Steps.{object_keys, first_value}
use Rattle.words.specs.Words.{put_word}
use Rattle.chain.specs.Links.{both_ways, Hint, KeepsHints, find_in, Edited}
use Rattle.edit.specs.Edits.{assign_in, Assigned}
use Rattle.located.specs.declared.Near.{Near}
use Rattle.located.specs.Located.{NearIn}
use Rattle.steps.specs.Objects.{pair_hint, main_hint, pair_key, main_key, is_adjacent, assign_all_in, Bound}

-- the key of the edge from m to n
abbrev second_key : ℕ → Fields → Key
second_key s f = edge_key s f.m f.g f.n

pub object_keys_lem : (o : Object) (s : ℕ) (f : Fields) → object_keys o s f ≡ main_key o s f ∷ cond (is_adjacent o) (second_key s f ∷ []) []
unfolding object_keys main_key pair_key is_adjacent both_ways
object_keys_lem (Object.P Outpointing) s f = refl
object_keys_lem (Object.P Inpointing) s f = refl
object_keys_lem (Object.P Adjacent) s f = refl
object_keys_lem Object.UN s f = refl
object_keys_lem Object.US s f = refl

-- one key ..
pub keys_one : (o : Object) (s : ℕ) (f : Fields) (k : Key) (a : Bool) → k ≡ main_key o s f → a ≡ is_adjacent o → a ≡ false → k ∷ [] ≡ object_keys o s f
keys_one o s f k a K A e = ap₂ (λ (i : Key) (t : Bool). i ∷ cond t (second_key s f ∷ []) []) K (sym e ∙ A) ∙ sym (object_keys_lem o s f)

-- .. or two
pub keys_two : (o : Object) (s : ℕ) (f : Fields) (k j : Key) (a : Bool) → k ≡ main_key o s f → a ≡ is_adjacent o → a ≡ true → j ≡ second_key s f
    → k ∷ j ∷ [] ≡ object_keys o s f
keys_two o s f k j a K A e same =
    ap₂ (λ (i h : Key). i ∷ h ∷ []) K same ∙ ap (λ (t : Bool). main_key o s f ∷ cond t (second_key s f ∷ []) []) (sym e ∙ A) ∙ sym (object_keys_lem o s f)

-- ---- V

pub value_named : (o : Object) (f : Fields) (k : Key) (ts : Tuples) (v : Value) → k ≡ main_key o f.s f → v ≡ value_at k ts
    → v ≡ first_value (object_keys o f.s f) ts
unfolding first_value
value_named o f k ts v K X =
    X ∙ ap (λ (j : Key). value_at j ts) K ∙ sym (ap (λ (ks : List Key). first_value ks ts) (object_keys_lem o f.s f))

-- ---- X

pub exists_first : (o : Object) (f : Fields) (k : Key) (ts : Tuples) (x : Bool) → k ≡ main_key o f.s f → x ≡ present k ts → x ≡ true
    → x ≡ any_present (object_keys o f.s f) ts
unfolding any_present
exists_first o f k ts x K X e =
    let rest : List Key = cond (is_adjacent o) (second_key f.s f ∷ []) [] in
    let first : present (main_key o f.s f) ts ≡ true = ap (λ (j : Key). present j ts) (sym K) ∙ sym X ∙ e in
    e ∙ sym (ap (λ (ks : List Key). any_present ks ts) (object_keys_lem o f.s f) ∙ ap (λ (b : Bool). b || any_present rest ts) first)

pub exists_second : (o : Object) (f : Fields) (k j : Key) (ts : Tuples) (x a y : Bool) → k ≡ main_key o f.s f → x ≡ present k ts → x ≡ false
    → a ≡ is_adjacent o → a ≡ true → j ≡ second_key f.s f → y ≡ present j ts → y ≡ any_present (object_keys o f.s f) ts
unfolding any_present
exists_second o f k j ts x a y K X e A two same Y =
    Y
    ∙ sym (or-false (present j ts))
    ∙ ap (λ (b : Bool). b || (present j ts || false)) (sym e ∙ X)
    ∙ ap (λ (ks : List Key). any_present ks ts) (keys_two o f.s f k j a K A two same)

pub exists_none : (o : Object) (f : Fields) (k : Key) (ts : Tuples) (x a : Bool) → k ≡ main_key o f.s f → x ≡ present k ts → x ≡ false
    → a ≡ is_adjacent o → a ≡ false → a ≡ any_present (object_keys o f.s f) ts
unfolding any_present
exists_none o f k ts x a K X e A one =
    one ∙ ap (λ (b : Bool). b || false) (sym e ∙ X) ∙ ap (λ (ks : List Key). any_present ks ts) (keys_one o f.s f k a K A one)

-- ---- B

pub bind_one : (o : Object) (f : Fields) (k : Key) (a : Bool) {b b' : List ℕ}
    → k ≡ main_key o f.s f → a ≡ is_adjacent o → a ≡ false → Assigned b k f.v b' → Bound b (object_keys o f.s f) f.v b'
unfolding assign_all assign_all_in
bind_one o f k a {b} {b'} K A e E =
    subst (λ (ks : List Key). Bound b ks f.v b') (keys_one o f.s f k a K A e) (record { words = E.words; edited = E.edited })

-- two edits, one after the other
pub edited_twice : {b b' b'' : List ℕ} {ts : Tuples} (change : Tuples → Tuples)
    → Edited b b' ts → Edited b' b'' (change (tuples_of b')) → Edited b b'' (change ts)
edited_twice change E D =
    record { linked = D.linked; tuples = D.tuples ∙ ap change E.tuples; size = D.size ∙ E.size; past = D.past ∙ E.past }

pub bind_two : (o : Object) (f : Fields) (k j : Key) (a : Bool) {b b' b'' : List ℕ}
    → k ≡ main_key o f.s f → a ≡ is_adjacent o → a ≡ true → j ≡ second_key f.s f
    → Assigned b k f.v b' → Assigned b' j f.v b'' → Bound b (object_keys o f.s f) f.v b''
unfolding assign_all assign_all_in
bind_two o f k j a {b} {b'} {b''} K A e same E D =
    subst (λ (ks : List Key). Bound b ks f.v b'') (keys_two o f.s f k j a K A e same)
    (record {
      words = D.words ∙ ap (λ (x : List ℕ). assign_in x j f.v) E.words;
      edited = edited_twice (assign j f.v) E.edited D.edited;
    })

-- ---- hints

pub pair_hint_lem : (b : List ℕ) (d : Direction) (near : Near) → NearIn b near → Hint b (pair_hint d near)
unfolding pair_hint
pair_hint_lem b Outpointing near N = N.node
pair_hint_lem b Inpointing near N = N.second
pair_hint_lem b Adjacent near N = N.node

pub main_hint_lem : (b : List ℕ) (o : Object) (near : Near) (h : ℕ) → NearIn b near → h ≡ main_hint o near → Hint b h
unfolding main_hint
main_hint_lem b o near h N e = subst (Hint b) (sym e) (go o)
  where
    go : (o : Object) → Hint b (main_hint o near)
    go (Object.P d) = pair_hint_lem b d near N
    go Object.UN = N.node
    go Object.US = N.space

pub near_kept : {b b' : List ℕ} {near : Near} → KeepsHints b b' → NearIn b near → NearIn b' near
near_kept K N = record { space = K _ N.space; node = K _ N.node; second = K _ N.second }

-- ---- the words of B

-- one key: a word that is no record's value word stays
assign_other : (b : List ℕ) (k : Key) (v : Value) (i : ℕ) → ((at : ℕ) → i ≢ record_start at + value_place) → word (assign_in b k v) i ≡ word b i
unfolding assign_in put_word
assign_other b k v i d = go (eqb (find_in (key_at b) k (used_of b)) 0)
  where
    go : (t : Bool) → word (cond t b (set b (record_start (find_in (key_at b) k (used_of b)) + value_place) v)) i ≡ word b i
    go true = refl
    go false = get_or-set_other b (record_start (find_in (key_at b) k (used_of b)) + value_place) i v 0 (d _)

-- B writes value words alone: no head, no link and no key is another afterwards
pub bound_other : (b : List ℕ) (ks : List Key) (v : Value) (b' : List ℕ) (i : ℕ) → Bound b ks v b' → ((at : ℕ) → i ≢ record_start at + value_place) → word b' i ≡ word b i
unfolding assign_all_in
bound_other b ks v b' i B d = ap (λ (x : List ℕ). word x i) B.words ∙ go ks b
  where
    go : (js : List Key) (x : List ℕ) → word (assign_all_in js v x) i ≡ word x i
    go [] x = refl
    go (j ∷ js) x = go js (assign_in x j v) ∙ assign_other x j v i d
