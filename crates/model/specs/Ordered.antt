-- Sets as lists whose keys strictly ascend: the machine's state, and the lists that S operators answer.
-- `key` gives an element's key, `order` compares two keys.
use Rattle.std.specs.Prelude.{Bool, true, false, ◌&&◌, ◌||◌, List, [], ◌∷◌, ◌≡◌}
use Prim.Native.Nat.{Ordering}
use Rattle.std.proofs.Math.Dec.{compare_is_eq}

abbrev pub by_order : {A : Type 0} → Ordering → A → A → A → A
by_order Ordering.lt less same more = less
by_order Ordering.eq less same more = same
by_order Ordering.gt less same more = more

abbrev pub is_less : Ordering → Bool
is_less Ordering.lt = true
is_less Ordering.eq = false
is_less Ordering.gt = false

-- an order of first parts, refined by one of later parts where the first are equal
abbrev pub then_by : Ordering → Ordering → Ordering
then_by Ordering.lt o = Ordering.lt
then_by Ordering.eq o = o
then_by Ordering.gt o = Ordering.gt

module _ {A K : Type 0} (key : A → K) (order : K → K → Ordering) where
  -- is there an element with this key
  unfoldable pub holds : K → List A → Bool
  holds k [] = false
  holds k (x ∷ xs) = compare_is_eq (order k (key x)) || holds k xs

  -- an element at its place in an ascending list; the list itself where it holds the element's key
  unfoldable pub put : A → List A → List A
  put a [] = a ∷ []
  put a (x ∷ xs) = by_order (order (key a) (key x)) (a ∷ x ∷ xs) (x ∷ xs) (x ∷ put a xs)

  -- do the keys strictly ascend, all above k
  unfoldable pub ascends_from : K → List A → Bool
  ascends_from k [] = true
  ascends_from k (x ∷ xs) = is_less (order k (key x)) && ascends_from (key x) xs

  -- the same as statements
  abbrev pub Above : K → List A → Type 0
  Above k [] = Unit {0}
  Above k (x ∷ xs) = (order k (key x) ≡ Ordering.lt) × Above (key x) xs

  abbrev pub Ascending : List A → Type 0
  Ascending [] = Unit {0}
  Ascending (x ∷ xs) = Above (key x) xs
