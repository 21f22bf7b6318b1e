-- What the functions that list require, from a store and from a call that conditions 2 and 3 let pass.
use mathlib.Core.Bool.{true, false}
use mathlib.Core.List.{List}
use mathlib.Core.Path.{◌≡◌, sym, ap, ◌∙◌}
use Prim.Native.Nat.{ℕ}
use Rattle.model.specs.declared.Call.{Call}
use Rattle.model.specs.declared.Listing.{Listing}
use Rattle.model.specs.declared.Operator.{Operator}
use Rattle.model.specs.declared.Operator.TheVariants.{List as Lists}
use Rattle.model.specs.Operators.{operator_of}
use Rattle.layouts.specs.Buffer.{is_store}
use Rattle.model.specs.Steps.{fields_of}
use Rattle.model.specs.Refusals.{no_operator, zero_name}
use Rattle.model.proofs.Steps.{agrees, agree, g_named, m_named}
use Rattle.edit.proofs.Built.{store_linked, store_tuples}
use Rattle.entries.specs.Queries.{Readable}
use Rattle.listings.specs.Lists.{NamesAsked}

pub store_readable : (b : List ℕ) → is_store b ≡ true → Readable b
store_readable b e = record { linked = store_linked b e; small = (store_tuples b e).small }

-- the names that a query asks for are read, and so are not 0
pub names_asked : (l : Listing) (c : Call) → no_operator c ≡ false → zero_name c ≡ false → operator_of c.operator ≡ Lists l → NamesAsked l (fields_of c)
names_asked l c known named e = go l (ap (λ (op : Operator). agrees op c.operator) (sym e) ∙ agree c known)
  where
    go : (l : Listing) → agrees (Lists l) c.operator ≡ true → NamesAsked l (fields_of c)
    go (Listing.P d) a = tt
    go (Listing.G d) a = tt
    go (Listing.GN d) a = m_named c named a
    go (Listing.N d) a = tt
    go (Listing.NG d) a = g_named c named a
    go Listing.UN a = tt
    go Listing.US a = tt
    go Listing.USn a = tt
