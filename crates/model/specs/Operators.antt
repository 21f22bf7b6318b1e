-- Document 01, the table of operators and "The number fixes the arguments that are read".
-- An operator's name is composed of letters, as the manual's rules of composition have it: what is done (C B V X D S), the direction of pairs (O I A), and the object.
use Rattle.std.specs.Prelude.{Bool, true, false, cond, not, ◌&&◌, ◌||◌, List, [], ◌∷◌, ◌++◌, ℕ, ◌-◌, leb, eqb, get_or}
use Rattle.model.specs.declared.Asks.{Asks}
use Rattle.model.specs.declared.Direction.{Direction}
use Rattle.model.specs.declared.Direction.TheVariants.{Outpointing, Inpointing, Adjacent}
use Rattle.model.specs.declared.Listing.{Listing}
use Rattle.model.specs.declared.Object.{Object}
use Rattle.model.specs.declared.Operator.{Operator}
use Rattle.model.specs.declared.Operator.TheVariants.{Create, Bind, Value as Values, Exists, Destroy, List as Lists}
use Rattle.model.specs.declared.Reads.{Reads}
use Rattle.model.specs.declared.Removal.{Removal}
use Rattle.model.specs.declared.Row.{Row}

-- three operators in the order of the table: O, I, A
abbrev pub each : (Direction → Operator) → List Operator
each f = f Outpointing ∷ f Inpointing ∷ f Adjacent ∷ []

-- "numbers | operators": entry i is the operator with number i + 1
unfoldable pub table : List Operator
table =
    each (λ d. Create (Object.P d))
    ++ each (λ d. Bind (Object.P d))
    ++ (Values (Object.P Outpointing) ∷ Values (Object.P Inpointing) ∷ [])
    ++ each (λ d. Exists (Object.P d))
    ++ each (λ d. Destroy (Removal.P d))
    ++ each (λ d. Destroy (Removal.G d))
    ++ each (λ d. Destroy (Removal.GG d))
    ++ each (λ d. Destroy (Removal.GN d))
    ++ each (λ d. Destroy (Removal.N d))
    ++ each (λ d. Destroy (Removal.NG d))
    ++ each (λ d. Lists (Listing.P d))
    ++ each (λ d. Lists (Listing.G d))
    ++ each (λ d. Lists (Listing.GN d))
    ++ each (λ d. Lists (Listing.N d))
    ++ each (λ d. Lists (Listing.NG d))
    ++ (Create Object.UN ∷ Bind Object.UN ∷ Values Object.UN ∷ Exists Object.UN ∷ Destroy Removal.UN ∷ Lists Listing.UN ∷ [])
    ++ (Create Object.US ∷ Bind Object.US ∷ Values Object.US ∷ Exists Object.US ∷ Destroy Removal.US ∷ [])
    ++ (Lists Listing.US ∷ Lists Listing.USn ∷ [])

-- the operator of a number from 1 to 57; condition 2 stops the call of any other, and what stands here for it has no effect
unfoldable pub operator_of : ℕ → Operator
operator_of number = get_or table (number - 1) (Lists Listing.US)

-- a range of operator numbers, both ends in it
abbrev pub within : ℕ → ℕ → ℕ → Bool
within low high number = leb low number && leb number high

abbrev pub fields : Bool → Bool → Bool → Bool → Bool → Reads
fields n g m v s = record { n = n; g = g; m = m; v = v; s = s }

-- "The number fixes the arguments that are read: 1–3 and 7–14 n g m s; 4–6 n g m v s; 15–17, 24–26, 30–35, 39–41 n s;
-- 18–20, 27–29, 42–44 n g s; 21–23, 36–38 n m s; 45, 47–49 n s; 46 n v s; 50, 51, 53–55 s; 52 s v; 56 none; 57 n."
unfoldable pub reads_of : ℕ → Reads
reads_of o =
    cond (within 1 3 o || within 7 14 o) (fields true true true false true)
    (cond (within 4 6 o) (fields true true true true true)
    (cond (within 15 17 o || within 24 26 o || within 30 35 o || within 39 41 o) (fields true false false false true)
    (cond (within 18 20 o || within 27 29 o || within 42 44 o) (fields true true false false true)
    (cond (within 21 23 o || within 36 38 o) (fields true false true false true)
    (cond (eqb o 45 || within 47 49 o) (fields true false false false true)
    (cond (eqb o 46) (fields true false false true true)
    (cond (within 50 51 o || within 53 55 o) (fields false false false false true)
    (cond (eqb o 52) (fields false false false true true)
    (cond (eqb o 57) (fields true false false false false)
    (fields false false false false false))))))))))

-- what an operator asks for before its step
abbrev pub asks_of : ℕ → Asks
asks_of o =
    record {
      -- condition 12: "a V operator, or any of 51–55": 7, 8, 47 and 53 are V
      selection = within 7 8 o || eqb o 47 || within 51 55 o;
      -- condition 4: "55 on UNIVERSE"
      number = eqb o 55;
      -- condition 5: "s absent (not for 51, 54, 55)"
      space = (reads_of o).s && not (eqb o 51 || within 54 55 o);
      -- condition 6: "n absent from s (1–44, 46, 47), or from 0 (57)"
      node = within 1 44 o || within 46 47 o;
      universe = eqb o 57;
      -- condition 8: "4–8: no such edge"
      edge = within 4 8 o;
    }

-- what an operator's number fixes: all that is asked of a number stands in its row
abbrev pub row_of : ℕ → Row
row_of o =
    record {
      reads = reads_of o;
      asks = asks_of o;
      -- "add the edge .. in s and in 0", "add n to s and to 0"
      both = within 1 3 o || eqb o 45;
      -- "C, B and D return the first argument (51, 52, 55: the space)"
      first = within 51 52 o || eqb o 55;
      -- scripts: "For 1–50 the last, s, may be missing"
      optional = within 1 50 o;
    }
