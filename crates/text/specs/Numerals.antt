-- Document 01: "plain digits without a leading zero (zero itself is `0`), names to 65,535, values to 4,294,967,295".
use Rattle.std.specs.Prelude.{Bool, true, false, cond, not, ◌&&◌, Option, Some, None, [], ◌∷◌, ◌++◌, ℕ, zero, suc, ◌+◌, ◌-◌, ◌*◌, ◌/◌, ◌%◌, eqb, leb, ltb}
use Rattle.text.specs.Bytes.{Text}

-- the digit 0; the digits are this byte and the next nine
abbrev pub digit_zero : ℕ
digit_zero = 48

unfoldable pub is_digit : ℕ → Bool
is_digit b = leb digit_zero b && leb b (digit_zero + 9)

unfoldable pub all_digits : Text → Bool
all_digits [] = true
all_digits (b ∷ bs) = is_digit b && all_digits bs

-- "plain digits without a leading zero (zero itself is `0`)"
unfoldable pub plain_digits : Text → Bool
plain_digits [] = false
plain_digits (b ∷ []) = is_digit b
plain_digits (b ∷ c ∷ bs) = not (eqb b digit_zero) && all_digits (b ∷ c ∷ bs)

-- the number that digits give, after those that give a
unfoldable pub number_after : ℕ → Text → ℕ
number_after a [] = a
number_after a (b ∷ bs) = number_after (a * 10 + (b - digit_zero)) bs

-- "names to 65,535, values to 4,294,967,295": a word as a number of at most `most`
unfoldable pub read_number : ℕ → Text → Option ℕ
read_number most w = cond (plain_digits w && leb (number_after 0 w) most) (Some (number_after 0 w)) None

-- the digit of a number below ten
abbrev pub digit : ℕ → ℕ
digit x = digit_zero + x

-- a number of at most so many digits, printed in base ten
unfoldable pub printed_in : ℕ → ℕ → Text
printed_in zero x = []
printed_in (suc k) x = cond (ltb x 10) (digit x ∷ []) (printed_in k (x / 10) ++ (digit (x % 10) ∷ []))

-- a number of 32 bits has at most ten digits
abbrev pub most_digits : ℕ
most_digits = 10

unfoldable pub printed_number : ℕ → Text
printed_number x = printed_in most_digits x
