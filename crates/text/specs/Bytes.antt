-- Document 01, "The script program `slips`": bytes, and text in lent bytes.
use Rattle.std.specs.Prelude.{Bool, true, false, cond, ◌&&◌, List, [], ◌∷◌, ◌++◌, ℕ, ◌+◌, eqb, length, take, drop}

-- a line, a word, or any other text: its bytes
abbrev pub Text : Type 0
Text = List ℕ

-- "Lines end with a line feed"
abbrev pub line_feed : ℕ
line_feed = 10

-- "one blank before each"
abbrev pub blank : ℕ
blank = 32

-- document 02, request 1: nothing is "written `-` in a script"; request 2: `-` before the number of tuples removed
abbrev pub hyphen : ℕ
hyphen = 45

-- request 2: `+` before the number of tuples added
abbrev pub plus_sign : ℕ
plus_sign = 43

-- the letters of operators and answers, and the signs of answers
abbrev pub A : ℕ
A = 65

abbrev pub B : ℕ
B = 66

abbrev pub C : ℕ
C = 67

abbrev pub D : ℕ
D = 68

abbrev pub G : ℕ
G = 71

abbrev pub I : ℕ
I = 73

abbrev pub L : ℕ
L = 76

abbrev pub N : ℕ
N = 78

abbrev pub O : ℕ
O = 79

abbrev pub P : ℕ
P = 80

abbrev pub R : ℕ
R = 82

abbrev pub S : ℕ
S = 83

abbrev pub T : ℕ
T = 84

abbrev pub U : ℕ
U = 85

abbrev pub «V» : ℕ
«V» = 86

abbrev pub X : ℕ
X = 88

abbrev pub equals_sign : ℕ
equals_sign = 61

abbrev pub colon : ℕ
colon = 58

-- are two texts the same
unfoldable pub same_text : Text → Text → Bool
same_text [] [] = true
same_text [] (y ∷ ys) = false
same_text (x ∷ xs) [] = false
same_text (x ∷ xs) (y ∷ ys) = eqb x y && same_text xs ys

-- the text up to the first byte `end`, or all of it
unfoldable pub before : ℕ → Text → Text
before end [] = []
before end (b ∷ bs) = cond (eqb b end) [] (b ∷ before end bs)

-- the bytes lent for a text, with the text written from place `at` on
unfoldable pub written : Text → ℕ → Text → Text
written out at bs = take at out ++ (bs ++ drop (at + length bs) out)
