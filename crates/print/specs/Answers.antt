-- Document 01: "Output, a line each: `= name`, `V value`, `T` or `NIL`, `L k` then ` edge:node` for each, `R number`."
-- Document 02, request 2: the name that C or D returns has the number of tuples added or removed behind it.
use Rattle.std.specs.Prelude.{Bool, true, false, Result, List, [], ◌∷◌, ◌++◌, ◌≡◌, ℕ, ◌+◌, ◌≤◌, length, drop}
use Rattle.model.specs.declared.Answer.{Answer}
use Rattle.model.specs.declared.Pair.{Pair}
use Rattle.model.specs.declared.Refusal.{Refusal}
use Rattle.model.specs.Numbered.{number_of}
use Rattle.model.specs.Pairs.{edge_of, node_of}
use Rattle.model.specs.OneCall.{list_count}
use Rattle.model.specs.Steps.{Reply, refusal, name, added, removed, valued, yes_no, pairs}
use Rattle.text.specs.Bytes.{Text, line_feed, blank, hyphen, plus_sign, equals_sign, colon, written, I, L, N, R, T, «V»}
use Rattle.text.specs.Numerals.{printed_number}
use Rattle.print.specs.declared.line.Line.{Line}

-- a sign, a blank and a number
abbrev pub signed : ℕ → ℕ → Text
signed sign x = sign ∷ blank ∷ printed_number x

-- request 2: "prints it as `= 1 +2` or `= 1 -5`, with `+0` or `-0` for none"; what stands behind the name
abbrev pub change : ℕ → ℕ → Text
change sign k = blank ∷ sign ∷ printed_number k

-- "`T` or `NIL`"
unfoldable pub yes_or_no : Bool → Text
yes_or_no true = T ∷ []
yes_or_no false = N ∷ I ∷ L ∷ []

-- "` edge:node`"
unfoldable pub entry_text : Pair → Text
entry_text p = blank ∷ (printed_number (edge_of p) ++ (colon ∷ printed_number (node_of p)))

-- ".. for each"
unfoldable pub entries_text : List Pair → Text
entries_text [] = []
entries_text (p ∷ ps) = entry_text p ++ entries_text ps

-- "`= name`, `V value`, `T` or `NIL`, `L k` then ` edge:node` for each, `R number`"
unfoldable pub answer_text : Reply → Text
answer_text (refusal condition) = signed R (number_of condition)
answer_text (name x) = signed equals_sign x
answer_text (added x k) = signed equals_sign x ++ change plus_sign k
answer_text (removed x k) = signed equals_sign x ++ change hyphen k
answer_text (valued v) = signed «V» v
answer_text (yes_no b) = yes_or_no b
answer_text (pairs k ps) = signed L k ++ entries_text ps

-- "Output, a line each": with its line feed
unfoldable pub answer_line : Reply → Text
answer_line r = answer_text r ++ (line_feed ∷ [])

-- a bound for the bytes of any line: `L 2048`, 2,048 entries of at most 12 bytes, a line feed
abbrev pub most_line : ℕ
most_line = 24583

-- lent bytes have room for a text from a place on
abbrev pub Fits : Text → Text → ℕ → Type 0
Fits bs out at = at + length bs ≤ length out

-- a text put into lent bytes from a place on: the place behind it, and what the bytes hold
pub record Put (bs : Text) (out : Text) (at : ℕ) (end : ℕ) (out' : Text) : Type 0 where
  pub place : end ≡ at + length bs
  pub bytes : out' ≡ written out at bs

-- a text put at the front of lent bytes: how many bytes it has, and what the lent bytes hold
pub record AtFront (bs : Text) (out : Text) (count : ℕ) (out' : Text) : Type 0 where
  pub size : count ≡ length bs
  pub bytes : out' ≡ bs ++ drop (length bs) out

-- what printing an answer asks: its text fits, its entries stand in the list, and their count is a number of 32 bits
pub record Printable (text : Text) (a : Result Answer Refusal) (list : List ℕ) (out : Text) (at : ℕ) : Type 0 where
  pub room : Fits text out at
  pub held : list_count a ≤ length list
  pub counted : list_count a ≤ 4294967295

-- there is room for a text in a line's bytes
abbrev pub Room : Text → Line → Type 0
Room bs l = Fits bs l.out.now l.at

-- a text put behind what a line has: its bytes are the same lent ones
pub record Adds (bs : Text) (l l' : Line) : Type 0 where
  pub lent : l'.out.ghost_name ≡ l.out.ghost_name
  pub put : Put bs l.out.now l.at l'.at l'.out.now
