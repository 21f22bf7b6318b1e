-- Lines of document 01's example, and the numbers at the limits, as theorems of the definitions.
use mathlib.Core.Bool.{true, false}
use mathlib.Core.List.{[], ◌∷◌}
use mathlib.Core.Path.{◌≡◌, refl}
use Rattle.model.specs.Pairs.{pair}
use Rattle.model.specs.declared.Refusal.TheVariants.{SecondAbsent, Unreadable}
use Rattle.model.specs.Numbered.{number_of}
use Rattle.model.specs.Steps.{refusal, name, added, removed, valued, yes_no, pairs}
use Rattle.text.specs.Bytes.{line_feed, blank, hyphen, plus_sign, equals_sign, colon, I, L, N, R, T, «V»}
use Rattle.text.specs.Numerals.{printed_number, printed_in}
use Rattle.print.specs.Answers.{yes_or_no, entry_text, entries_text, answer_text, answer_line}

pub record Examples : Type 0 where
  -- "BOP 1 5 2 60": "= 1"
  pub a_name : answer_line (name 1) ≡ equals_sign ∷ blank ∷ 49 ∷ line_feed ∷ []
  -- request 2: "`= 1 +2` or `= 1 -5`, with `+0` or `-0` for none"
  pub two_added : answer_line (added 1 2) ≡ equals_sign ∷ blank ∷ 49 ∷ blank ∷ plus_sign ∷ 50 ∷ line_feed ∷ []
  pub five_removed : answer_line (removed 1 5) ≡ equals_sign ∷ blank ∷ 49 ∷ blank ∷ hyphen ∷ 53 ∷ line_feed ∷ []
  pub none_added : answer_line (added 1 0) ≡ equals_sign ∷ blank ∷ 49 ∷ blank ∷ plus_sign ∷ 48 ∷ line_feed ∷ []
  pub none_removed : answer_line (removed 1 0) ≡ equals_sign ∷ blank ∷ 49 ∷ blank ∷ hyphen ∷ 48 ∷ line_feed ∷ []
  -- "VOP 1 5 2": "V 60"
  pub a_value : answer_line (valued 60) ≡ «V» ∷ blank ∷ 54 ∷ 48 ∷ line_feed ∷ []
  -- "XUN 1 9": "NIL"
  pub a_no : answer_line (yes_no false) ≡ N ∷ I ∷ L ∷ line_feed ∷ []
  pub a_yes : answer_line (yes_no true) ≡ T ∷ line_feed ∷ []
  -- "SUN 9": "L 0"
  pub no_entries : answer_line (pairs 0 []) ≡ L ∷ blank ∷ 48 ∷ line_feed ∷ []
  -- "SUN": "L 2 0:1 0:2"
  pub two_entries :
      answer_line (pairs 2 (pair 0 1 ∷ pair 0 2 ∷ []))
      ≡ L ∷ blank ∷ 50 ∷ blank ∷ 48 ∷ colon ∷ 49 ∷ blank ∷ 48 ∷ colon ∷ 50 ∷ line_feed ∷ []
  -- "COP 1 5 2 9": "R 7"
  pub a_refusal : answer_line (refusal SecondAbsent) ≡ R ∷ blank ∷ 55 ∷ line_feed ∷ []
  -- a line that does not read as a call: "R 11"
  pub an_unreadable_line : answer_line (refusal Unreadable) ≡ R ∷ blank ∷ 49 ∷ 49 ∷ line_feed ∷ []
  -- an entry's edge comes first
  pub an_entry : entry_text (pair 5 12) ≡ blank ∷ 53 ∷ colon ∷ 49 ∷ 50 ∷ []
  -- the largest name and the largest value
  pub largest_name : printed_number 65535 ≡ 54 ∷ 53 ∷ 53 ∷ 51 ∷ 53 ∷ []
  pub largest_value : printed_number 4294967295 ≡ 52 ∷ 50 ∷ 57 ∷ 52 ∷ 57 ∷ 54 ∷ 55 ∷ 50 ∷ 57 ∷ 53 ∷ []

pub examples : Examples
unfolding number_of printed_number printed_in yes_or_no entry_text entries_text answer_text answer_line
examples =
    record {
      a_name = refl;
      two_added = refl;
      five_removed = refl;
      none_added = refl;
      none_removed = refl;
      a_value = refl;
      a_no = refl;
      a_yes = refl;
      no_entries = refl;
      two_entries = refl;
      a_refusal = refl;
      an_unreadable_line = refl;
      an_entry = refl;
      largest_name = refl;
      largest_value = refl;
    }
