-- A worked example of the words of calls and answers, by computation: CUS 9; CUN 7 9; BUN 7 3 9; XUN 7 9; SUS with a list of three places; VUN 7 9;
-- a number that is no operator; VUN 7 with nothing as its space; CUN 8 9; COP 7 5 8 9; BUN 7 NIL 9, with a v that has no effect; VUN 7 9, its space by the form 3;
-- DUN 7; and CUN with a number that is no name. A last word that is no whole call is not read.
use mathlib.Core.List.{List, [], ◌∷◌}
use mathlib.Core.Path.{◌≡◌, refl}
use Prim.Native.Nat.{ℕ}
use Rattle.model.specs.Tuples.{fresh}
use Rattle.model.specs.CallLists.{CallMade}
use Rattle.model.specs.OneCall.{answer_of, pack, list_after}
use Rattle.model.proofs.Cases.{computed}
use Rattle.model.specs.Numbered.{number_of}
use Rattle.run.specs.Words.{name_in, value_of_form, space_of_form, call_of, call_words, calls_from, calls_in, kind_of, first_of, second_of}
use Rattle.run.specs.Runs.{call_made, calls_made, answers_after, lists_after}

abbrev example_calls : List ℕ
example_calls =
    51 ∷ 0 ∷ 0 ∷ 0 ∷ 0 ∷ 0 ∷ 1 ∷ 9 ∷ 0
    ∷ 45 ∷ 7 ∷ 0 ∷ 0 ∷ 0 ∷ 0 ∷ 1 ∷ 9 ∷ 0
    ∷ 46 ∷ 7 ∷ 0 ∷ 0 ∷ 1 ∷ 3 ∷ 1 ∷ 9 ∷ 0
    ∷ 48 ∷ 7 ∷ 0 ∷ 0 ∷ 0 ∷ 0 ∷ 1 ∷ 9 ∷ 0
    ∷ 56 ∷ 0 ∷ 0 ∷ 0 ∷ 0 ∷ 0 ∷ 0 ∷ 0 ∷ 3
    ∷ 47 ∷ 7 ∷ 0 ∷ 0 ∷ 0 ∷ 0 ∷ 1 ∷ 9 ∷ 0
    ∷ 58 ∷ 0 ∷ 0 ∷ 0 ∷ 0 ∷ 0 ∷ 0 ∷ 0 ∷ 0
    ∷ 47 ∷ 7 ∷ 0 ∷ 0 ∷ 0 ∷ 0 ∷ 2 ∷ 9 ∷ 0
    ∷ 45 ∷ 8 ∷ 0 ∷ 0 ∷ 0 ∷ 0 ∷ 1 ∷ 9 ∷ 0
    ∷ 1 ∷ 7 ∷ 5 ∷ 8 ∷ 0 ∷ 0 ∷ 1 ∷ 9 ∷ 0
    ∷ 46 ∷ 7 ∷ 0 ∷ 0 ∷ 0 ∷ 4 ∷ 1 ∷ 9 ∷ 0
    ∷ 47 ∷ 7 ∷ 0 ∷ 0 ∷ 0 ∷ 0 ∷ 3 ∷ 9 ∷ 0
    ∷ 49 ∷ 7 ∷ 0 ∷ 0 ∷ 0 ∷ 0 ∷ 0 ∷ 0 ∷ 0
    ∷ 45 ∷ 65543 ∷ 0 ∷ 0 ∷ 0 ∷ 0 ∷ 0 ∷ 0 ∷ 0
    ∷ 45
    ∷ []

abbrev example_lists : List ℕ
example_lists = 71 ∷ 72 ∷ 73 ∷ 74 ∷ []

abbrev example_made : List CallMade
example_made = calls_made 10 fresh (calls_in example_calls) example_lists

pub example_answers : answers_after example_made
    (20 ∷ 21 ∷ 22 ∷ 23 ∷ 24 ∷ 25 ∷ 26 ∷ 27 ∷ 28 ∷ 29 ∷ 30 ∷ 31 ∷ 32 ∷ 33 ∷ 34 ∷ 35 ∷ 36 ∷ 37 ∷ 38 ∷ 39 ∷ 40 ∷ 41 ∷ 42 ∷ 43 ∷ 44 ∷ 45 ∷ 46 ∷ 47 ∷ 48 ∷ 49
    ∷ 50 ∷ 51 ∷ 52 ∷ 53 ∷ 54 ∷ 55 ∷ 56 ∷ 57 ∷ 58 ∷ 59 ∷ 60 ∷ 61 ∷ 62 ∷ [])
    ≡ 6 ∷ 9 ∷ 1
    ∷ 6 ∷ 7 ∷ 2
    ∷ 1 ∷ 7 ∷ 0
    ∷ 3 ∷ 1 ∷ 0
    ∷ 4 ∷ 2 ∷ 0
    ∷ 2 ∷ 3 ∷ 1
    ∷ 0 ∷ 2 ∷ 0
    ∷ 0 ∷ 12 ∷ 0
    ∷ 6 ∷ 8 ∷ 2
    ∷ 6 ∷ 7 ∷ 2
    ∷ 1 ∷ 7 ∷ 0
    ∷ 2 ∷ 0 ∷ 0
    ∷ 7 ∷ 7 ∷ 4
    ∷ 0 ∷ 3 ∷ 0
    ∷ 62
    ∷ []
unfolding computed answer_of number_of pack list_after name_in value_of_form space_of_form call_of call_words calls_from calls_in kind_of first_of second_of call_made calls_made answers_after
example_answers = refl

pub example_lists_lem : lists_after example_made example_lists ≡ 0 ∷ 9 ∷ 73 ∷ 74 ∷ []
unfolding computed answer_of pack list_after name_in value_of_form space_of_form call_of call_words calls_from calls_in call_made calls_made lists_after
example_lists_lem = refl
