use mathlib.Core.Path.{refl}
use Rattle.text.specs.Bytes.{same_text, B, C, «V», X}
use Rattle.letters.specs.OperatorWords.{operator_words, number_from, operator_number}
use Rattle.letters.proofs.LookUp.{number_of_word, first_told, begins_with, no_empty, no_first}
use Rattle.letters.proofs.operator_number.Goals as goal

pub returns-then-word-eq0 : goal.returns-then-word-eq0
returns-then-word-eq0 c = search no_empty

pub destroy_number-requires : goal.destroy_number-requires
destroy_number-requires c = search begins_with

pub list_number-requires : goal.list_number-requires
list_number-requires c = search begins_with

pub returns-in-67 : goal.returns-in-67
unfolding number_of_word operator_words number_from operator_number same_text
returns-in-67 c = first_told C _ (λ w. refl) _ _ c.number_among.ensures c.if-word-eq0.false c.in-67.is

pub returns-in-66 : goal.returns-in-66
unfolding number_of_word operator_words number_from operator_number same_text
returns-in-66 c = first_told B _ (λ w. refl) _ _ c.number_among-in-66.ensures c.if-word-eq0.false c.in-66.is

pub returns-in-86 : goal.returns-in-86
unfolding number_of_word operator_words number_from operator_number same_text
returns-in-86 c = first_told «V» _ (λ w. refl) _ _ c.number_among-in-86.ensures c.if-word-eq0.false c.in-86.is

pub returns-in-88 : goal.returns-in-88
unfolding number_of_word operator_words number_from operator_number same_text
returns-in-88 c = first_told X _ (λ w. refl) _ _ c.number_among-in-88.ensures c.if-word-eq0.false c.in-88.is

pub returns-in_default : goal.returns-in_default
returns-in_default c = search no_first
