use mathlib.Core.Path.{refl}
use Rattle.text.specs.Bytes.{same_text, A, I, O, S, U}
use Rattle.letters.specs.Letters.{begins}
use Rattle.letters.specs.OperatorWords.{operator_words, number_from, operator_number}
use Rattle.letters.proofs.NoOperator.{compared}
use Rattle.letters.proofs.LookUp.{number_of_word, second_told, no_short, no_second}
use Rattle.letters.proofs.list_number.Goals as goal

pub returns-then-word-lt2 : goal.returns-then-word-lt2
returns-then-word-lt2 c = search no_short

pub returns-in-79 : goal.returns-in-79
unfolding number_of_word operator_words number_from operator_number same_text
returns-in-79 c = second_told S O _ (λ w. refl) _ _ c.number_among.ensures c.requires (search) c.in-79.is

pub returns-in-73 : goal.returns-in-73
unfolding number_of_word operator_words number_from operator_number same_text
returns-in-73 c = second_told S I _ (λ w. refl) _ _ c.number_among-in-73.ensures c.requires (search) c.in-73.is

pub returns-in-65 : goal.returns-in-65
unfolding number_of_word operator_words number_from operator_number same_text
returns-in-65 c = second_told S A _ (λ w. refl) _ _ c.number_among-in-65.ensures c.requires (search) c.in-65.is

pub returns-in-85 : goal.returns-in-85
unfolding number_of_word operator_words number_from operator_number same_text
returns-in-85 c = second_told S U _ (λ w. refl) _ _ c.number_among-in-85.ensures c.requires (search) c.in-85.is

pub returns-in_default : goal.returns-in_default
unfolding operator_words begins
returns-in_default c = search (no_second, compared)
