-- Worked examples of the definitions, by computation. Assumes nothing.
use mathlib.Core.Path.{◌≡◌, refl}
use mathlib.Core.List.{[], ◌∷◌}
use Rattle.text_in.specs.Text.{text}
use Rattle.replay_question.specs.Question.{leading_number, numbers_of_rule, slashed, position_of}

-- the largest number of 64 bits; one that would pass it stays where it was; a number below zero as its 64 bits
bounds : leading_number (text "18446744073709551615 1") ∷ leading_number (text "18446744073709551616") ∷ leading_number (text "-1")
    ∷ leading_number (text "-0") ∷ leading_number [] ∷ [] ≡ 18446744073709551615 ∷ 1844674407370955161 ∷ 18446744073709551615 ∷ 0 ∷ 0 ∷ []
unfolding leading_number
bounds = refl

-- the numbers after the word, and 0 where there is none
listed : numbers_of_rule (text "odd 25 -1 5 7 9") ≡ 25 ∷ 18446744073709551615 ∷ 5 ∷ 7 ∷ 9 ∷ []
unfolding numbers_of_rule
listed = refl

fewer : numbers_of_rule (text "shift -63 255") ≡ 18446744073709551553 ∷ 255 ∷ 0 ∷ 0 ∷ 0 ∷ []
unfolding numbers_of_rule
fewer = refl

-- the position is all that follows its first part, whatever comes before it
placed : position_of (text "see 4 12 4k3/8/8 w;1-0") ∷ position_of (text "eval 4k3/8/8 w;1/2-1/2") ∷ position_of (text "count 1") ∷ []
    ≡ text "4k3/8/8 w;1-0" ∷ text "4k3/8/8 w;1/2-1/2" ∷ text "1" ∷ []
unfolding slashed
placed = refl
