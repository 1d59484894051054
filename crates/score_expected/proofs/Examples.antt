-- Worked examples of the definitions, by computation. Assumes nothing.
use mathlib.Core.Path.{◌≡◌, refl}
use mathlib.Core.List.{[], ◌∷◌}
use lib.IntN.{pos, negsuc}
use Rattle.score_expected.specs.Expected.{entry_of, score_place, table, expected_of}

-- the entries of 0, 4, −4, 328, −328, 1600, −1600: at ±328 a million times t/(1+t) comes nearest to a whole number
entries : entry_of (pos 0) ∷ entry_of (pos 1) ∷ entry_of (negsuc 0) ∷ entry_of (pos 82) ∷ entry_of (negsuc 81) ∷ entry_of (pos 400) ∷ entry_of (negsuc 399) ∷ []
    ≡ 500000 ∷ 505756 ∷ 494243 ∷ 868540 ∷ 131459 ∷ 999900 ∷ 99 ∷ []
unfolding entry_of
entries = refl

-- −1 counts as −4, 3 as 0; −1597 as −1600, 1599 as 1596; −1601 as −1600, 32767 as 1600
places : score_place (negsuc 0) ∷ score_place (pos 3) ∷ score_place (negsuc 1596) ∷ score_place (pos 1599) ∷ score_place (negsuc 1600) ∷ score_place (pos 32767) ∷ []
    ≡ 399 ∷ 400 ∷ 0 ∷ 799 ∷ 0 ∷ 800 ∷ []
places = refl

-- the worked positions of document 01: 117, −95 and 11 for the side to move
expected : expected_of (pos 117) ∷ expected_of (negsuc 94) ∷ expected_of (pos 11) ∷ [] ≡ 660999 ∷ 365256 ∷ 511510 ∷ []
unfolding table
expected = refl
