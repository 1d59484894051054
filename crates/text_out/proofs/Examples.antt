-- Worked examples of the definitions, by computation. Assumes nothing.
use mathlib.Core.Path.{◌≡◌, refl}
use mathlib.Core.List.{[], ◌∷◌}
use Prim.Native.Nat.{◌-◌, ◌^◌}
use lib.IntN.{pos, negsuc}
use lib.ListN.{length}
use Rattle.text_out.specs.Text.{digits_up_to, decimal_of, signed_of, written_of, place_of}

-- 0, 10, and the largest number of 64 bits
digits : decimal_of 0 ∷ decimal_of 10 ∷ [] ≡ (48 ∷ []) ∷ (49 ∷ 48 ∷ []) ∷ []
unfolding digits_up_to
digits = refl

most : length (decimal_of (2 ^ 64 - 1)) ≡ 20
unfolding digits_up_to
most = refl

-- −95 and 117
signs : signed_of (negsuc 94) ∷ signed_of (pos 117) ∷ [] ≡ (45 ∷ 57 ∷ 53 ∷ []) ∷ (49 ∷ 49 ∷ 55 ∷ []) ∷ []
unfolding digits_up_to
signs = refl

-- two bytes put at 1 into four, and into two, where they have no room
fits : written_of (0 ∷ 0 ∷ 0 ∷ 7 ∷ []) 1 (5 ∷ 6 ∷ []) ≡ 0 ∷ 5 ∷ 6 ∷ 7 ∷ []
fits = refl

full : place_of (0 ∷ 0 ∷ []) 1 (5 ∷ 6 ∷ []) ≡ []
full = refl
