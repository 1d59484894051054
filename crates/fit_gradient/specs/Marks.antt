-- The same for entries that are 0 or 1, as the code goes: of a line's entries there are four parts only, one for each colour and phase.
-- Definitions only.
use Rattle.std.specs.Prelude.{cond, List, ℕ, zero, suc, eqb, ℤ, pos, nat_abs, get_or, Float}
use Rattle.places.specs.Places.{colour_at}
use Rattle.doubles.specs.Doubles.{d1, minus1}
use Rattle.fit_gradient.specs.Gradient.{raised, opening_part, ending_part, place_at}
use Rattle.fit_gradient.specs.declared.Parts.{Parts}

abbrev pub parts_of : Float → Float → Parts
parts_of c x = record {
  white_opening = opening_part c d1 d1 x;
  white_ending = ending_part c d1 d1 x;
  black_opening = opening_part c minus1 d1 x;
  black_ending = ending_part c minus1 d1 x;
}

abbrev pub both_raised : List Float → ℕ → Float → Float → List Float
both_raised g k opening ending = raised (raised g (place_at 0 k) opening) (place_at 1 k) ending

abbrev pub colour_part : ℕ → Float → Float → Float
colour_part k white black = cond (eqb (colour_at k) 0) white black

unfoldable pub marked_by : Parts → List Float → ℕ → ℤ → List Float
marked_by p g k entry =
    cond (eqb (nat_abs entry) 0) g
    (both_raised g k (colour_part k p.white_opening p.black_opening) (colour_part k p.white_ending p.black_ending))

-- the entry at a place
abbrev pub entry_by : Parts → List ℤ → List Float → ℕ → List Float
entry_by p entries g k = marked_by p g k (get_or entries k (pos 0))

unfoldable pub squares_by : Parts → List ℤ → List Float → ℕ → List Float
unfolding marked_by
squares_by p entries g zero = g
squares_by p entries g (suc n) = marked_by p (squares_by p entries g n) n (get_or entries n (pos 0))
