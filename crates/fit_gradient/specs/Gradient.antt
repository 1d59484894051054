-- One line's part of the gradient, by document 02, W-211: "The gradient is summed in line order from traces and one coefficient a line that
-- the caller supplies, with the arithmetic of `compute_gradient`", one rounding for each operation, in its order. Definitions only.
use Rattle.std.specs.Prelude.{cond, List, [], ◌∷◌, ℕ, zero, suc, ◌+◌, eqb, ℤ, pos, nat_abs, ◌-ℤ◌, get_or, set, Float}
use Rattle.std.specs.Float.{nan}
use Rattle.places.specs.Places.{weight_place, kind_at, square_at, colour_at}
use Rattle.doubles.specs.Doubles.{◌⊕◌, ◌⊖◌, ◌⊗◌, ◌⊘◌, dbl, d1, minus1, d2, d10, d32}
use Rattle.trace_named.specs.Named.{attacked_in}
use Rattle.trace_counts.specs.declared.Trace.{Trace}

-- gradient[i] += part
abbrev pub raised : List Float → ℕ → Float → List Float
raised g i part = set g i (get_or g i nan ⊕ part)

-- ---- the eleven weights that have a name
-- coefficient * (white - black)
abbrev pub count_part : Float → List ℤ → Float
count_part c counts = c ⊗ dbl (get_or counts 0 (pos 0) -ℤ get_or counts 1 (pos 0))

-- coefficient * (white - black) / 10
abbrev pub mobility_part : Float → ℤ → ℤ → Float
mobility_part c white black = c ⊗ dbl (white -ℤ black) ⊘ d10

-- P, N, B, R, Q, BP, the mobility of knight, bishop, rook and queen, T
abbrev pub named_parts : Trace → Float → List Float
named_parts t c =
    count_part c t.pawns ∷ count_part c t.knights ∷ count_part c t.bishops ∷ count_part c t.rooks ∷ count_part c t.queens
    ∷ count_part c t.bishop_pair
    ∷ mobility_part c (attacked_in t 1 0) (attacked_in t 1 1) ∷ mobility_part c (attacked_in t 2 0) (attacked_in t 2 1)
    ∷ mobility_part c (attacked_in t 3 0) (attacked_in t 3 1) ∷ mobility_part c (attacked_in t 4 0) (attacked_in t 4 1)
    ∷ (c ⊗ dbl t.side) ∷ []

-- the first n places, each by its part
unfoldable pub first_raised : List Float → List Float → ℕ → List Float
first_raised parts g zero = g
first_raised parts g (suc n) = raised (first_raised parts g n) n (get_or parts n nan)

-- ---- the 768 square weights
-- sign = 1 for White, -1 for Black
abbrev pub sign_at : ℕ → Float
sign_at k = cond (eqb (colour_at k) 0) d1 minus1

-- coefficient * sign * count * (x1 - x) / (x1 - x0)
abbrev pub opening_part : Float → Float → Float → Float → Float
opening_part c sign count x = c ⊗ sign ⊗ count ⊗ (d2 ⊖ x) ⊘ (d2 ⊖ d32)

-- coefficient * sign * count * (x - x0) / (x1 - x0)
abbrev pub ending_part : Float → Float → Float → Float → Float
ending_part c sign count x = c ⊗ sign ⊗ count ⊗ (x ⊖ d32) ⊘ (d2 ⊖ d32)

-- the place of the entry's weight in a phase: the square weights stand after the eleven
abbrev pub place_at : ℕ → ℕ → ℕ
place_at phase k = 11 + weight_place (kind_at k) phase (square_at k)

-- the entry at k: nothing where it is 0
unfoldable pub entry_raised : Float → Float → List Float → ℕ → ℤ → List Float
entry_raised c x g k entry =
    let o : List Float = raised g (place_at 0 k) (opening_part c (sign_at k) (dbl entry) x) in
    cond (eqb (nat_abs entry) 0) g (raised o (place_at 1 k) (ending_part c (sign_at k) (dbl entry) x))

-- the first n entries, in the order of their places: by kind, by square, White before Black
unfoldable pub squares_raised : Float → Float → List ℤ → List Float → ℕ → List Float
unfolding entry_raised
squares_raised c x entries g zero = g
squares_raised c x entries g (suc n) = entry_raised c x (squares_raised c x entries g n) n (get_or entries n (pos 0))

-- ---- the line
unfoldable pub line_added : Trace → List ℤ → Float → List Float → List Float
unfolding first_raised squares_raised
line_added t entries c g = squares_raised c (dbl t.piece_count) entries (first_raised (named_parts t c) g 11) 768
