-- Worked examples of the rule, by computation. Assumes nothing.
use mathlib.Core.Path.{◌≡◌, refl}
use mathlib.Core.Bool.{Bool, true, false}
use mathlib.Core.List.{List, [], ◌∷◌}
use Prim.Native.Nat.{ℕ}
use lib.ListN.{set, replicate}
use Rattle.chess.specs.Codes.{code_of}
use Rattle.chess.specs.Named.{white, black, pawn, rook, king}
use Rattle.position_further.specs.Rule.{empty_square, home, at_home, just_passed, counters_fit}
use Rattle.position_further.specs.declared.Rights.{Rights}
use Rattle.std.specs.Prelude.{None, Some}

abbrev bare : List ℕ
bare = replicate 64 empty_square

-- kings e1 and e8, and a rook of this colour on this square
abbrev rook_on : ℕ → ℕ → List ℕ
rook_on colour s = set (set (set bare 4 (code_of king white)) 60 (code_of king black)) s (code_of rook colour)

abbrev right : Bool → Bool → Bool → Bool → Rights
right short long black-short black-long =
    record { white_short = short; white_long = long; black_short = black-short; black_long = black-long }

-- no right, on a bare board; K with the rook h1, with a1, with none at home; Q with a1; k with h8, with h1; q with a8; K with a black rook h1
rights : List Bool
unfolding at_home home
rights =
    at_home bare (right false false false false) ∷ at_home (rook_on white 7) (right true false false false)
    ∷ at_home (rook_on white 0) (right true false false false)
    ∷ at_home (rook_on white 8) (right true false false false) ∷ at_home (rook_on white 0) (right false true false false)
    ∷ at_home (rook_on black 63) (right false false true false) ∷ at_home (rook_on black 7) (right false false true false)
    ∷ at_home (rook_on black 56) (right false false false true) ∷ at_home (rook_on black 7) (right true false false false) ∷ []

rights_are : rights ≡ true ∷ true ∷ false ∷ false ∷ true ∷ true ∷ false ∷ true ∷ false ∷ []
unfolding rights
rights_are = refl

-- a pawn of this colour on this square
abbrev pawn_on : ℕ → ℕ → List ℕ
pawn_on colour s = set bare s (code_of pawn colour)

-- no square; White to move: e6 over a black pawn e5, over a white one, under a black pawn e7, e5 over e4, e6 with the pawn on it; the square 64
-- Black to move: e3 under a white pawn e4; White to move: the same
squares : List Bool
unfolding just_passed
squares =
    just_passed bare white None ∷ just_passed (pawn_on black 36) white (Some 44) ∷ just_passed (pawn_on white 36) white (Some 44)
    ∷ just_passed (pawn_on black 52) white (Some 44)
    ∷ just_passed (pawn_on black 28) white (Some 36) ∷ just_passed (set (pawn_on black 36) 44 (code_of pawn black)) white (Some 44) ∷ just_passed bare white (Some 64)
    ∷ just_passed (pawn_on white 28) black (Some 20) ∷ just_passed (pawn_on white 28) white (Some 20) ∷ []

squares_are : squares ≡ true ∷ true ∷ false ∷ false ∷ false ∷ false ∷ false ∷ true ∷ false ∷ []
unfolding squares
squares_are = refl

counters : List Bool
counters = counters_fit 0 1 ∷ counters_fit 9999 9999 ∷ counters_fit 10000 1 ∷ counters_fit 0 0 ∷ counters_fit 0 10000 ∷ []

counters_are : counters ≡ true ∷ true ∷ false ∷ false ∷ false ∷ []
unfolding counters
counters_are = refl
