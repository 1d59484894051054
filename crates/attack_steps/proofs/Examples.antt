-- Worked examples of the rule, by computation. Assumes nothing.
use mathlib.Core.Path.{◌≡◌, refl}
use mathlib.Core.List.{[], ◌∷◌}
use Rattle.bits.specs.Bitboard.{squares}
use Rattle.attack_steps.specs.Steps.{reached, knight_steps, king_steps, pawn_steps}

-- a knight on a1 attacks c2 and b3, a king on h8 attacks g7, h7 and g8
corners : squares (reached knight_steps 0) ∷ squares (reached king_steps 63) ∷ [] ≡ (10 ∷ 17 ∷ []) ∷ (54 ∷ 55 ∷ 62 ∷ []) ∷ []
unfolding reached squares
corners = refl

-- pawns on e4 and a2: White's attack d5 and f5, and b3; Black's attack d3 and f3, and b1; none attacks from the last rank
pawns : squares (reached (pawn_steps 0) 28) ∷ squares (reached (pawn_steps 0) 8) ∷ squares (reached (pawn_steps 0) 60) ∷ []
    ≡ (35 ∷ 37 ∷ []) ∷ (17 ∷ []) ∷ [] ∷ []
unfolding reached squares
pawns = refl

black_pawns : squares (reached (pawn_steps 1) 28) ∷ squares (reached (pawn_steps 1) 8) ∷ squares (reached (pawn_steps 1) 4) ∷ []
    ≡ (19 ∷ 21 ∷ []) ∷ (1 ∷ []) ∷ [] ∷ []
unfolding reached squares
black_pawns = refl

-- a square past h8 leads nowhere
beyond : reached king_steps 64 ∷ reached knight_steps 72 ∷ [] ≡ 0 ∷ 0 ∷ []
unfolding reached
beyond = refl
