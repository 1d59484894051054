-- What a piece attacks (document 01, "Steps, rays and square weights"; the source's `piece_attacks`). A colour is 0 for White, any other number counts as
-- Black. Definitions only.
use Rattle.std.specs.Prelude.{cond, ◌||◌, List, [], ◌∷◌, ◌++◌, ℕ, eqb, get_or}
use Rattle.chess.specs.Codes.{code_of}
use Rattle.chess.specs.Named.{white, black}
use Rattle.bits.specs.Bitboard.{has, those, board}
use Rattle.attack_steps.specs.Steps.{reached, knight_steps, king_steps, pawn_steps}
use Rattle.attack_rays.specs.Rays.{seen, straight, slanted}

-- ---- what stands where
-- the bitboard of a kind and a colour
abbrev pub standing : List ℕ → ℕ → ℕ → ℕ
standing bbs kind colour = get_or bbs (code_of kind colour) 0

-- "an occupancy of both sides"
unfoldable pub occupied : List ℕ → ℕ
unfolding those has
occupied bbs = those 64 (λ k. has (get_or bbs 0 0) k || has (get_or bbs 1 0) k)

abbrev pub other : ℕ → ℕ
other colour = cond (eqb colour white) black white

-- ---- what a piece attacks
-- "Kinds run 0 to 5: pawn, knight, bishop, rook, queen, king": the squares that a kind attacks from s, given those that the steps of pawn, knight
-- and king reach; a number past the kinds attacks nothing
abbrev pub attacks_by : ℕ → ℕ → ℕ → ℕ → ℕ → ℕ → ℕ
attacks_by pawn knight king kind s occ =
    get_or
    (pawn
    ∷ knight
    ∷ board (seen slanted s occ)
    ∷ board (seen straight s occ)
    ∷ board (seen (straight ++ slanted) s occ)
    ∷ king
    ∷ []) kind 0

-- the squares that a piece of a kind and a colour on s attacks, where occ is occupied: none from a square above 63
unfoldable pub attacks : ℕ → ℕ → ℕ → ℕ → ℕ
unfolding reached board seen
attacks kind colour s occ = attacks_by (reached (pawn_steps colour) s) (reached knight_steps s) (reached king_steps s) kind s occ
