-- What a piece attacks with the four step tables lent, whatever they hold. Where the tables are `step_tables`, it is the definition of Attacks.
-- Definitions only.
use Rattle.std.specs.Prelude.{List, [], ◌∷◌, ℕ, get_or}
use Rattle.chess.specs.Codes.{as_colour}
use Rattle.bits.specs.Bitboard.{board}
use Rattle.attack_steps.specs.Steps.{step_in}
use Rattle.attack_rays.specs.Rays.{seen}
use Rattle.attack.specs.Attacks.{attacks_by}

-- a pawn's row of the tables: White's first
abbrev pub pawn_row : ℕ → ℕ
pawn_row = as_colour

-- the row of a kind that steps; past the four for one that doesn't, and for a number that is no kind
abbrev pub step_row : ℕ → ℕ → ℕ
step_row kind colour = get_or (pawn_row colour ∷ 2 ∷ 4 ∷ 4 ∷ 4 ∷ 3 ∷ []) kind 4

unfoldable pub attacks_with : List (List ℕ) → ℕ → ℕ → ℕ → ℕ → ℕ
unfolding board seen
attacks_with tables kind colour s occ = attacks_by (step_in tables (pawn_row colour) s) (step_in tables 2 s) (step_in tables 3 s) kind s occ
