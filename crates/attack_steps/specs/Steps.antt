-- A piece's steps on the board, and the squares that they reach (document 01: "squares reached by the piece's steps without leaving the
-- board"). A square s has file s % 8 and rank s / 8. Definitions only.
use Rattle.std.specs.Prelude.{Bool, false, cond, ◌||◌, ◌&&◌, List, [], ◌∷◌, ℕ, ◌+◌, ◌/◌, ◌%◌, eqb, ltb, get_or}
use Rattle.laws.specs.Tables.{tabulate}
use Rattle.chess.specs.Named.{white}
use Rattle.bits.specs.Bitboard.{those}

-- so many files to the right or to the left, and so many ranks up or down
pub record Step : Type 0 where
  pub right : ℕ
  pub left : ℕ
  pub up : ℕ
  pub down : ℕ

-- the step d leads from square s to square t
unfoldable pub leads : Step → ℕ → ℕ → Bool
leads d s t = eqb (t % 8 + d.left) (s % 8 + d.right) && eqb (t / 8 + d.down) (s / 8 + d.up)

-- one of the steps leads from s to t
unfoldable pub one_leads : List Step → ℕ → ℕ → Bool
unfolding leads
one_leads [] s t = false
one_leads (d ∷ ds) s t = leads d s t || one_leads ds s t

-- the one rule: the squares of the board that the steps reach from s; none from a square above 63
unfoldable pub reached : List Step → ℕ → ℕ
unfolding one_leads those
reached ds s = cond (ltb s 64) (those 64 (λ t. one_leads ds s t)) 0

-- ---- steps by the quarter of the board that they lead to: x files and y ranks
abbrev pub ne : ℕ → ℕ → Step
ne x y = record { right = x; left = 0; up = y; down = 0 }

abbrev pub nw : ℕ → ℕ → Step
nw x y = record { right = 0; left = x; up = y; down = 0 }

abbrev pub se : ℕ → ℕ → Step
se x y = record { right = x; left = 0; up = 0; down = y }

abbrev pub sw : ℕ → ℕ → Step
sw x y = record { right = 0; left = x; up = 0; down = y }

-- ---- the pieces that step: "Knight, king, white-pawn and black-pawn steps"
abbrev pub knight_steps : List Step
knight_steps = ne 1 2 ∷ ne 2 1 ∷ nw 1 2 ∷ nw 2 1 ∷ se 1 2 ∷ se 2 1 ∷ sw 1 2 ∷ sw 2 1 ∷ []

abbrev pub king_steps : List Step
king_steps = ne 1 0 ∷ ne 1 1 ∷ ne 0 1 ∷ nw 1 1 ∷ nw 1 0 ∷ sw 1 1 ∷ se 0 1 ∷ se 1 1 ∷ []

-- "A pawn's attack ignores who is there": up the board for White, down for Black
abbrev pub white_pawn_steps : List Step
white_pawn_steps = nw 1 1 ∷ ne 1 1 ∷ []

abbrev pub black_pawn_steps : List Step
black_pawn_steps = sw 1 1 ∷ se 1 1 ∷ []

abbrev pub pawn_steps : ℕ → List Step
pawn_steps colour = cond (eqb colour white) white_pawn_steps black_pawn_steps

-- ---- "the four fixed step tables of 64 entries", in the order white pawn, black pawn, knight, king
unfoldable pub step_table : List Step → List ℕ
unfolding reached tabulate
step_table ds = tabulate 64 (reached ds)

abbrev pub step_tables : List (List ℕ)
step_tables = step_table white_pawn_steps ∷ step_table black_pawn_steps ∷ step_table knight_steps ∷ step_table king_steps ∷ []

-- the steps of a table; a row past the fourth has none
abbrev pub steps_of : ℕ → List Step
steps_of row = get_or (white_pawn_steps ∷ black_pawn_steps ∷ knight_steps ∷ king_steps ∷ []) row []

-- an entry of four tables that are lent, whatever they hold; 0 past their ends
abbrev pub step_in : List (List ℕ) → ℕ → ℕ → ℕ
step_in tables row s = cond (ltb s 64 && ltb row 4) (get_or (get_or tables row []) s 0) 0
