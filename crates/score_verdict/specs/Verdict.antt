-- Verdicts (document 01, "Verdicts first"). Definitions only.
use Rattle.std.specs.Prelude.{Bool, cond, ◌&&◌, List, ℕ, ◌+◌, eqb, ltb}
use Rattle.refusal.specs.Answer.{Answer, given}
use Rattle.chess.specs.Codes.{as_colour}
use Rattle.chess.specs.Named.{white, black, pawn, rook, queen, king}
use Rattle.position.specs.Checked.{checked}
use Rattle.position.specs.declared.State.{State}
use Rattle.score_material.specs.Pieces.{count, pieces}

pub data Verdict : Type 0 where
  lost won drawn none : Verdict

-- the colour to move; any side but White's counts as Black's
abbrev pub to_move : ℕ → ℕ
to_move = as_colour

-- "fewer than two kings in all"
unfoldable pub few_kings : List ℕ → Bool
unfolding count
few_kings bbs = ltb (count bbs king white + count bbs king black) 2

-- "only kings, knights and bishops": no pawn, no rook, no queen
unfoldable pub heavy : List ℕ → ℕ
unfolding count
heavy bbs =
    count bbs pawn white + count bbs pawn black
    + (count bbs rook white + count bbs rook black)
    + (count bbs queen white + count bbs queen black)

-- "fewer than four pieces and only kings, knights and bishops"
unfoldable pub bare : List ℕ → Bool
unfolding pieces heavy
bare bbs = ltb (pieces bbs) 4 && eqb (heavy bbs) 0

-- "With fewer than two kings in all: lost if the side to move has no king, else won. Otherwise, with ..: drawn"
unfoldable pub verdict_of : List ℕ → ℕ → Verdict
unfolding few_kings bare count
verdict_of bbs side =
    let own : ℕ = count bbs king (to_move side) in
    cond (few_kings bbs) (cond (eqb own 0) lost won) (cond (bare bbs) drawn none)

-- the door: "Verdict ..: 1, 2"
unfoldable pub ending_of : List ℕ → List ℕ → State → Answer Verdict
unfolding checked verdict_of
ending_of bbs bytes state = checked bbs bytes state (given (verdict_of bbs state.side))
