-- The score of a position (document 01, "The score"). Definitions only.
use Rattle.std.specs.Prelude.{List, ℕ, ℤ}
use Rattle.refusal.specs.Answer.{Answer, given, refused}
use Rattle.position.specs.Checked.{checked}
use Rattle.position.specs.declared.State.{State}
use Rattle.attack.specs.Attacks.{other}
use Rattle.score_taper.specs.Parts.{points_of}
use Rattle.score_material.specs.Pieces.{pieces}
use Rattle.score_material.specs.Material.{material}
use Rattle.score_tally.specs.Mobility.{mobility_sum}
use Rattle.score_tally.specs.Weights.{weight_sum}
use Rattle.score_tally.specs.Sides.{side_of}
use Rattle.score_verdict.specs.Verdict.{Verdict, lost, won, drawn, none, to_move, verdict_of}

-- what a call that scores may give
pub data Outcome : Type 0 where
  verdict : Verdict → Outcome
  score : ℤ → Outcome

-- "SCORE is given exactly if no verdict applies and ..": a verdict that applies comes first
abbrev pub verdict_first : Verdict → Answer ℤ → Answer Outcome
verdict_first lost points = given (verdict lost)
verdict_first won points = given (verdict won)
verdict_first drawn points = given (verdict drawn)
verdict_first none (refused number beside) = refused number beside
verdict_first none (given z) = given (score z)

-- the score of own less other
abbrev pub points_for : List ℕ → ℕ → Answer ℤ
points_for bbs side = points_of (side_of bbs (to_move side)) (side_of bbs (other side)) (pieces bbs)

unfoldable pub score_of : List ℕ → State → Answer Outcome
unfolding verdict_of weight_sum material mobility_sum pieces
score_of bbs state = verdict_first (verdict_of bbs state.side) (points_for bbs state.side)

-- the door: "Score ..: 1, 2, 3"
unfoldable pub eval_of : List ℕ → List ℕ → State → Answer Outcome
unfolding checked score_of
eval_of bbs bytes state = checked bbs bytes state (score_of bbs state)
