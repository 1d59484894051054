-- What the door answers, refusals in document 01's order ("Other attacks ..: 1, 2, 4, as far as they take such inputs"; it takes no position, so 1 and 4), and
-- the code's answers on the paper. Definitions only.
use Rattle.std.specs.Prelude.{ℕ, ltb}
use Rattle.refusal.specs.Answer.{Answer, or_refuse}
use Rattle.chess.specs.Codes.{is_piece, kind_of, colour_of}
use Rattle.refusal.specs.declared.Refusal.TheVariants as R
use Rattle.bits.specs.Answers.{on_board}
use Rattle.attack.specs.Attacks.{attacks}

-- SHAPE: "piece code not 2 to 13", then SQUARE
abbrev pub piece_attacks_of : ℕ → ℕ → ℕ → Answer ℕ
piece_attacks_of code s occ = or_refuse (is_piece code) R.Shape (on_board s (attacks (kind_of code) (colour_of code) s occ))

-- SHAPE: "side or colour not 0 or 1"; of the doors above that name a colour
abbrev pub with_colour : {A : Type 0} → ℕ → Answer A → Answer A
with_colour colour rest = or_refuse (ltb colour 2) R.Shape rest

-- ---- the code's answers on the paper
