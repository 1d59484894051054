-- Document 01's starred positions, scores and exchanges: one table, and the claim that the definitions answer each as it says. Definitions only.
use Rattle.std.specs.Prelude.{◌≡◌, List, [], ◌∷◌, map, ℕ, ℤ, pos, negsuc}
use Prim.Native.String.{String}
use Rattle.laws.specs.Tests.{all_below}
use Rattle.laws.specs.Tables.{tabulate}
use Rattle.chess.specs.Named.{white, black}
use Rattle.refusal.specs.Answer.{Answer, given, refused}
use Rattle.bits.specs.Bitboard.{has, those, some, how_many}
use Rattle.position_boards.specs.Boards.{bitboards_of}
use Rattle.position_boards.specs.Sound.{boards_with, of_colour}
use Rattle.position_odds.specs.Odds.{or_odds}
use Rattle.position_further.specs.Rule.{home, at_home, just_passed}
use Rattle.position.specs.Checked.{of_side, checked}
use Rattle.exchange_order.specs.Orders.{order, each_once}
use Rattle.exchange.specs.Exchange.{exchange_of}
use Rattle.exchange_start.specs.Capture.{may_capture, uncrowded}
use Rattle.exchange_start.specs.declared.Mode.TheVariants.{First}
use Rattle.exchange.specs.Answers.{see_of}
use Rattle.claims_examples.specs.Written.{bytes_of, square_named}
use Rattle.score_verdict.specs.Verdict.{lost, won, drawn}
use Rattle.score.specs.Score.{Outcome, verdict, score, eval_of}

-- ---- what is asked of a position: the score of a side to move, or White's exchange from a square to another, by name
pub data Question : Type 0 where
  scored : ℕ → Question
  exchanged : String → String → Question

-- an exchange's value as an outcome
abbrev pub valued : Answer ℤ → Answer Outcome
valued (given z) = given (score z)
valued (refused number beside) = refused number beside

-- what the doors of the score and of the exchange, in document 01's mode and order, answer, refusals and all
unfoldable pub answer_of : String → Question → Answer Outcome
unfolding bytes_of bitboards_of tabulate those has some how_many all_below boards_with of_colour or_odds home at_home just_passed checked eval_of each_once
    may_capture uncrowded exchange_of
answer_of ranks (scored side) = let bytes : List ℕ = bytes_of ranks in eval_of (bitboards_of bytes) bytes (of_side side)
answer_of ranks (exchanged from to) =
    let bytes : List ℕ = bytes_of ranks in
    valued (see_of First order (bitboards_of bytes) bytes (of_side white) (square_named from) (square_named to))

pub record Starred : Type 0 where
  pub ranks : String
  pub asked : Question
  pub outcome : Outcome

abbrev pub star : String → Question → Outcome → Starred
star ranks q o = record { ranks = ranks; asked = q; outcome = o }

-- ---- the table, each position by its FEN's ranks
abbrev pub starred : List Starred
starred =
    -- kings e1, e8, pawn e2
    star "4k3/8/8/8/8/8/4P3/4K3" (scored white) (score (pos 117))
    ∷ star "4k3/8/8/8/8/8/4P3/4K3" (scored black) (score (negsuc 94))
    -- kings e1, e8, white rook a1, White to move
    ∷ star "4k3/8/8/8/8/8/8/R3K3" (scored white) (score (pos 535))
    -- starting position, either side
    ∷ star "rnbqkbnr/pppppppp/8/8/8/8/PPPPPPPP/RNBQKBNR" (scored white) (score (pos 11))
    ∷ star "rnbqkbnr/pppppppp/8/8/8/8/PPPPPPPP/RNBQKBNR" (scored black) (score (pos 11))
    -- empty board, either side; lone white king
    ∷ star "8/8/8/8/8/8/8/8" (scored white) (verdict lost)
    ∷ star "8/8/8/8/8/8/8/8" (scored black) (verdict lost)
    ∷ star "8/8/8/8/8/8/8/4K3" (scored white) (verdict won)
    ∷ star "8/8/8/8/8/8/8/4K3" (scored black) (verdict lost)
    -- two white kings alone, either side
    ∷ star "8/8/8/8/8/8/8/K6K" (scored white) (verdict drawn)
    ∷ star "8/8/8/8/8/8/8/K6K" (scored black) (verdict drawn)
    -- rook e1 takes pawn e5, undefended; defended by pawn d6
    ∷ star "8/8/8/4p3/8/8/8/4R3" (exchanged "e1" "e5") (score (pos 100))
    ∷ star "8/8/3p4/4p3/8/8/8/4R3" (exchanged "e1" "e5") (score (negsuc 386))
    -- rooks e1, e2 against rook e8, e2 takes pawn e5
    ∷ star "4r3/8/8/4p3/8/8/4R3/4R3" (exchanged "e2" "e5") (score (pos 100))
    -- queen d1 takes pawn d5, pawn e4 behind her; knight f6, bishop b7 defend; kings g1, g8
    ∷ star "6k1/1b6/5n2/3p4/4P3/8/8/3Q2K1" (exchanged "d1" "d5") (score (negsuc 708))
    -- king e4 takes pawn e5 defended by pawn d6, black king h8
    ∷ star "7k/8/3p4/4p3/4K3/8/8/8" (exchanged "e4" "e5") (score (negsuc 9899))
    ∷ []

-- ---- the claim: each gets the answer that document 01 gives it
abbrev pub AllStarred : Type 0
AllStarred = map (λ (s : Starred). answer_of s.ranks s.asked) starred ≡ map (λ (s : Starred). given s.outcome) starred
