-- What each function promises, for all inputs. Definitions only.
use Rattle.std.specs.Prelude.{◌≡◌, List, ℕ, Result}
use Rattle.refusal.specs.Answer.{given, answered}
use Rattle.chess.specs.Named.{square_of}
use Rattle.position.specs.declared.State.{State}
use Rattle.line_tail.specs.Tail.{state_said, or_words, tail_of}
use Rattle.refusal.specs.declared.Refusal.{Refusal}

abbrev pub ReadsTail : List ℕ → ℕ → List ℕ → Result State Refusal → Type 0
ReadsTail board side s r = answered r ≡ tail_of board side s

abbrev pub ReadsSquare : ℕ → ℕ → ℕ → Type 0
ReadsSquare file rank r = r ≡ square_of file rank

-- ---- private functions
abbrev pub ReadsWords : List ℕ → ℕ → List ℕ → List ℕ → List ℕ → List ℕ → List ℕ → Result State Refusal → Type 0
ReadsWords board side rights passant halfmoves moves more r =
    answered r ≡ or_words board side rights passant halfmoves moves more (given (state_said side rights passant halfmoves moves))
