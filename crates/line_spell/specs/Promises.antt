-- What each function promises, for all inputs. Definitions only.
use Rattle.std.specs.Prelude.{List, ℕ, ◌+◌, ◌≤◌, length, Option}
use Rattle.position.specs.declared.State.{State}
use Rattle.text_out.specs.Text.{Puts}
use Rattle.line_text.specs.Lines.{position_text, line_text, ended_line}

abbrev pub PutsPosition : List ℕ → State → List ℕ → List ℕ → ℕ → Option ℕ → Type 0
PutsPosition board state old new at r = Puts old new at (position_text board state) r

abbrev pub PutsLine : List ℕ → State → ℕ → List ℕ → List ℕ → ℕ → Option ℕ → Type 0
PutsLine board state half old new at r = Puts old new at (line_text board state half) r

abbrev pub PutsEnded : List ℕ → State → ℕ → List ℕ → List ℕ → ℕ → Option ℕ → Type 0
PutsEnded board state half old new at r = Puts old new at (ended_line board state half) r

-- ---- private functions
-- a rank's squares at most, and a byte for each
pub record SquaresRoom (squares line : List ℕ) (at : ℕ) : Type 0 where
  pub few : length squares ≤ 8
  pub rest : at + 8 ≤ length line

pub record RankRoom (rank : ℕ) (line : List ℕ) (at : ℕ) : Type 0 where
  pub low : rank ≤ 7
  pub rest : at + 8 ≤ length line
