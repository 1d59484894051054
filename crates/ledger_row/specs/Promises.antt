-- What each function promises, for all inputs. Definitions only.
use Rattle.std.specs.Prelude.{◌≡◌, true, List, ℕ, ℤ, Result, Option, Ok}
use Rattle.refusal.specs.Answer.{Answer, answered}
use Rattle.refusal.specs.Refusals.{number_of}
use Rattle.refusal.specs.declared.Refusal.{Refusal}
use Rattle.score_taper.specs.Parts.{in16}
use Rattle.score.specs.declared.Scored.{Scored}
use Rattle.score.specs.declared.Scored.TheVariants as S
use Rattle.text_out.specs.Text.{Puts}
use Rattle.ledger_row.specs.Row.{said_row, refused_row, is_loaded}
use Rattle.ledger_row.specs.declared.Row.{Row}
use Rattle.position.specs.declared.State.{State}

-- a text is put, and it is said whether the line was loaded
pub record PutsRow {A : Type 0} (old new : List ℕ) (at : ℕ) (said : Answer A) (text : List ℕ) (r : Row) : Type 0 where
  pub puts : Puts old new at text r.placed
  pub loaded : r.loaded ≡ is_loaded said

-- the row of what a reader said
abbrev pub PutsSaid : List ℕ → List ℕ → ℕ → ℕ → Result (State × ℕ) Refusal → List ℕ → Row → Type 0
PutsSaid old new at number read bitboards r = PutsRow old new at (answered read) (said_row number bitboards (answered read)) r

abbrev pub PutsRefused : List ℕ → List ℕ → ℕ → ℕ → Refusal → Option ℕ → Type 0
PutsRefused old new at number refusal r = Puts old new at (refused_row number (number_of refusal)) r

-- ---- private functions
-- a score, if it is one, that 16 bits hold
abbrev pub Short : Result Scored Refusal → Type 0
Short r = (z : ℤ) → r ≡ Ok (S.Score z) → in16 z ≡ true
