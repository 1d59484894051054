-- What each function promises, for all inputs. Definitions only.
use Rattle.std.specs.Prelude.{◌≡◌, List, ℕ, Result, Option, None, Some}
use Rattle.refusal.specs.Answer.{Answer, given, refusal_of, answered}
use Rattle.refusal.specs.declared.Refusal.TheVariants as R
use Rattle.position.specs.declared.State.{State}
use Rattle.line_write.specs.Write.{wanted_text, text_written_of, write_of, buffer_after}
use Rattle.refusal.specs.declared.Refusal.{Refusal}

-- the answer, and the whole buffer
pub record Writes (a : Answer ℕ) (text old new : List ℕ) (r : Result ℕ Refusal) : Type 0 where
  pub answer : answered r ≡ a
  pub buffer : new ≡ buffer_after a text old

abbrev pub WritesLine : List ℕ → List ℕ → State → Option ℕ → List ℕ → List ℕ → Result ℕ Refusal → Type 0
WritesLine bitboards board state wanted old new r = Writes (write_of bitboards board state wanted old) (wanted_text board state wanted) old new r

-- ---- private functions
abbrev pub placed_as : Option ℕ → Answer ℕ
placed_as (Some end) = given end
placed_as None = refusal_of R.Room

abbrev pub Shows : Option ℕ → Result ℕ Refusal → Type 0
Shows p r = answered r ≡ placed_as p

abbrev pub WritesText : List ℕ → State → Option ℕ → List ℕ → List ℕ → Result ℕ Refusal → Type 0
WritesText board state wanted old new r = Writes (text_written_of board state wanted old) (wanted_text board state wanted) old new r
