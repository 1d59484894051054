-- What each function promises, for all inputs. Definitions only.
use Rattle.std.specs.Prelude.{◌≡◌, Bool, false, cond, not, List, ℕ, eqb, length, Result}
use Rattle.refusal.specs.Answer.{Answer, given, refused, or_refuse, answered}
use Rattle.refusal.specs.declared.Refusal.TheVariants as R
use Rattle.line_held.specs.Held.{said_of}
use Rattle.line_cut.specs.Cut.{CutSoFar, run_by, end_by}
use Rattle.line_cut.specs.Promises.{opened}
use Rattle.score_errors.specs.Promises.{none}
use Rattle.score_errors.specs.declared.Totals.{Totals}
use Rattle.score_collection.specs.Gather.{line_by, line_more}
use Rattle.score_collection.specs.declared.Sum.{Sum}
use Rattle.score_collection.specs.declared.Gathered.{Gathered}
use Rattle.refusal.specs.declared.Refusal.{Refusal}

-- what a line that ends does, by the buffer and the line's length
abbrev pub close_more : Sum → List ℕ → ℕ → Sum
close_more sum line size = line_more sum (said_of line size)

-- before anything was read
abbrev pub nothing : Sum
nothing = record { totals = none; refused = 0; full = false }

abbrev pub Begins : Gathered → Type 0
Begins r = r ≡ record { begun = record { held = 0; cr = false }; sum = nothing }

abbrev pub gathered_of : CutSoFar Sum → Gathered
gathered_of r = record { begun = record { held = r.left.held; cr = r.left.cr }; sum = r.kept }

-- ---- a piece: what is gathered and the line buffer afterwards are the machine's; SHAPE for a line buffer that has not 256 bytes
abbrev pub gather_of : Gathered → List ℕ → List ℕ → Answer (CutSoFar Sum)
gather_of gathered line chunk = or_refuse (eqb (length line) 256) R.Shape (given (run_by close_more (opened gathered.begun line) gathered.sum chunk))

abbrev pub gathered_in : Answer (CutSoFar Sum) → Answer Gathered
gathered_in (given r) = given (gathered_of r)
gathered_in (refused n beside) = refused n beside

abbrev pub line_kept : Answer (CutSoFar Sum) → List ℕ → List ℕ
line_kept (given r) old = r.left.line
line_kept (refused n beside) old = old

pub record Gathers (gathered : Gathered) (line chunk : List ℕ) (r : Result Gathered Refusal) (line' : List ℕ) : Type 0 where
  pub answer : answered r ≡ gathered_in (gather_of gathered line chunk)
  pub kept : line' ≡ line_kept (gather_of gathered line chunk) line

-- ---- the end: MANY where a line found no room
abbrev pub outcome_of : Sum → Answer (Totals × ℕ)
outcome_of sum = or_refuse (not sum.full) R.Many (given (sum.totals, sum.refused))

abbrev pub end_of : Gathered → List ℕ → Answer (Totals × ℕ)
end_of gathered line =
    or_refuse (eqb (length line) 256) R.Shape (outcome_of (end_by close_more (record { left = opened gathered.begun line; kept = gathered.sum })))

abbrev pub EndsCollection : Gathered → List ℕ → Result (Totals × ℕ) Refusal → Type 0
EndsCollection gathered line r = answered r ≡ end_of gathered line

-- ---- the inner functions, by whatever table is lent
abbrev pub close_with : List ℕ → Sum → List ℕ → ℕ → Sum
close_with t sum line size = line_by t sum (said_of line size)

abbrev pub ClosesLine : List ℕ → Sum → List ℕ → ℕ → Sum → Type 0
ClosesLine t sum line size r = r ≡ close_with t sum line size

abbrev pub CountsLine : List ℕ → Sum → List ℕ → Bool → ℕ → Sum → Type 0
CountsLine t sum line ended size r = r ≡ cond ended (close_with t sum line size) sum

pub record TakesBy (close : Sum → List ℕ → ℕ → Sum) (gathered : Gathered) (line chunk : List ℕ) (r : Gathered) (line' : List ℕ) : Type 0 where
  pub answer : r ≡ gathered_of (run_by close (opened gathered.begun line) gathered.sum chunk)
  pub kept : line' ≡ (run_by close (opened gathered.begun line) gathered.sum chunk).left.line

abbrev pub TakesPiece : List ℕ → Gathered → List ℕ → List ℕ → Gathered → List ℕ → Type 0
TakesPiece t gathered line chunk r line' = TakesBy (close_with t) gathered line chunk r line'

abbrev pub Comes : Sum → Result (Totals × ℕ) Refusal → Type 0
Comes sum r = answered r ≡ outcome_of sum
