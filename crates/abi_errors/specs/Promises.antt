-- What each door of expected scores and of the sum over a collection promises, for all inputs: what comes back and every lent number afterwards.
-- Definitions only.
use Rattle.std.specs.Prelude.{◌≡◌, Bool, List, ℕ, ℤ}
use Rattle.line_cut.specs.Cut.{CutSoFar}
use Rattle.score_expected.specs.Expected.{expected_of}
use Rattle.score_errors.specs.Errors.{totals_with}
use Rattle.score_errors.specs.declared.Totals.{Totals}
use Rattle.score_collection.specs.Promises.{gather_of, gathered_of, line_kept, end_of}
use Rattle.score_collection.specs.declared.Sum.{Sum}
use Rattle.abi_codes.specs.Codes.{answer_number, lent_after, Door, Doors}
use Rattle.abi_codes.specs.declared.Code.{Code}
use Rattle.abi_errors.specs.Numbers.{totals_from, total_numbers, gathered_from, gathered_numbers, answer_from}

abbrev pub ExpectsScore : ℤ → ℕ → Type 0
ExpectsScore score r = r ≡ expected_of score

abbrev pub AddsError : List ℕ → ℕ → Bool → ℤ → ℕ → Code → List ℕ → Type 0
AddsError totals side some score half r totals' = Door (totals_with (totals_from totals) side (answer_from some score) half) total_numbers totals r totals'

pub record FeedsError (state line chunk : List ℕ) (r : Code) (state' line' : List ℕ) : Type 0 where
  pub code : r ≡ answer_number (gather_of (gathered_from state) line chunk)
  pub lent : state' ≡ lent_after (λ (m : CutSoFar Sum). gathered_numbers (gathered_of m)) state (gather_of (gathered_from state) line chunk)
  pub kept : line' ≡ line_kept (gather_of (gathered_from state) line chunk) line

abbrev pub EndsError : List ℕ → List ℕ → List ℕ → ℕ → Code → List ℕ → ℕ → Type 0
EndsError state line totals others r totals' others' =
    Doors (end_of (gathered_from state) line) (λ (p : Totals × ℕ). total_numbers p.0) (λ (p : Totals × ℕ). p.1) totals others r totals' others'
