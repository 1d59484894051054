-- What each door promises, for all inputs: what its function says, as numbers that C lends. Definitions only.
use Rattle.std.specs.Prelude.{List, ℕ}
use Rattle.score_errors.specs.declared.Totals.{Totals}
use Rattle.score_joined.specs.Sums.{sum_of_both}
use Rattle.store_joined.specs.Summaries.{summaries_joined}
use Rattle.abi_codes.specs.Codes.{Door, Doors, as_it_is}
use Rattle.abi_codes.specs.declared.Code.{Code}
use Rattle.abi_errors.specs.Numbers.{totals_from, total_numbers}

abbrev pub ErrorsJoined : List ℕ → ℕ → List ℕ → ℕ → Code → List ℕ → ℕ → Type 0
ErrorsJoined totals others more moreOthers r totals' others' =
    Doors (sum_of_both (totals_from totals, others) (totals_from more, moreOthers)) (λ (p : Totals × ℕ). total_numbers p.0) (λ (p : Totals × ℕ). p.1)
    totals others r totals' others'

abbrev pub SummaryJoined : List ℕ → List ℕ → Code → List ℕ → Type 0
SummaryJoined summary more r summary' = Door (summaries_joined summary more) as_it_is summary r summary'
