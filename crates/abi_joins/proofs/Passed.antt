-- How joined sums and summaries pass their doors. Assumes nothing.
use mathlib.Core.Path.{◌≡◌, refl, ap, ap₂, ◌∙◌}
use mathlib.Core.List.{List}
use Prim.Native.Nat.{ℕ}
use Rattle.refusal.specs.Answer.{Answer, given, refused, answered}
use Rattle.score_errors.specs.declared.Totals.{Totals}
use Rattle.score_joined.specs.Sums.{sums_joined}
use Rattle.score_joined.specs.Promises.{JoinsSums}
use Rattle.store_record.specs.Promises.{place_after}
use Rattle.store_joined.specs.Summaries.{summaries_joined}
use Rattle.store_joined.specs.Promises.{JoinsSummaries}
use Rattle.abi_codes.specs.Codes.{answer_number, lent_after, as_it_is}
use Rattle.abi_codes.specs.declared.Code.{Code}
use Rattle.abi_codes.proofs.Passed.{met, doors_passed}
use Rattle.abi_stores.proofs.Passed.{stored_code}
use Rattle.abi_errors.specs.Numbers.{totals_from, total_numbers}
use Rattle.abi_joins.specs.Promises.{ErrorsJoined, SummaryJoined}
use Rattle.std.specs.Prelude.{Result, Ok}
use Rattle.refusal.specs.declared.Refusal.{Refusal}

-- ---- two sums
pub errors_passed : (totals : List ℕ) (others : ℕ) (more : List ℕ) (moreOthers : ℕ) {a b r x : Result (Totals × ℕ) Refusal} {n : Code} {totals' : List ℕ} {others' : ℕ}
    → a ≡ Ok (totals_from totals, others) → b ≡ Ok (totals_from more, moreOthers) → JoinsSums a b r → r ≡ x → n ≡ answer_number (answered x)
    → totals' ≡ lent_after (λ (p : Totals × ℕ). total_numbers p.0) totals (answered x) → others' ≡ lent_after (λ (p : Totals × ℕ). p.1) others (answered x)
    → ErrorsJoined totals others more moreOthers n totals' others'
errors_passed totals others more moreOthers e f p m h k l =
    doors_passed (met answered (p ∙ ap₂ (λ (x y : Result (Totals × ℕ) Refusal). sums_joined (answered x) (answered y)) e f) m) h k l

-- ---- two summaries
place_lent : (a : Answer (List ℕ)) (old : List ℕ) → place_after a old ≡ lent_after as_it_is old a
place_lent (given s) old = refl
place_lent (refused n v) old = refl

pub summary_passed : {summary more : List ℕ} {r x : Result Unit Refusal} {n : Code} {summary' : List ℕ}
    → JoinsSummaries summary more r summary' → r ≡ x → n ≡ answer_number (answered x) → SummaryJoined summary more n summary'
summary_passed {summary = summary} {more = more} p m h =
    let a : Answer (List ℕ) = summaries_joined summary more in
    record { code = h ∙ ap answer_number (met answered p.answer m) ∙ stored_code a; lent = p.counts ∙ place_lent a summary }
