-- The summaries of two stores put together (document 02, W-214). Definitions only.
use Rattle.std.specs.Prelude.{ℕ, ◌+◌, ◌&&◌, List, length, ◌==◌, nat_le, slice_index}
use Rattle.laws.specs.Tables.{tabulate}
use Rattle.refusal.specs.Answer.{Answer, given, or_refuse}
use Rattle.refusal.specs.declared.Refusal.TheVariants as R
use Rattle.store_counts.specs.Summary.{wrapped_sum}
use Rattle.store_summary.specs.Promises.{records_in}

-- each sum of both: "Sums are 64 bits, wrapping where a summary isn't its store's."
unfoldable pub summary_of_both : List ℕ → List ℕ → List ℕ
summary_of_both a b = tabulate 770 (λ place. wrapped_sum (slice_index a place) (slice_index b place))

-- SHAPE for a summary that has not 770 numbers; "MANY for a record added past the 10,000,000th"
abbrev pub summaries_joined : List ℕ → List ℕ → Answer (List ℕ)
summaries_joined a b =
    or_refuse (length a == 770 && length b == 770) R.Shape
    (or_refuse (nat_le (records_in a + records_in b) 10000000) R.Many
    (given (summary_of_both a b)))
