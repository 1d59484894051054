-- Totals beside a store (document 02, W-214): "records, half points, and for each of the twelve pieces how many stand on each square".
-- 770 numbers of 64 bits: records at 0, half points at 1, the piece of a code on a square at 2 + 64·(code − 2) + square. Definitions only.
use Rattle.std.specs.Prelude.{ℕ, ◌+◌, ◌-◌, ◌*◌, ◌/◌, ◌%◌, ◌^◌, cond, List, ◌==◌, slice_index, slice_set}
use Rattle.laws.specs.Tables.{tabulate}
use Rattle.laws.specs.Sums.{sum_n}
use Rattle.chess.specs.Codes.{is_piece}
use Rattle.store_record.specs.Record.{code_in, half_in, record_at}

-- where a piece of a code on a square is counted
abbrev pub count_place : ℕ → ℕ → ℕ
count_place code square = 2 + 64 * (code - 2) + square

-- the code and the square of a place from 2 on
abbrev pub counted_code : ℕ → ℕ
counted_code place = 2 + (place - 2) / 64

abbrev pub counted_square : ℕ → ℕ
counted_square place = (place - 2) % 64

-- ---- the summary worked out afresh
-- what one record brings to a place: itself, its half points, or a piece that stands there
abbrev pub record_brings : List ℕ → ℕ → ℕ
record_brings bytes place = cond (place == 0) 1 (cond (place == 1) (half_in bytes) (cond (code_in bytes (counted_square place) == counted_code place) 1 0))

-- "the summary worked out afresh from the records": the first so many of a run
unfoldable pub summary_afresh : List ℕ → ℕ → List ℕ
summary_afresh run records = tabulate 770 (λ place. sum_n records (λ i. record_brings (record_at run i) place))

-- ---- one record more, or one less
-- so much to each place: `once` for the record and each of its pieces, `points` for the half points
abbrev pub moved_by : ℕ → ℕ → List ℕ → ℕ → ℕ
moved_by once points bytes place = cond (place == 0) once (cond (place == 1) points
    (cond (code_in bytes (counted_square place) == counted_code place) once 0))

-- "Sums are 64 bits, wrapping where a summary isn't its store's."
abbrev pub wrapped_sum : ℕ → ℕ → ℕ
wrapped_sum a b = (a + b) % 2 ^ 64

unfoldable pub summary_moved : List ℕ → ℕ → ℕ → List ℕ → List ℕ
summary_moved summary once points bytes = tabulate 770 (λ place. wrapped_sum (slice_index summary place) (moved_by once points bytes place))

-- 2^64 − n, which taken 64 bits at a time takes n off
abbrev pub wraps_off : ℕ → ℕ
wraps_off n = (2 ^ 64 - n) % 2 ^ 64

-- "Adding a record updates it"
abbrev pub summary_more : List ℕ → List ℕ → List ℕ
summary_more summary bytes = summary_moved summary 1 (half_in bytes) bytes

-- "and so does replacing one": the old record's counts are taken off before the new one's are put on
abbrev pub summary_less : List ℕ → List ℕ → List ℕ
summary_less summary bytes = summary_moved summary (wraps_off 1) (wraps_off (half_in bytes)) bytes

-- ---- a private function: one square
abbrev pub marked_on : List ℕ → ℕ → ℕ → ℕ → List ℕ
marked_on summary code square once =
    cond (is_piece code) (slice_set summary (count_place code square) (wrapped_sum (slice_index summary (count_place code square)) once)) summary
