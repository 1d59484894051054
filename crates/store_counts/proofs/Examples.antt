-- Worked examples of a summary, by computation. Assumes nothing.
use Rattle.std.proofs.Common.{◌≡◌, ℕ, List, [], ◌∷◌, ◌++◌, get_or, replicate, refl}
use Rattle.laws.specs.Tables.{tabulate}
use Rattle.laws.specs.Sums.{sum_n}
use Rattle.store_record.proofs.Examples.{drawn_bytes}
use Rattle.store_counts.specs.Summary.{count_place, record_brings, summary_afresh, summary_moved, summary_more, summary_less}

-- the first place of a piece and the last; what the record brings to records, half points, its two pieces, and a queen that stands elsewhere
places : count_place 2 0 ∷ count_place 3 0 ∷ count_place 13 63 ∷ [] ≡ 2 ∷ 66 ∷ 769 ∷ []
places = refl

brings : record_brings drawn_bytes 0 ∷ record_brings drawn_bytes 1 ∷ record_brings drawn_bytes (count_place 2 0) ∷ record_brings drawn_bytes (count_place 13 1)
    ∷ record_brings drawn_bytes (count_place 13 0) ∷ []
    ≡ 1 ∷ 1 ∷ 1 ∷ 1 ∷ 0 ∷ []
brings = refl

-- five places of a summary: records, half points, white pawns on a1, black pawns on a1, black queens on b1
five : List ℕ → List ℕ
five s = get_or s 0 0 ∷ get_or s 1 0 ∷ get_or s 2 0 ∷ get_or s 66 0 ∷ get_or s (count_place 13 1) 0 ∷ []

-- a store of that record twice, afresh; one record more on an empty summary; one less, which wraps
afresh : five (summary_afresh (drawn_bytes ++ drawn_bytes) 2) ≡ 2 ∷ 2 ∷ 2 ∷ 0 ∷ 2 ∷ []
unfolding five summary_afresh tabulate sum_n
afresh = refl

more : five (summary_more (replicate 770 0) drawn_bytes) ≡ 1 ∷ 1 ∷ 1 ∷ 0 ∷ 1 ∷ []
unfolding five summary_moved tabulate
more = refl

less : five (summary_less (replicate 770 0) drawn_bytes) ≡ 0xffffffffffffffff ∷ 0xffffffffffffffff ∷ 0xffffffffffffffff ∷ 0 ∷ 0xffffffffffffffff ∷ []
unfolding five summary_moved tabulate
less = refl
