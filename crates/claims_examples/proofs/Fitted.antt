-- The doubles of positions' traces with the shipped weights, and their exact sums, by computation. Assumes nothing.
use mathlib.Core.Path.{◌≡◌, refl}
use mathlib.Core.Bool.{true, false}
use mathlib.Core.List.{List, [], ◌∷◌}
use Prim.Native.Nat.{ℕ, ◌^◌}
use lib.IntN.{pos, negsuc, neg_ℤ, ◌-ℤ◌, ◌*ℤ◌}
use lib.Ieee.{Float, fin, add, sub, mul, div, of_int, of_bits}
use Rattle.trace.specs.Trace.{trace_of, entry_at, entries_of}
use Rattle.trace_shipped.specs.Weights.{square_weight, shipped, shipped_squares}
use Rattle.trace_double.specs.Double.{double}
use Rattle.trace_exact.specs.Exact.{shipped_whole, exact_by}
use Rattle.claims_examples.proofs.Traces.{pawn_up}
use Rattle.claims_examples.specs.Written.{boards_of}
use Rattle.claims_examples.proofs.Bounds.{high}

abbrev fitted : List ℕ → ℕ → Float
fitted bbs side = double (trace_of bbs side) (entries_of bbs) shipped shipped_squares

-- kings e1, e8 and the pawn e2: 3517/30 with White to move and 2857/30 with Black
pawn_fitted : fitted pawn_up 0 ∷ fitted pawn_up 1 ∷ [] ≡ fin false 4124781221214071 (negsuc 44) ∷ fin false 6701450070519535 (negsuc 45) ∷ []
unfolding double trace_of entries_of shipped shipped_squares add sub mul div of_int of_bits
pawn_fitted = refl

-- 8/8/8/KN6/8/7b/8/2k5 b: the exact sum is -3 points and a half, which a double can be, and this one is not
abbrev half : List ℕ
half = 0x300000000 ∷ 0x800004 ∷ 0 ∷ 0 ∷ 0x200000000 ∷ 0 ∷ 0x100000000 ∷ 4 ∷ 0 ∷ 0x800000 ∷ 0 ∷ 0 ∷ 0 ∷ 0 ∷ []

half_exact : exact_by shipped_whole (trace_of half 1) (λ i. pos (entry_at half i)) ≡ neg_ℤ (pos 105)
unfolding exact_by trace_of entry_at square_weight
half_exact = refl

half_fitted : fitted half 1 ≡ fin true 1970324836974591 (negsuc 48)
unfolding double trace_of entries_of shipped shipped_squares add sub mul div of_int of_bits
half_fitted = refl

-- BQQQQQQQ/QQQQQQBQ/QQQRNkQQ/KQBBQQRR/RQQRNQQB/NQQBQQQQ/QQQQRQQQ/QBQQQQQQ b: 266/(30·2^37) above 1610702/30, some 6.45 hundred-billionths of a point
abbrev full : List ℕ
full =
    0xffffdfffffffffff ∷ 0x200000000000 ∷ 0 ∷ 0 ∷ 0x100010010000 ∷ 0 ∷ 0x100000000 ∷ 0x200000000000 ∷ 0x140000c80080002 ∷ 0 ∷ 0x8c009001000 ∷ 0
    ∷ 0xfebfc73266f6effd ∷ 0 ∷ []

full_exact : exact_by shipped_whole (trace_of full 1) (λ i. pos (entry_at full i)) ≡ pos 1610702
unfolding exact_by trace_of entry_at square_weight
full_exact = refl

full_fitted : fitted full 1 ≡ fin false 7379106574508587 (negsuc 36)
unfolding double trace_of entries_of shipped shipped_squares add sub mul div of_int of_bits
full_fitted = refl

full_above : pos 7379106574508587 *ℤ pos 30 -ℤ pos 1610702 *ℤ pos (2 ^ 37) ≡ pos 266
full_above = refl

-- k7/6bp/8/8/8/2n1p1qb/7K/3q4 w: its exact sum is -102265 (claims/proofs/Reached), and the double lies 10/(30·2^41) farther from zero
pub high_fitted : fitted high 0 ≡ fin true 7496103774300843 (negsuc 40)
unfolding double trace_of entries_of shipped shipped_squares add sub mul div of_int of_bits
high_fitted = refl

-- ---- the boards are those of the positions that they are called
as_written : boards_of "8/8/8/KN6/8/7b/8/2k5"
    ∷ boards_of "BQQQQQQQ/QQQQQQBQ/QQQRNkQQ/KQBBQQRR/RQQRNQQB/NQQBQQQQ/QQQQRQQQ/QBQQQQQQ" ∷ []
    ≡ half ∷ full ∷ []
unfolding boards_of
as_written = refl
