-- The shipped weights are the score's own numbers. Assumes nothing.
use mathlib.Core.Path.{◌≡◌, sym, ap, ap₂, ◌∙◌}
use mathlib.Core.List.{List}
use Prim.Native.Nat.{ℕ, ◌/◌, ◌%◌, ◌<◌}
use native.Mathlib.Nat.{add-zero}
use native.Mathlib.Omega.{arith}
use lib.Ieee.{Float, nan}
use lib.IntN.{ℤ}
use lib.ListN.{length, get_or}
use lib.Seq.{ext_get_or}
use mir.Syntax.{w16}
use mir.ValLaws.{to_z-of_z}
use Rattle.laws.proofs.Words.{held, fits_abs}
use Rattle.laws.proofs.Tables.{entry, tabulate_length}
use Rattle.chess.specs.Codes.{white_of, code_of}
use Rattle.chess.proofs.Codes.{white_le}
use Rattle.score_pst.specs.Pst.{pst_of, pst_table, weight_in}
use Rattle.score_pst.proofs.Table.{table_at, small}
use Rattle.doubles.specs.Doubles.{dbl}
use Rattle.trace_shipped.specs.Weights.{square_weight, shipped_squares}

-- a weight of the table, as it is read
pub weighs : (pst : List ℤ) (place white : ℕ) (z : ℤ) → place < 768 → pst ≡ pst_table → white ≡ white_of (place / 128)
    → z ≡ weight_in pst white (place % 64) (place % 128 / 64) → held w16 z ≡ square_weight place
unfolding square_weight
weighs pst place white z h et ew ez = ap (held w16) is ∙ to_z-of_z w16 (pst_of code (place % 64) (place % 128 / 64))
    (fits_abs {w = w16} 117 tt (small code (place % 64) (place % 128 / 64) low (omega arith) (omega arith)))
  where
    code : ℕ
    code = code_of (place / 128) 0

    low : code < 14
    low = omega (arith, white_le (place / 128))

    is : z ≡ pst_of code (place % 64) (place % 128 / 64)
    is =
        ez ∙ ap₂ (λ (t : List ℤ) (w : ℕ). weight_in t w (place % 64) (place % 128 / 64)) et (ew ∙ sym (add-zero (white_of (place / 128))))
        ∙ table_at code (place % 64) (place % 128 / 64) low (omega arith) (omega arith)

-- 768 that are right one by one are the list
pub shipped_all : (l : List Float) (n : ℕ) → length l ≡ 768 → n ≡ 768 → ((j : ℕ) → j < n → get_or l j nan ≡ dbl (square_weight j)) → l ≡ shipped_squares
unfolding shipped_squares
shipped_all l n e q h =
    ext_get_or nan l (Rattle.laws.specs.Tables.tabulate 768 (λ i. dbl (square_weight i))) (e ∙ sym (tabulate_length 768 (λ i. dbl (square_weight i))))
    (λ j k. h j (omega arith) ∙ sym (entry 768 (λ i. dbl (square_weight i)) nan j (omega arith)))
