-- How long the words of a row are, and that its buffer has room for it. Assumes nothing.
use mathlib.Core.List.{◌++◌}
use Prim.Native.Nat.{ℕ, suc, ◌+◌, ◌≤◌}
use native.Mathlib.Omega.{arith}
use lib.IntN.{ℤ, pos, negsuc}
use lib.ListN.{length, length-append}
use Rattle.text_out.specs.Text.{decimal_of, signed_of}
use Rattle.text_out.proofs.Spelled.{length_decimal}
use Rattle.text_out.proofs.Added.{length_20}
use Rattle.refusal.specs.Answer.{Answer, given, refused}
use Rattle.text_in.specs.Text.{text}
use Rattle.score_verdict.specs.Verdict.{lost, won, drawn, none}
use Rattle.score.specs.Score.{Outcome, verdict, score}
use Rattle.ledger_row.specs.Row.{spaced, shown_of, refused_row, loaded_row}

pub length_signed : (z : ℤ) → length (signed_of z) ≤ 21
length_signed (pos n) = omega (arith, length_20 n)
length_signed (negsuc n) = omega (arith, length_decimal 20 (suc n))

pub length_spaced : (n : ℕ) → length (spaced n) ≤ 21
length_spaced n = omega (arith, length-append (decimal_of n) (text " "), length_20 n)

pub length_shown : (a : Answer Outcome) → length (shown_of a) ≤ 21
length_shown (given (verdict lost)) = omega arith
length_shown (given (verdict won)) = omega arith
length_shown (given (verdict drawn)) = omega arith
length_shown (given (verdict none)) = omega arith
length_shown (given (score z)) = length_signed z
length_shown (refused n v) = omega arith

-- ---- the buffer has room for the rows
pub fits_refused : (line refusal : ℕ) → 0 + length (refused_row line refusal) ≤ 64
unfolding refused_row
fits_refused line refusal =
    let a = length-append (spaced line) (text "refused " ++ (decimal_of refusal ++ text "\n")) in
    let b = length-append (decimal_of refusal) (text "\n") in
    omega (arith, length_spaced line, length_20 refusal)

pub fits_loaded : (line half : ℕ) (scored : Answer Outcome) → 0 + length (loaded_row line half scored) ≤ 64
unfolding loaded_row
fits_loaded line half scored =
    let a = length-append (spaced line) (spaced half ++ (shown_of scored ++ text "\n")) in
    let b = length-append (spaced half) (shown_of scored ++ text "\n") in
    let c = length-append (shown_of scored) (text "\n") in
    omega (arith, length_spaced line, length_spaced half, length_shown scored)
