-- The last row has 84 bytes at most. Assumes nothing.
use mathlib.Core.List.{List, ◌++◌}
use Prim.Native.Nat.{ℕ, ◌+◌, ◌≤◌}
use native.Mathlib.Omega.{arith}
use lib.ListN.{length, length-append}
use Rattle.text_out.specs.Text.{decimal_of}
use Rattle.text_out.proofs.Added.{length_20}
use Rattle.text_in.specs.Text.{text}
use Rattle.ledger_totals.specs.Totals.{last_row}

pub length_named : (word : List ℕ) (n : ℕ) → length (word ++ decimal_of n) ≤ length word + 20
length_named word n = omega (arith, length-append word (decimal_of n), length_20 n)

pub fits_last : (lines loaded others : ℕ) → 0 + length (last_row lines loaded others) ≤ 84
unfolding last_row
fits_last lines loaded others =
    let x = text "lines " ++ decimal_of lines in
    let y = text " loaded " ++ decimal_of loaded in
    let z = text " refused " ++ decimal_of others in
    let a = length-append x (y ++ (z ++ text "\n")) in
    let b = length-append y (z ++ text "\n") in
    let c = length-append z (text "\n") in
    omega (arith, length_named (text "lines ") lines, length_named (text " loaded ") loaded, length_named (text " refused ") others)
