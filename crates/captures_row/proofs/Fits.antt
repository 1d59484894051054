-- How long the words of a row are, and that its buffer has room for it. Assumes nothing.
use mathlib.Core.Path.{◌≡◌, refl}
use mathlib.Core.List.{List, ◌++◌}
use Prim.Native.Nat.{ℕ, zero, suc, ◌+◌, ◌≤◌}
use native.Mathlib.Omega.{arith}
use lib.IntN.{ℤ}
use lib.ListN.{length, length-append}
use Rattle.text_in.specs.Text.{text}
use Rattle.text_out.specs.Text.{decimal_of, signed_of, Adds}
use Rattle.text_out.proofs.Added.{adds_to, adds_length, length_20}
use Rattle.ledger_totals.proofs.Fits.{length_named}
use Rattle.ledger_row.specs.Row.{spaced}
use Rattle.ledger_row.proofs.Fits.{length_spaced, length_signed}
use Rattle.exchange_value.specs.Stop.{Stop, played_out, before}
use Rattle.captures_row.specs.Rows.{square_field, kind_field, capture_row, stop_field, worth_field, stop_row, counts_row}

-- what room is left behind a text
pub left : {x y : List ℕ} {at a : ℕ} {t : List ℕ} → Adds x at t y a → (n k m : ℕ) → length t ≤ n → n + k ≤ m → at + m ≤ length x → a + k ≤ length y
left p n k m short sum room = omega (arith, adds_to p (omega arith), adds_length p (omega arith))

-- ---- the words
pub king : (k : ℕ) → (k ≡ 0 → ⊥) → (k ≡ 1 → ⊥) → (k ≡ 2 → ⊥) → (k ≡ 3 → ⊥) → (k ≡ 4 → ⊥) → text "king " ≡ kind_field k
king zero a b c d e = absurd (a refl)
king (suc zero) a b c d e = absurd (b refl)
king (suc (suc zero)) a b c d e = absurd (c refl)
king (suc (suc (suc zero))) a b c d e = absurd (d refl)
king (suc (suc (suc (suc zero)))) a b c d e = absurd (e refl)
king (suc (suc (suc (suc (suc k))))) a b c d e = refl

pub length_kind : (k : ℕ) → length (kind_field k) ≤ 7
length_kind zero = omega arith
length_kind (suc zero) = omega arith
length_kind (suc (suc zero)) = omega arith
length_kind (suc (suc (suc zero))) = omega arith
length_kind (suc (suc (suc (suc zero)))) = omega arith
length_kind (suc (suc (suc (suc (suc k))))) = omega arith

pub length_after : (n : ℕ) (word : List ℕ) → length (decimal_of n ++ word) ≤ 20 + length word
length_after n word = omega (arith, length-append (decimal_of n) word, length_20 n)

pub length_stop : (s : Stop) → length (stop_field s) ≤ 25
length_stop played_out = omega arith
length_stop (before i) = length_named (text "stop ") i

pub length_worth : (z : ℤ) → length (worth_field z) ≤ 28
length_worth z = omega (arith, length-append (text " worth ") (signed_of z), length_signed z)

-- ---- the buffer has room for the rows
pub fits_capture : (number from kind taken : ℕ) → 0 + length (capture_row number from kind taken) ≤ 52
unfolding capture_row
fits_capture number from kind taken =
    let value = decimal_of taken ++ text "\n" in
    let a = length-append (spaced number) (square_field from ++ (kind_field kind ++ value)) in
    let b = length-append (square_field from) (kind_field kind ++ value) in
    let c = length-append (kind_field kind) value in
    omega (arith, length_spaced number, length_kind kind, length_after taken (text "\n"))

pub fits_stop : (number : ℕ) (stop : Stop) (worth : ℤ) → 0 + length (stop_row number stop worth) ≤ 75
unfolding stop_row
fits_stop number stop worth =
    let a = length-append (spaced number) (stop_field stop ++ (worth_field worth ++ text "\n")) in
    let b = length-append (stop_field stop) (worth_field worth ++ text "\n") in
    let c = length-append (worth_field worth) (text "\n") in
    omega (arith, length_spaced number, length_stop stop, length_worth worth)

pub fits_counts : (lines told others : ℕ) → 0 + length (counts_row lines told others) ≤ 84
unfolding counts_row
fits_counts lines told others =
    let x = text "lines " ++ decimal_of lines in
    let y = text " told " ++ decimal_of told in
    let z = text " refused " ++ decimal_of others in
    let a = length-append x (y ++ (z ++ text "\n")) in
    let b = length-append y (z ++ text "\n") in
    let c = length-append z (text "\n") in
    omega (arith, length_named (text "lines ") lines, length_named (text " told ") told, length_named (text " refused ") others)
