-- `trace_marks::digits` meets its contract. The loop's invariant: the first j entries of the group are in. Assumes nothing.
use mathlib.Core.Path.{◌≡◌, refl, ◌∙◌}
use Prim.Native.Nat.{ℕ, zero, suc, ◌%◌, ◌<◌}
use native.Mathlib.Omega.{arith}
use lib.Bits.{bit_and, and_mask}
use lib.Dec.{T}
use lib.IntN.{nat_abs}
use lib.Signed.{non_neg}
use mir.Syntax.{w32}
use mir.Val.{to_z}
use Rattle.trace_marks.specs.Marks.{odd_at}
use Rattle.trace_marks.proofs.Marks.{row_none, row_next}
use Rattle.trace_marks.proofs.digits.Goals as goal

-- below 2, a number is read as itself
low : (n : ℕ) → n < 2 → (T (non_neg (to_z w32 n))) × (nat_abs (to_z w32 n) ≡ n)
low zero h = (tt, refl)
low (suc zero) h = (tt, refl)
low (suc (suc n)) h = absurd (omega arith)

-- the lowest digit of a number
abbrev last : ℕ → ℕ
last n = bit_and n 1

last-is : (n : ℕ) → last n ≡ n % 2
last-is n = and_mask n 1

last-low : (n : ℕ) → (T (non_neg (to_z w32 (last n)))) × (nat_abs (to_z w32 (last n)) ≡ last n)
last-low n = low (last n) (omega (arith, last-is n))

odd : (n : ℕ) → nat_abs (to_z w32 (last n)) ≡ n % 2
odd n = (last-low n).1 ∙ last-is n

pub loop-j-init : goal.loop-j-init
loop-j-init c = row_none (odd_at c.args.entries.now c.args.group)

pub loop-j-preserved : goal.loop-j-preserved
loop-j-preserved c =
    let l = c.loop-j in
    let a = c.args in
    row_next (odd_at a.entries.now a.group) l.j l.invariant (odd _)
