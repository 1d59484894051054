-- Where a score has its entry: how far it lies above −1600, as a difference of naturals, and the code's steps to it. Assumes nothing.
use mathlib.Core.Path.{◌≡◌, refl, sym, ap, ◌∙◌}
use mathlib.Core.Bool.{true, false, true≢false}
use Prim.Native.Nat.{ℕ, ◌+◌, ◌-◌, ◌/◌, ◌≤◌, ◌<◌, min}
use native.Mathlib.Omega.{arith}
use borrow.Author.Tests.{ltb-true, ltb-false}
use lib.Dec.{T}
use lib.IntN.{ℤ, pos, negsuc, nat_abs, ◌+ℤ◌}
use lib.Signed.{lt_z, quot_z, non_neg}
use mir.Syntax.{w32, w64}
use mir.Val.{SFits, Fits}
use Rattle.laws.proofs.Diff.{Diff, above_zero_rule, below_zero, diff_of, diff_pos, diff_add, diff_up, diff_eq}
use Rattle.laws.proofs.Words.{held, held_is, fits_abs}
use Rattle.score_expected.specs.Expected.{not_below, score_place}

up_is : (z : ℤ) → not_below z ≡ above_zero_rule z
up_is (pos n) = refl
up_is (negsuc n) = refl

far : (z : ℤ) → Diff (z +ℤ pos 1600) (above_zero_rule z + 1600) (below_zero z + 0)
far z = diff_add z (pos 1600) (above_zero_rule z) (below_zero z) 1600 0 (diff_of z) (diff_pos 1600)

pub place_is : (z : ℤ) → score_place z ≡ min (above_zero_rule z + 1600 - below_zero z) 3200 / 4
place_is z =
    ap (λ (n : ℕ). min n 3200 / 4) (up_is (z +ℤ pos 1600) ∙ diff_up (z +ℤ pos 1600) (above_zero_rule z + 1600) (below_zero z + 0) (far z) ∙ sum)
  where
    sum : above_zero_rule z + 1600 - (below_zero z + 0) ≡ above_zero_rule z + 1600 - below_zero z
    sum = omega arith

-- ---- what the code's tests say
below : (z : ℤ) → lt_z z (negsuc 1599) ≡ true → above_zero_rule z + 1600 < below_zero z
below (pos n) e = absurd (true≢false (sym e))
below (negsuc n) e = omega (arith, ltb-true 1599 n e)

not_below_holds : (z : ℤ) → lt_z z (negsuc 1599) ≡ false → below_zero z ≤ above_zero_rule z + 1600
not_below_holds (pos n) e = omega arith
not_below_holds (negsuc n) e = omega (arith, ltb-false 1599 n e)

over : (z : ℤ) → lt_z (pos 1600) z ≡ true → below_zero z + 1600 < above_zero_rule z
over (pos n) e = omega (arith, ltb-true 1600 n e)
over (negsuc n) e = absurd (true≢false (sym e))

not_over : (z : ℤ) → lt_z (pos 1600) z ≡ false → above_zero_rule z ≤ below_zero z + 1600
not_over (pos n) e = omega (arith, ltb-false 1600 n e)
not_over (negsuc n) e = omega arith

pub at_first : (z : ℤ) → lt_z z (negsuc 1599) ≡ true → 0 ≡ score_place z
at_first z e = omega (arith, place_is z, below z e)

pub at_last : (z : ℤ) → lt_z (pos 1600) z ≡ true → 800 ≡ score_place z
at_last z e = omega (arith, place_is z, over z e)

-- ---- the code's sum, quotient and cast between
module _ (z : ℤ) (f : SFits w32 z) (lo : lt_z (held w32 z) (negsuc 1599) ≡ false) (hi : lt_z (pos 1600) (held w32 z) ≡ false) where
  n : ℕ
  n = above_zero_rule z + 1600 - below_zero z

  is : held w32 z ≡ z
  is = held_is f refl

  small : below_zero z ≤ above_zero_rule z + 1600
  small = not_below_holds z (rw is at lo)

  large : above_zero_rule z ≤ below_zero z + 1600
  large = not_over z (rw is at hi)

  within : n ≤ 3200
  unfolding n
  within = omega (arith, small, large)

  sum : held w32 z +ℤ pos 1600 ≡ pos n
  unfolding n
  sum = ap (λ (x : ℤ). x +ℤ pos 1600) is ∙ diff_eq (z +ℤ pos 1600) (pos n) (above_zero_rule z + 1600) (below_zero z + 0) n 0 (far z) (diff_pos n)
      (omega (arith, small))

  pub sum_fits : SFits w32 (held w32 z +ℤ pos 1600)
  sum_fits = rw sum (fits_abs {w = w32} {z = pos n} 3200 tt within)

  quot : quot_z (held w32 (held w32 z +ℤ pos 1600)) (pos 4) ≡ pos (n / 4)
  quot = ap (λ (x : ℤ). quot_z x (pos 4)) (held_is sum_fits sum)

  quarter : n / 4 ≤ 800
  quarter = omega (arith, within)

  pub quot_fits : SFits w32 (quot_z (held w32 (held w32 z +ℤ pos 1600)) (pos 4))
  quot_fits = rw quot (fits_abs {w = w32} {z = pos (n / 4)} 800 tt quarter)

  read : held w32 (quot_z (held w32 (held w32 z +ℤ pos 1600)) (pos 4)) ≡ pos (n / 4)
  read = held_is quot_fits quot

  pub not_negative : T (non_neg (held w32 (quot_z (held w32 (held w32 z +ℤ pos 1600)) (pos 4))))
  not_negative = rw read tt

  pub place_fits : Fits w64 (nat_abs (held w32 (quot_z (held w32 (held w32 z +ℤ pos 1600)) (pos 4))))
  place_fits = rw read (record { fits = omega (arith, quarter) })

  pub at_between : nat_abs (held w32 (quot_z (held w32 (held w32 z +ℤ pos 1600)) (pos 4))) ≡ score_place z
  unfolding n
  at_between = ap nat_abs read ∙ omega (arith, place_is z, within)
