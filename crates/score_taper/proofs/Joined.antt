-- The last three sums in 64 bits are those over ℤ. Assumes nothing.
use mathlib.Core.Path.{◌≡◌}
use Prim.Native.Nat.{◌≤◌}
use native.Mathlib.Nat.{le_refl}
use native.Mathlib.Omega.{arith}
use lib.IntN.{ℤ, pos, nat_abs, ◌+ℤ◌}
use mir.Syntax.{w64}
use mir.Val.{SFits}
use Rattle.laws.proofs.Words.{held}
use Rattle.score_taper.proofs.Steps.{keeps, plus_abs, plus_fits, plus_is}

-- what joins the score: square weights, material, mobility
pub record Small (p m q : ℤ) : Type 0 where
  pub weights : nat_abs p ≤ 4294967295
  pub material : nat_abs m ≤ 4294967295
  pub mobility : nat_abs q ≤ 4294967295

module _ (p m q : ℤ) (h : Small p m q) where
  kept : held w64 p ≡ p
  kept = keeps p (omega arith)

  pub first_fits : SFits w64 (held w64 p +ℤ held w64 m)
  first_fits = plus_fits (held w64 p) p m 4294967295 4294967295 kept h.weights h.material (omega arith)

  pub first_is : held w64 (held w64 p +ℤ held w64 m) ≡ p +ℤ m
  first_is = plus_is (held w64 p) p m 4294967295 4294967295 kept h.weights h.material (omega arith)

  first_abs : nat_abs (p +ℤ m) ≤ 8589934590
  first_abs = plus_abs (held w64 p) p m 4294967295 4294967295 kept h.weights h.material (omega arith)

  pub second_fits : SFits w64 (held w64 (held w64 p +ℤ held w64 m) +ℤ held w64 q)
  second_fits = plus_fits (held w64 (held w64 p +ℤ held w64 m)) (p +ℤ m) q 8589934590 4294967295 first_is first_abs h.mobility (omega arith)

  pub second_is : held w64 (held w64 (held w64 p +ℤ held w64 m) +ℤ held w64 q) ≡ p +ℤ m +ℤ q
  second_is = plus_is (held w64 (held w64 p +ℤ held w64 m)) (p +ℤ m) q 8589934590 4294967295 first_is first_abs h.mobility (omega arith)

  second_abs : nat_abs (p +ℤ m +ℤ q) ≤ 12884901885
  second_abs = plus_abs (held w64 (held w64 p +ℤ held w64 m)) (p +ℤ m) q 8589934590 4294967295 first_is first_abs h.mobility (omega arith)

  pub total_fits : SFits w64 (held w64 (held w64 (held w64 p +ℤ held w64 m) +ℤ held w64 q) +ℤ pos 11)
  total_fits =
      plus_fits (held w64 (held w64 (held w64 p +ℤ held w64 m) +ℤ held w64 q)) (p +ℤ m +ℤ q) (pos 11) 12884901885 11 second_is second_abs (le_refl 11)
      (omega arith)

  pub total_is : held w64 (held w64 (held w64 (held w64 p +ℤ held w64 m) +ℤ held w64 q) +ℤ pos 11) ≡ p +ℤ m +ℤ q +ℤ pos 11
  total_is =
      plus_is (held w64 (held w64 (held w64 p +ℤ held w64 m) +ℤ held w64 q)) (p +ℤ m +ℤ q) (pos 11) 12884901885 11 second_is second_abs (le_refl 11)
      (omega arith)
