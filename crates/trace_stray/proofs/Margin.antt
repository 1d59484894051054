-- A double that is at most 4096 roundings from E/30 lies less than a millionth from it: units of 2^-1074 are traded for the double's own power
-- of two. Assumes nothing.
use mathlib.Core.Path.{◌≡◌, sym, ap, ◌∙◌, subst}
use mathlib.Core.Bool.{Bool, true, false, cond}
use Prim.Native.Nat.{ℕ, suc, ◌+◌, ◌*◌, ◌^◌, ◌≤◌, ◌<◌}
use native.Mathlib.Nat.{le_trans, le_of_eq, lt_of_le_of_lt, lt_of_lt_of_le, add-mul, mul_assoc, mul_comm, mul_right_comm, mul-one, zero-mul}
use native.Mathlib.Nat.{mul-le-mul_right, mul-lt-mul_of_pos_right, lt_of_mul-lt-mul_right}
use native.Mathlib.Omega.{arith}
use lib.Dec.{lit<}
use lib.Pow.{pow_pos}
use lib.IntN.{ℤ, pos, negsuc, neg_ℤ, nat_abs, ◌-ℤ◌, ◌*ℤ◌}
use lib.Ieee.{Float, nan, inf, fin}
use Rattle.laws.proofs.Diff.{Diff, above_zero_rule, below_zero, diff_of, diff_pos, diff_neg, diff_minus, diff_scale, diff_swap}
use Rattle.trace_rounding.proofs.Near.{Off}
use Rattle.trace_rounding.proofs.Doubles.{Nearly, unit, rounding}
use Rattle.trace_stray.specs.Stray.{signed, million, CloserThan, millionth}

-- n parts of U in E parts of D, where a million of E is less than thirty of U
traded : (n U D E : ℕ) → 0 < D → n * U ≤ E * D → E * million < millionth * U → n * million < millionth * D
traded n U D E P h l =
    lt_of_mul-lt-mul_right U
    (lt_of_le_of_lt (le_trans (le_of_eq (mul_right_comm n million U)) (le_trans (mul-le-mul_right million h) (le_of_eq (mul_right_comm E D million))))
    (lt_of_lt_of_le (mul-lt-mul_of_pos_right l P) (le_of_eq (mul_right_comm millionth U D))))

-- n is A less B: n parts of U
part : (n A B U D E : ℕ) → A ≡ n + B → A * U ≤ B * U + E * D → n * U ≤ E * D
part n A B U D E d h = omega (arith, ap (λ (i : ℕ). i * U) d, add-mul n B U)

distance : (w : ℤ) (A B U D E : ℕ) → Diff w A B → 0 < D → A * U ≤ B * U + E * D → B * U ≤ A * U + E * D → E * million < millionth * U
    → nat_abs w * million < millionth * D
distance (pos n) A B U D E d P h k l = traded n U D E P (part n A B U D E d h) l
distance (negsuc n) A B U D E d P h k l = traded (suc n) U D E P (part (suc n) B A U D E d k) l

-- v·U is a·D: thirty a and p U, n U apart by E, times D
spread : (a v U D p : ℕ) → v * U ≡ a * D → (30 * a + p * U) * D ≡ (v * 30 + p * D) * U
spread a v U D p e =
    add-mul (30 * a) (p * U) D
    ∙ ap (λ (i : ℕ). i + p * U * D) (mul_assoc 30 a D ∙ ap (λ (i : ℕ). 30 * i) (sym e) ∙ sym (mul_assoc 30 v U) ∙ ap (λ (i : ℕ). i * U) (mul_comm 30 v))
    ∙ ap (λ (i : ℕ). v * 30 * U + i) (mul_right_comm p U D)
    ∙ sym (add-mul (v * 30) (p * D) U)

-- a whole number v with a sign, less z times D
taken : (s : Bool) (v D : ℕ) (z : ℤ) → Diff (signed s v *ℤ pos 30 -ℤ z *ℤ pos D) (cond s 0 (v * 30) + below_zero z * D) (cond s (v * 30) 0 + above_zero_rule z * D)
taken false v D z =
    diff_minus (pos v *ℤ pos 30) (z *ℤ pos D) (v * 30) 0 (above_zero_rule z * D) (below_zero z * D) (diff_pos (v * 30))
    (diff_scale z D (above_zero_rule z) (below_zero z) (diff_of z))
taken true v D z =
    diff_minus (neg_ℤ (pos v) *ℤ pos 30) (z *ℤ pos D) 0 (v * 30) (above_zero_rule z * D) (below_zero z * D)
    (diff_scale (neg_ℤ (pos v)) 30 0 v (diff_neg (pos v) v 0 (diff_pos v))) (diff_scale z D (above_zero_rule z) (below_zero z) (diff_of z))

apart : (s : Bool) (a v U D E : ℕ) (z w : ℤ) → v * U ≡ a * D → 0 < D → E * million < millionth * U → Off s (30 * a) (above_zero_rule z * U) (below_zero z * U) E
    → Diff w (cond s 0 (v * 30) + below_zero z * D) (cond s (v * 30) 0 + above_zero_rule z * D) → nat_abs w * million < millionth * D
apart false a v U D E z w e P l o d = distance w (v * 30 + below_zero z * D) (0 + above_zero_rule z * D) U D E d P (under (above_zero_rule z) (below_zero z) o.0)
    (over (above_zero_rule z) (below_zero z) o.1) l
  where
    under : (p n : ℕ) → 30 * a + n * U ≤ p * U + E → (v * 30 + n * D) * U ≤ (0 + p * D) * U + E * D
    under p n h = omega (arith, mul-le-mul_right D h, spread a v U D n e, add-mul (p * U) E D, add-mul 0 (p * D) U, mul_right_comm p U D)

    over : (p n : ℕ) → p * U ≤ 30 * a + n * U + E → (0 + p * D) * U ≤ (v * 30 + n * D) * U + E * D
    over p n h = omega (arith, mul-le-mul_right D h, spread a v U D n e, add-mul (30 * a + n * U) E D, add-mul 0 (p * D) U, mul_right_comm p U D)
apart true a v U D E z w e P l o d = distance w (0 + below_zero z * D) (v * 30 + above_zero_rule z * D) U D E d P (under (above_zero_rule z) (below_zero z) o.0)
    (over (above_zero_rule z) (below_zero z) o.1) l
  where
    under : (p n : ℕ) → n * U ≤ p * U + 30 * a + E → (0 + n * D) * U ≤ (v * 30 + p * D) * U + E * D
    under p n h = omega (
      arith,
      mul-le-mul_right D h,
      spread a v U D p e,
      add-mul (p * U + 30 * a) E D,
      add-mul (p * U) (30 * a) D,
      add-mul (30 * a) (p * U) D,
      add-mul 0 (n * D) U,
      mul_right_comm n U D,
    )

    over : (p n : ℕ) → p * U + 30 * a ≤ n * U + E → (v * 30 + p * D) * U ≤ (0 + n * D) * U + E * D
    over p n h = omega (
      arith,
      mul-le-mul_right D h,
      spread a v U D p e,
      add-mul (n * U) E D,
      add-mul (p * U) (30 * a) D,
      add-mul (30 * a) (p * U) D,
      add-mul 0 (n * D) U,
      mul_right_comm n U D,
    )

few : (k K h U : ℕ) → k ≤ K → K * h * million < millionth * U → k * h * million < millionth * U
few k K h U l m = lt_of_le_of_lt (mul-le-mul_right million (mul-le-mul_right h l)) m

once : (z : ℤ) → Diff z (above_zero_rule z * 1) (below_zero z * 1)
once z = diff_swap z (above_zero_rule z) (below_zero z) (above_zero_rule z * 1) (below_zero z * 1) (diff_of z) (omega (arith, mul-one (above_zero_rule z), mul-one (below_zero z)))

-- the same for a power of two that is a whole number
taken_up : (s : Bool) (m u : ℕ) (z : ℤ) → Diff (signed s m *ℤ pos u *ℤ pos 30 -ℤ z) (cond s 0 (m * u * 30) + below_zero z * 1)
    (cond s (m * u * 30) 0 + above_zero_rule z * 1)
taken_up false m u z = diff_minus (pos m *ℤ pos u *ℤ pos 30) z (m * u * 30) 0 (above_zero_rule z * 1) (below_zero z * 1) (diff_pos (m * u * 30)) (once z)
taken_up true m u z =
    diff_minus (neg_ℤ (pos m) *ℤ pos u *ℤ pos 30) z 0 (m * u * 30) (above_zero_rule z * 1) (below_zero z * 1)
    (subst (λ (i : ℕ). Diff (neg_ℤ (pos m) *ℤ pos u *ℤ pos 30) i (m * u * 30)) (ap (λ (i : ℕ). i * 30) (zero-mul u))
    (diff_scale (neg_ℤ (pos m) *ℤ pos u) 30 (0 * u) (m * u) (diff_scale (neg_ℤ (pos m)) u 0 m (diff_neg (pos m) m 0 (diff_pos m)))))
    (once z)

pub margin : (x : Float) (z : ℤ) (k b : ℕ) → Nearly x z k b → k ≤ 4096 → CloserThan millionth x z
margin nan z k b p h = p.near
margin (inf s) z k b p h = p.near
margin (fin s m (pos e)) z k b p h =
    apart s p.near.0 (m * 2 ^ e) unit 1 (k * rounding) z (signed s m *ℤ pos (2 ^ e) *ℤ pos 30 -ℤ z) p.near.1 (pow_pos 0)
    (few k 4096 rounding unit h (lit< tt)) p.near.2 (taken_up s m (2 ^ e) z)
margin (fin s m (negsuc e)) z k b p h =
    apart s p.near.0 m unit (2 ^ suc e) (k * rounding) z (signed s m *ℤ pos 30 -ℤ z *ℤ pos (2 ^ suc e))
    (ap (λ (i : ℕ). i * unit) (sym (mul-one m)) ∙ p.near.1) (pow_pos (suc e))
    (few k 4096 rounding unit h (lit< tt)) p.near.2 (taken s m (2 ^ suc e) z)
