-- The double whose bits `sqrt` makes is the root, rounded: what `round` gives at a fraction that lies strictly nearest to a number of `prec`
-- digits, that value's bits, and roots of scaled numbers. No tie: an odd root's square is not even. Assumes nothing.
use Rattle.std.proofs.Common.{◌≡◌, ℕ, zero, suc, ◌+◌, ◌-◌, ◌*◌, ◌/◌, ◌%◌, ◌^◌, ◌<◌, ◌≤◌, Bool, true, false, cond, not, T, eqb, sym, refl, ap, ◌∙◌, subst, inl, inr, le_trans, le_of_eq, lt_of_lt_of_le, le_of_suc-le-suc, lt_of_le_of_lt, mul-le-mul_right, mul_assoc, suc-mul, mul_comm, div-lt_iff_lt-mul, add-mul, eq-zero-or-pos, le_antisymm, eq-or-lt_of_le, mul-le-mul_left, mul-lt-mul_of_pos_right, mul-pos, lt_of_not-le, le-div_iff_mul-le, zero-add, mul-one, mul_right_comm, not-le_of_lt, mul-div_cancel, mul_left_comm, arith, lit≤, eqb→eq, pow_pos, pow_mono, pow-add, le-ltb}
use native.Mathlib.Nat.{mul-mul-mul_comm}
use native.Mathlib.Nat.{eq_of_mul-eq-mul_right}
use lib.Ieee.{Float, nan, inf, fin, Format, binary64, prec, low, hid, up, down, size, units, round, to_bits, of_bits, nan_bits, fits}
use lib.Ieee.Digits.{size-lt, size-le}
use lib.Ieee.Fits.{round_is, round-fits, down_pos, two, two-le_pos}
use lib.Ieee.Exact.{HasValue, units_val}
use lib.Ieee.Bits.{of_bits-to_bits, nan_bits_above}
use lib.Ieee.Nearest.{closest}
use lib.Ieee.Order.{drop}
use Rattle.trace_rounding.proofs.Nearest.{Half, closest_off}
use Rattle.fit_root.specs.Root.{left, whole_root, nearest_root}
use Rattle.fit_root.specs.Whole.{IsRoot}
use Rattle.fit_root.proofs.Whole.{root_lt, square, whole_is, whole_fits, short_root}

-- ---- the only number strictly nearest
below : (c N u n : ℕ) → 0 < u → c * u * 2 ≤ n * 2 + u → n * 2 < N * u * 2 + u → c ≤ N
below c N u n P h k =
    le_of_suc-le-suc (lt_of_not-le (λ (g : suc N ≤ c). clash (mul-le-mul_right u g)))
  where
    clash : suc N * u ≤ c * u → ⊥
    clash g = let e : suc N * u ≡ N * u + u = suc-mul N u in omega arith

above : (c N u n : ℕ) → 0 < u → n * 2 ≤ c * u * 2 + u → N * u * 2 < n * 2 + u → N ≤ c
above c N u n P h k = le_of_suc-le-suc (lt_of_not-le (λ (g : suc c ≤ N). clash (mul-le-mul_right u g)))
  where
    clash : suc c * u ≤ N * u → ⊥
    clash g = let e : suc c * u ≡ c * u + u = suc-mul c u in omega arith

-- ---- how many digits
size_gt : (n j : ℕ) → 2 ^ j ≤ n → j < size n
size_gt n j h = lt_of_not-le (λ (g : size n ≤ j). not-le_of_lt (lt_of_lt_of_le (size-lt n) (pow_mono g)) h)

drop_is : (z p k : ℕ) → 0 < p → z ≤ p + k → p - 1 + k < z → z - p ≡ k
drop_is z p k P h l = omega arith

-- ---- A. `round`
pub round_to : (f : Format) (s : Bool) (num den N k : ℕ) → 0 < den
    → 2 ^ (prec f - 1 + k) * den ≤ num * 2 ^ low f → num * 2 ^ low f < 2 ^ (prec f + k) * den
    → num * 2 ^ low f * 2 < N * (den * 2 ^ k) * 2 + den * 2 ^ k → N * (den * 2 ^ k) * 2 < num * 2 ^ low f * 2 + den * 2 ^ k
    → round f s num den ≡ units f s N k
round_to f s num den N k D lo hi under over =
    let n = num * 2 ^ low f in
    let u = den * 2 ^ k in
    let P : 0 < u = mul-pos D (pow_pos k) in
    let d : drop (prec f) n den ≡ k = drop_is (size (n / den)) (prec f) k (two-le_pos (prec f) (two f))
    (size-le (n / den) (prec f + k) ((div-lt_iff_lt-mul D).1 hi)) (size_gt (n / den) (prec f - 1 + k) ((le-div_iff_mul-le D).1 lo)) in
    let h : Half (closest n u) u n = closest_off n u P in
    let c : closest n u ≡ N = le_antisymm (below (closest n u) N u n P h.1 under) (above (closest n u) N u n P h.0 over) in
    round_is f s num den
    ∙ ap (λ (z : ℕ). units f s (closest n (den * 2 ^ z)) z) d
    ∙ ap (λ (z : ℕ). units f s z k) c

-- ---- B. the bits of a value of `prec` digits
pub bits_of : (f : Format) (v : Float) (N k : ℕ) → HasValue v false (N * 2 ^ k) (2 ^ low f) → 2 ^ (prec f - 1) ≤ N → N < 2 ^ prec f → to_bits f v ≡ k * hid f + N
unfolding to_bits
bits_of f nan N k h lo hi = absurd h
bits_of f (inf s) N k h lo hi = absurd h
bits_of f (fin s m e) N k h lo hi =
    let n : m * up e * 2 ^ low f / down e ≡ N * 2 ^ k = ap (λ (z : ℕ). z / down e) h.1 ∙ mul-div_cancel (N * 2 ^ k) (down_pos e) in
    let lo' : 2 ^ (prec f - 1 + k) ≤ N * 2 ^ k = le_trans (le_of_eq (pow-add 2 (prec f - 1) k)) (mul-le-mul_right (2 ^ k) lo) in
    let hi' : N * 2 ^ k < 2 ^ (prec f + k) = lt_of_lt_of_le (mul-lt-mul_of_pos_right hi (pow_pos k)) (le_of_eq (sym (pow-add 2 (prec f) k))) in
    let d : size (N * 2 ^ k) - prec f ≡ k = drop_is (size (N * 2 ^ k)) (prec f) k (two-le_pos (prec f) (two f)) (size-le (N * 2 ^ k) (prec f + k) hi')
    (size_gt (N * 2 ^ k) (prec f - 1 + k) lo') in
    rw (h.0, n, d, mul-div_cancel N (pow_pos k)) (ap (λ (z : ℕ). z + N) (zero-add (k * hid f)))

-- ---- C. roots
pub scaled_square : (q W : ℕ) → q * W * (q * W) ≡ q * q * (W * W)
scaled_square q W = mul-mul-mul_comm q W q W

module _ (t q W s : ℕ) (P : 0 < W) (r : IsRoot t q) (R : IsRoot (t * (W * W)) s) where
  pub root_from : q * W ≤ s
  root_from = le_of_suc-le-suc (root_lt (q * W) (suc s) (lt_of_le_of_lt (le_of_eq (scaled_square q W))
      (lt_of_le_of_lt (mul-le-mul_right (W * W) r.low) R.high)))

  pub root_to : s < suc q * W
  root_to = root_lt s (suc q * W) (lt_of_le_of_lt R.low (lt_of_lt_of_le (mul-lt-mul_of_pos_right r.high (mul-pos P P))
      (le_of_eq (sym (scaled_square (suc q) W)))))

  -- where the root is exact, so is the other
  pub exact : q * W ≡ s → s * s ≡ t * (W * W) → q * q ≡ t
  exact e h = eq_of_mul-eq-mul_right (W * W) (mul-pos P P) (q * q) t (sym (scaled_square q W) ∙ ap (λ (z : ℕ). z * z) e ∙ h)

-- ---- D. the digits of the root, 2 s + last, lie strictly nearest to 4 N W, N being q / 2 rounded up
left_le : (n s : ℕ) → left n s ≤ 1
left_le n s = go (eqb (s * s) n)
  where
    go : (b : Bool) → cond b 0 1 ≤ 1
    go true = omega arith
    go false = omega arith

left_zero : (n s : ℕ) → left n s ≡ 0 → s * s ≡ n
left_zero n s = go (eqb (s * s) n) (eqb→eq (s * s) n)
  where
    go : (b : Bool) → (T b → s * s ≡ n) → ◌≡◌ {A = ℕ} (cond b 0 1) 0 → s * s ≡ n
    go true f e = f tt
    go false f e = absurd (omega arith)

-- an odd number's square is no even number
pub odd_square : (q t : ℕ) → q % 2 ≡ 1 → q * q ≡ t * 2 → ⊥
odd_square q t o e = let z : q ≡ q / 2 * 2 + 1 = omega arith in odd_eq (q / 2) (ap (λ (x : ℕ). x * x) (sym z) ∙ e)
  where
    odd_eq : (r : ℕ) → (r * 2 + 1) * (r * 2 + 1) ≡ t * 2 → ⊥
    odd_eq r h = omega (arith, square r)

over_by : (N k W : ℕ) → N * k * W ≡ N * W * k
over_by N k W = mul_right_comm N k W

module _ (t q W s N : ℕ) (P : 0 < W) (r : IsRoot (t * 2) q) (R : IsRoot (t * 2 * (W * W)) s) where
  pub digits_under : suc q ≤ N * 2 + 1 → 2 * s + left (t * 2 * (W * W)) s < N * W * 4 + W * 2
  digits_under h =
      let a : s < suc q * W = root_to (t * 2) q W s P r R in
      let b : suc q * W ≤ (N * 2 + 1) * W = mul-le-mul_right W h in
      let c : (N * 2 + 1) * W ≡ N * 2 * W + 1 * W = add-mul (N * 2) 1 W in
      let d : N * 2 * W ≡ N * W * 2 = over_by N 2 W in
      omega (arith, left_le (t * 2 * (W * W)) s)

  pub digits_over_even : q ≡ N * 2 → N * W * 4 < 2 * s + left (t * 2 * (W * W)) s + W * 2
  digits_over_even e =
      let a : q * W ≤ s = root_from (t * 2) q W s P r R in
      let b : q * W ≡ N * W * 2 = ap (λ (z : ℕ). z * W) e ∙ over_by N 2 W in
      omega arith

  pub digits_over_odd : suc q ≡ N * 2 → N * W * 4 < 2 * s + left (t * 2 * (W * W)) s + W * 2
  digits_over_odd e =
      let a : q * W ≤ s = root_from (t * 2) q W s P r R in
      let b : q * W + W ≡ N * W * 2 = sym (suc-mul q W) ∙ ap (λ (z : ℕ). z * W) e ∙ over_by N 2 W in
      elim (eq-or-lt_of_le a) [
        | inl z ↦
            elim (eq-zero-or-pos (left (t * 2 * (W * W)) s)) [
              | inl n ↦ absurd (odd_square q t (omega arith) (exact (t * 2) q W s P r R z (left_zero (t * 2 * (W * W)) s n)))
              | inr p ↦ omega arith
            ]
        | inr l ↦ omega arith
      ]

  pub digits_over : N ≡ (q + 1) / 2 → N * W * 4 < 2 * s + left (t * 2 * (W * W)) s + W * 2
  digits_over h = go (q % 2) refl
    where
      go : (b : ℕ) → q % 2 ≡ b → N * W * 4 < 2 * s + left (t * 2 * (W * W)) s + W * 2
      go zero e = digits_over_even (omega arith)
      go (suc b) e = digits_over_odd (omega arith)

-- ---- E. the root of a = M 4 ^ h / 2 ^ 60 units, for an M from 2 ^ 52 on, below 2 ^ 54 - 1
pub root_low : (M q : ℕ) → 2 ^ 52 ≤ M → IsRoot (M * 2 ^ 53 * 2) q → 2 ^ 53 ≤ q
root_low M q h r = le_of_suc-le-suc (root_lt (2 ^ 53) (suc q) (lt_of_le_of_lt (omega arith) r.high))

root_high : (M q : ℕ) → M < 2 ^ 54 - 1 → IsRoot (M * 2 ^ 53 * 2) q → q < 2 ^ 54 - 1
root_high M q h r = root_lt q (2 ^ 54 - 1) (lt_of_le_of_lt r.low (omega arith))

-- a's fraction as the root's
scaled_by : (a M h : ℕ) → M * (2 ^ h * 2 ^ h) ≡ a * 2 ^ 60 → a * 4 ^ 64 ≡ M * 2 ^ 53 * 2 * (2 ^ (h + 7) * 2 ^ (h + 7))
scaled_by a M h e =
    let z = 2 ^ h in
    let w : 2 ^ (h + 7) * 2 ^ (h + 7) ≡ z * z * 16384 = rw (pow-add 2 h 7) (mul-mul-mul_comm z 128 z 128) in
    let x : M * 2 ^ 53 * 2 * (z * z * 16384) ≡ M * (z * z) * (2 ^ 53 * 2 * 16384) =
    rw (mul_assoc M (2 ^ 53) 2) (mul-mul-mul_comm M (2 ^ 53 * 2) (z * z) 16384) in
    sym (mul_assoc a (2 ^ 60) (2 ^ 68)) ∙ ap (λ (y : ℕ). y * 2 ^ 68) (sym e) ∙ sym x ∙ ap (λ (y : ℕ). M * 2 ^ 53 * 2 * y) (sym w)

-- 2 ^ 602 * 2 ^ (h + 481) is 4 W times 2 ^ 1074
unit : (h : ℕ) → 2 ^ 602 * 2 ^ (h + 481) ≡ 2 ^ (h + 7) * 4 * 2 ^ 1074
unit h = rw (pow-add 2 h 481, pow-add 2 h 7) (mul_left_comm (2 ^ 602) (2 ^ h) (2 ^ 481)
    ∙ sym (mul_assoc (2 ^ h * 128) 4 (2 ^ 1074) ∙ mul_assoc (2 ^ h) 128 (4 * 2 ^ 1074)))

times : (N W L v : ℕ) → v ≡ W * 4 * L → N * v ≡ N * W * 4 * L
times N W L v e = ap (λ (z : ℕ). N * z) e ∙ sym (mul_assoc N (W * 4) L) ∙ ap (λ (z : ℕ). z * L) (sym (mul_assoc N W 4))

twice : (W L : ℕ) → W * L * 4 ≡ W * 2 * L * 2
twice W L = let e : W * 2 * L ≡ W * L * 2 = mul_right_comm W 2 L in omega arith

-- the four facts that `round_to` asks, from those of the digits x: L is 2 ^ 1074 and v is the unit, 4 W L
strict_under : (x N W L v : ℕ) → 0 < L → v ≡ W * 4 * L → x < N * W * 4 + W * 2 → x * L * 2 < N * v * 2 + v
strict_under x N W L v P e h =
    let a : N * v ≡ N * W * 4 * L = times N W L v e in
    let b : v ≡ W * 2 * L * 2 = e ∙ mul_right_comm W 4 L ∙ twice W L in
    let c : (N * W * 4 + W * 2) * L ≡ N * W * 4 * L + W * 2 * L = add-mul (N * W * 4) (W * 2) L in
    let d : x * L < (N * W * 4 + W * 2) * L = mul-lt-mul_of_pos_right h P in
    omega arith

strict_over : (x N W L v : ℕ) → 0 < L → v ≡ W * 4 * L → N * W * 4 < x + W * 2 → N * v * 2 < x * L * 2 + v
strict_over x N W L v P e h =
    let a : N * v ≡ N * W * 4 * L = times N W L v e in
    let b : v ≡ W * 2 * L * 2 = e ∙ mul_right_comm W 4 L ∙ twice W L in
    let c : (x + W * 2) * L ≡ x * L + W * 2 * L = add-mul x (W * 2) L in
    let d : N * W * 4 * L < (x + W * 2) * L = mul-lt-mul_of_pos_right h P in
    omega arith

-- the lowest and the highest that has `prec` digits
from_low : (x c W L v : ℕ) → v ≡ W * 4 * L → c * W * 4 ≤ x → c * v ≤ x * L
from_low x c W L v e h = le_trans (le_of_eq (times c W L v e)) (mul-le-mul_right L h)

from_high : (x c W L v : ℕ) → 0 < L → v ≡ W * 4 * L → x < c * W * 4 → x * L < c * v
from_high x c W L v P e h = lt_of_lt_of_le (mul-lt-mul_of_pos_right h P) (le_of_eq (sym (times c W L v e)))

digits_split : (c k den : ℕ) → c * (den * 2 ^ k) ≡ c * 2 ^ k * den
digits_split c k den = simp (mul_assoc, mul_comm, mul_left_comm)

-- bounds of the digits from those of q
low_digits : (q W s l : ℕ) → 2 ^ 53 ≤ q → q * W ≤ s → 2 ^ 52 * W * 4 ≤ 2 * s + l
low_digits q W s l h k = let a : 2 ^ 53 * W ≤ q * W = mul-le-mul_right W h in omega arith

high_digits : (q W s l : ℕ) → suc q ≤ 2 ^ 54 → s < suc q * W → l ≤ 1 → 2 * s + l < 2 ^ 53 * W * 4
high_digits q W s l h k b = let a : suc q * W ≤ 2 ^ 54 * W = mul-le-mul_right W h in omega arith

half_up : (q : ℕ) → suc q ≤ (q + 1) / 2 * 2 + 1
half_up q = omega arith

-- the root, rounded, is (q + 1) / 2 times 2 ^ (h + 481) units
rounded_at : (t q h s : ℕ) → 2 ^ 53 ≤ q → suc q ≤ 2 ^ 54 → IsRoot (t * 2) q → IsRoot (t * 2 * (2 ^ (h + 7) * 2 ^ (h + 7))) s
    → round binary64 false (2 * s + left (t * 2 * (2 ^ (h + 7) * 2 ^ (h + 7))) s) (2 ^ 602) ≡ units binary64 false ((q + 1) / 2) (h + 481)
rounded_at t q h s lo hi r R =
    let W = 2 ^ (h + 7) in
    let L = 2 ^ 1074 in
    let k = h + 481 in
    let N = (q + 1) / 2 in
    let P : 0 < W = pow_pos (h + 7) in
    let n = t * 2 * (W * W) in
    let x = 2 * s + left n s in
    let v = 2 ^ 602 * 2 ^ k in
    round_to binary64 false x (2 ^ 602) N k (pow_pos 602)
    (le_trans (le_of_eq (ap (λ (z : ℕ). z * 2 ^ 602) (pow-add 2 52 k) ∙ sym (digits_split (2 ^ 52) k (2 ^ 602))))
    (from_low x (2 ^ 52) W L v (unit h) (low_digits q W s (left n s) lo (root_from (t * 2) q W s P r R))))
    (lt_of_lt_of_le (from_high x (2 ^ 53) W L v (pow_pos 1074) (unit h) (high_digits q W s (left n s) hi (root_to (t * 2) q W s P r R) (left_le n s)))
    (le_of_eq (digits_split (2 ^ 53) k (2 ^ 602) ∙ ap (λ (z : ℕ). z * 2 ^ 602) (sym (pow-add 2 53 k)))))
    (strict_under x N W L v (pow_pos 1074) (unit h) (digits_under t q W s N P r R (half_up q)))
    (strict_over x N W L v (pow_pos 1074) (unit h) (digits_over t q W s N P r R refl))

not_too_high : (N k : ℕ) → N < 2 ^ 53 → k ≤ 2000 → N * 2 ^ k < 2 ^ 2098
not_too_high N k h l = lt_of_lt_of_le (mul-lt-mul_of_pos_right h (pow_pos k))
    (le_trans (le_of_eq (sym (pow-add 2 53 k))) (pow_mono {i = 53 + k} {j = 2098} (omega arith)))

half_low : (q : ℕ) → 2 ^ 53 ≤ q → 2 ^ 52 ≤ (q + 1) / 2
half_low q h = omega arith

half_high : (q : ℕ) → q < 2 ^ 54 - 1 → (q + 1) / 2 < 2 ^ 53
half_high q h = omega arith

in_54 : (q : ℕ) → q < 2 ^ 54 - 1 → suc q ≤ 2 ^ 54
in_54 q h = omega arith

under_2000 : (h : ℕ) → h ≤ 1052 → h + 481 ≤ 2000
under_2000 h l = omega arith

-- the value of the root of a = M 4 ^ h / 2 ^ 60 units
pub root_value : (a M h : ℕ) → M * (2 ^ h * 2 ^ h) ≡ a * 2 ^ 60 → 2 ^ 52 ≤ M → M < 2 ^ 54 - 1 → h ≤ 1052 → a * 4 ^ 64 < 4 ^ 1200
    → HasValue (nearest_root a) false ((whole_root 54 (M * 2 ^ 54) + 1) / 2 * 2 ^ (h + 481)) (2 ^ 1074)
unfolding nearest_root
root_value a M h e lo hi hh small =
    let t = M * 2 ^ 53 in
    let k = h + 481 in
    let q = whole_root 54 (M * 2 ^ 54) in
    let N = (q + 1) / 2 in
    let s = whole_root 1200 (a * 4 ^ 64) in
    let R : IsRoot (a * 4 ^ 64) s = whole_is 1200 (a * 4 ^ 64) small in
    let r : IsRoot (M * 2 ^ 54) q = whole_is 54 (M * 2 ^ 54) (whole_fits M hi) in
    let r' : IsRoot (t * 2) q = subst (λ (z : ℕ). IsRoot z q) (sym (mul_assoc M (2 ^ 53) 2)) r in
    let ql : 2 ^ 53 ≤ q = root_low M q lo r' in
    let qh : q < 2 ^ 54 - 1 = root_high M q hi r' in
    let same : a * 4 ^ 64 ≡ t * 2 * (2 ^ (h + 7) * 2 ^ (h + 7)) = scaled_by a M h e in
    let y = round binary64 false (2 * s + left (a * 4 ^ 64) s) (2 ^ 602) in
    let u : y ≡ units binary64 false N k = subst (λ (z : ℕ). round binary64 false (2 * s + left z s) (2 ^ 602) ≡ units binary64 false N k) (sym same)
    (rounded_at t q h s ql (in_54 q qh) r' (subst (λ (z : ℕ). IsRoot z s) same R)) in
    subst (λ (z : Float). HasValue z false (N * 2 ^ k) (2 ^ 1074)) (sym u) (units_val binary64 false N k (not_too_high N k (half_high q qh) (under_2000 h hh)))

root_fits : (a : ℕ) → T (fits binary64 (nearest_root a))
unfolding nearest_root
root_fits a = round-fits binary64 false (2 * whole_root 1200 (a * 4 ^ 64) + left (a * 4 ^ 64) (whole_root 1200 (a * 4 ^ 64))) (2 ^ 602)

-- so its bits are those that the program makes
pub rooted : (a M n h : ℕ) (x : Float) → M * (2 ^ h * 2 ^ h) ≡ a * 2 ^ 60 → 2 ^ 52 ≤ M → M < 2 ^ 54 - 1 → n ≡ (whole_root 54 (M * 2 ^ 54) + 1) / 2 → h ≤ 1052
    → a * 4 ^ 64 < 4 ^ 1200 → x ≡ of_bits binary64 ((h + 481) * 2 ^ 52 + n) → x ≡ nearest_root a
rooted a M n h x e lo hi is hh small bits =
    let k = h + 481 in
    let q = whole_root 54 (M * 2 ^ 54) in
    let N = (q + 1) / 2 in
    let r : IsRoot (M * 2 ^ 54) q = whole_is 54 (M * 2 ^ 54) (whole_fits M hi) in
    let r' : IsRoot (M * 2 ^ 53 * 2) q = subst (λ (z : ℕ). IsRoot z q) (sym (mul_assoc M (2 ^ 53) 2)) r in
    let ql : 2 ^ 53 ≤ q = root_low M q lo r' in
    let qh : q < 2 ^ 54 - 1 = root_high M q hi r' in
    let b : to_bits binary64 (nearest_root a) ≡ k * 2 ^ 52 + N = bits_of binary64 (nearest_root a) N k (root_value a M h e lo hi hh small) (half_low q ql)
    (half_high q qh) in
    bits ∙ ap (λ (z : ℕ). of_bits binary64 (k * 2 ^ 52 + z)) is ∙ ap (of_bits binary64) (sym b) ∙ of_bits-to_bits binary64 (nearest_root a) (root_fits a)

-- such bits are no NaN's
pub no_nan : (b : ℕ) → b < 2047 * 2 ^ 52 → T (not (nan_bits binary64 b))
no_nan b h = subst (λ (z : Bool). T (not z)) (sym (nan_bits_above binary64 b ∙ le-ltb (2047 * 2 ^ 52) (b % 2 ^ 63) (omega arith))) tt

-- ---- F. an exponent halved
half_pow : (e b : ℕ) → e % 2 ≡ b → 2 ^ e ≡ 2 ^ (e / 2) * 2 ^ (e / 2) * (1 + e % 2)
half_pow e zero h = let z : e ≡ e / 2 + e / 2 = omega arith in rw h (ap (λ (x : ℕ). 2 ^ x) z ∙ pow-add 2 (e / 2) (e / 2)
    ∙ sym (mul-one (2 ^ (e / 2) * 2 ^ (e / 2))))
half_pow e (suc b) h =
    let z : e ≡ e / 2 + e / 2 + 1 = omega arith in
    let w : 1 + e % 2 ≡ 2 = omega arith in
    rw w (ap (λ (x : ℕ). 2 ^ x) z ∙ pow-add 2 (e / 2 + e / 2) 1 ∙ ap (λ (x : ℕ). x * 2) (pow-add 2 (e / 2) (e / 2)))

pub halved : (n e : ℕ) → n * (1 + e % 2) * (2 ^ (e / 2) * 2 ^ (e / 2)) ≡ n * 2 ^ e
halved n e = mul_right_comm n (1 + e % 2) (2 ^ (e / 2) * 2 ^ (e / 2)) ∙ mul_assoc n (2 ^ (e / 2) * 2 ^ (e / 2)) (1 + e % 2)
    ∙ ap (λ (x : ℕ). n * x) (sym (half_pow e (e % 2) refl))

pub itself_at_least : (n e : ℕ) → n ≤ n * (1 + e % 2)
itself_at_least n e = le_trans (le_of_eq (sym (mul-one n))) (mul-le-mul_left n (one_at_least e))
  where
    one_at_least : (e : ℕ) → 1 ≤ 1 + e % 2
    one_at_least e = omega arith

-- from m * 2 ^ k units, scaled by 2 ^ 60 to n * 2 ^ e
pub scaled_units : (m k n e : ℕ) → n * 2 ^ e ≡ m * 2 ^ 60 → n * (1 + (e + k) % 2) * (2 ^ ((e + k) / 2) * 2 ^ ((e + k) / 2)) ≡ m * 2 ^ k * 2 ^ 60
scaled_units m k n e h = halved n (e + k) ∙ ap (λ (x : ℕ). n * x) (pow-add 2 e k) ∙ sym (mul_assoc n (2 ^ e) (2 ^ k)) ∙ ap (λ (x : ℕ). x * 2 ^ k) h
    ∙ mul_right_comm m (2 ^ 60) (2 ^ k)

-- and the number is a double's 53 digits
pub digits_at_most : (M n : ℕ) → M < 2 ^ 54 - 1 → n ≡ (whole_root 54 (M * 2 ^ 54) + 1) / 2 → n < 2 ^ 53
digits_at_most M n h e = half_short (whole_root 54 (M * 2 ^ 54)) n (short_root M (whole_root 54 (M * 2 ^ 54)) h (whole_is 54 (M * 2 ^ 54) (whole_fits M h))) e
  where
    half_short : (q n : ℕ) → q < 2 ^ 54 - 1 → n ≡ (q + 1) / 2 → n < 2 ^ 53
    half_short q n r e = omega arith

-- an m of 53 digits, k places up, is in reach of the definition
pub in_reach : (m k : ℕ) → m < 2 ^ 53 → k < 2046 → m * 2 ^ k * 4 ^ 64 < 4 ^ 1200
in_reach m k h l =
    lt_of_lt_of_le (mul-lt-mul_of_pos_right (lt_of_lt_of_le (mul-lt-mul_of_pos_right h (pow_pos k))
    (mul-le-mul_left (2 ^ 53) (pow_mono {i = k} {j = 2046} (omega arith)))) (pow_pos 128)) (lit≤ tt)
