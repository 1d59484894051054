-- A whole number divided by ten or by thirty, and one times a float: one rounding. Assumes nothing.
use mathlib.Core.Path.{◌≡◌, refl, sym, ap, ◌∙◌, subst}
use mathlib.Core.Bool.{Bool, true, false, not, true≢false}
use Prim.Native.Nat.{ℕ, suc, ◌+◌, ◌*◌, ◌^◌, ◌≤◌, ◌<◌}
use native.Mathlib.Nat.{le_trans, le_of_eq, lt_irrefl, mul_comm, mul_assoc, mul-one, mul_right_comm, mul_left_comm, mul-pos, mul-le-mul_right}
use native.Mathlib.Nat.{mul-lt-mul_of_pos_right, lt_of_lt_of_le, add-mul, zero-mul, one-mul}
use native.Mathlib.Omega.{arith}
use lib.Pow.{pow_pos}
use lib.Ieee.{Float, nan, inf, fin, Format, prec, emax, low, up, down, unlike, round, mul, div}
use lib.Ieee.Fits.{down_pos}
use lib.Ieee.Exact.{HasValue}
use lib.Ieee.Scale.{round_same, grid}
use borrow.Author.Tests.{ne_eqb}
use Rattle.trace_rounding.proofs.Nearest.{round_off}
use Rattle.trace_rounding.proofs.Near.{Off, Near, of_value, rounded}
use Rattle.trace_rounding.proofs.Whole.{Whole, off_neg, equal_false, equal_true}

-- ---- a whole number divided by b, where b c is 30
off_scale : (s : Bool) (v p n k : ℕ) → Off s v p n 0 → Off s (v * k) (p * k) (n * k) 0
off_scale false v p n k o = let e : p * k ≡ v * k + n * k = ap (λ (z : ℕ). z * k) (equal_false v p n o) ∙ add-mul v n k in (omega arith, omega arith)
off_scale true v p n k o = let e : n * k ≡ v * k + p * k = ap (λ (z : ℕ). z * k) (equal_true v p n o) ∙ add-mul v p k in (omega arith, omega arith)

off_by : (s : Bool) (v w p n h : ℕ) → v ≤ w + h → w ≤ v + h → Off s v p n 0 → Off s w p n h
off_by false v w p n h k l o = (omega (arith, o.0), omega (arith, o.1))
off_by true v w p n h k l o = (omega (arith, o.0), omega (arith, o.1))

-- x * 2 ≤ g * b * 2 + b * h, times c
thirty : (x g b c h : ℕ) → b * c ≡ 30 → x * 2 ≤ g * b * 2 + b * h → x * c ≤ 30 * g + 30 * h
thirty x g b c h e k =
    let w : x * 2 * c ≤ (g * b * 2 + b * h) * c = mul-le-mul_right c k in
    let u : (g * b * 2 + b * h) * c ≡ g * b * 2 * c + b * h * c = add-mul (g * b * 2) (b * h) c in
    let r : g * b * 2 * c ≡ g * 30 * 2 = mul_right_comm (g * b) 2 c ∙ ap (λ (z : ℕ). z * 2) (mul_assoc g b c ∙ ap (λ (z : ℕ). g * z) e) in
    let t : b * h * c ≡ 30 * h = mul_right_comm b h c ∙ ap (λ (z : ℕ). z * h) e in
    let v : x * 2 * c ≡ x * c * 2 = mul_right_comm x 2 c in
    omega arith

thirty_back : (x g b c h : ℕ) → b * c ≡ 30 → g * b * 2 ≤ x * 2 + b * h → 30 * g ≤ x * c + 30 * h
thirty_back x g b c h e k =
    let w : g * b * 2 * c ≤ (x * 2 + b * h) * c = mul-le-mul_right c k in
    let u : (x * 2 + b * h) * c ≡ x * 2 * c + b * h * c = add-mul (x * 2) (b * h) c in
    let r : g * b * 2 * c ≡ g * 30 * 2 = mul_right_comm (g * b) 2 c ∙ ap (λ (z : ℕ). z * 2) (mul_assoc g b c ∙ ap (λ (z : ℕ). g * z) e) in
    let t : b * h * c ≡ 30 * h = mul_right_comm b h c ∙ ap (λ (z : ℕ). z * h) e in
    let v : x * 2 * c ≡ x * c * 2 = mul_right_comm x 2 c in
    omega arith

-- a whole number a over b, rounded, with the sign s: near a c / 30
quotient : (f : Format) (s : Bool) (a b c p n j K : ℕ) → 0 < b → b * c ≡ 30 → Off s a p n 0 → p < n + K * b → n < p + K * b → K * 2 ^ low f ≤ 2 ^ (prec f + j)
    → suc (prec f + j) ≤ low f + suc (emax f) → Near f (round f s a b) (p * (2 ^ low f * c)) (n * (2 ^ low f * c)) (30 * 2 ^ j)
quotient f s a b c p n j K B e o k l big room =
    let u = 2 ^ low f in
    let g = grid f a b in
    let small : a < K * b = strictly s a p n (K * b) o k l in
    let r = round_off f s a b j B (lt_of_lt_of_le (mul-lt-mul_of_pos_right small (pow_pos (low f)))
    (le_trans (le_of_eq (mul_right_comm K b u)) (mul-le-mul_right b big))) room in
    let w : a * u * c ≡ a * (u * c) = mul_assoc a u c in
    of_value f (round f s a b) s g (p * (u * c)) (n * (u * c)) (30 * 2 ^ j) r.0
    (off_by s (a * (u * c)) (30 * g) (p * (u * c)) (n * (u * c)) (30 * 2 ^ j)
    (subst (λ (z : ℕ). z ≤ 30 * g + 30 * 2 ^ j) w (thirty (a * u) g b c (2 ^ j) e r.1.0))
    (subst (λ (z : ℕ). 30 * g ≤ z + 30 * 2 ^ j) w (thirty_back (a * u) g b c (2 ^ j) e r.1.1))
    (off_scale s a p n (u * c) o))
  where
    strictly : (s : Bool) (v p n b : ℕ) → Off s v p n 0 → p < n + b → n < p + b → v < b
    strictly false v p n b o k l = omega (arith, o.0)
    strictly true v p n b o k l = omega (arith, o.0, o.1)

unlike_false : (s : Bool) → unlike s false ≡ s
unlike_false true = refl
unlike_false false = refl

unlike_true : (s : Bool) → unlike s true ≡ not s
unlike_true true = refl
unlike_true false = refl

positive : (N U b D : ℕ) → 0 < b → 0 < D → N * U * 1 ≡ b * D → 0 < N * U
positive N U b D B P e = lt_of_lt_of_le (mul-pos B P) (le_of_eq (sym e ∙ mul-one (N * U)))

above_zero : (N U b D : ℕ) → 0 < b → 0 < D → N * U * 1 ≡ b * D → N ≡ 0 → ⊥
above_zero N U b D B P e z = lt_irrefl 0 (subst (λ (x : ℕ). 0 < x) (ap (λ (x : ℕ). x * U) z ∙ zero-mul U) (positive N U b D B P e))

crossed : (A d b a N e : ℕ) → A ≡ a * e → N ≡ b * d → A * d * b ≡ a * (N * e)
crossed A d b a N e p q = rw (p, q) (simp (mul_assoc, mul_comm, mul_left_comm))

-- by a b above zero
pub div_near : (f : Format) (x y : Float) (b c p n j K : ℕ) → 0 < b → b * c ≡ 30 → Whole x p n → HasValue y false b 1 → p < n + K * b → n < p + K * b
    → K * 2 ^ low f ≤ 2 ^ (prec f + j)
    → suc (prec f + j) ≤ low f + suc (emax f) → Near f (div f x y) (p * (2 ^ low f * c)) (n * (2 ^ low f * c)) (30 * 2 ^ j)
unfolding div
div_near f nan y b c p n j K B e x' y' k l big room = absurd x'
div_near f (inf s) y b c p n j K B e x' y' k l big room = absurd x'
div_near f (fin s M E) nan b c p n j K B e x' y' k l big room = absurd y'
div_near f (fin s M E) (inf t) b c p n j K B e x' y' k l big room = absurd y'
div_near f (fin s M E) (fin true N D) b c p n j K B e x' y' k l big room = absurd (true≢false y'.0)
div_near f (fin s M E) (fin false N D) b c p n j K B e x' y' k l big room =
    let a = x'.0 in
    rw (
      ne_eqb N 0 (λ z. above_zero N (up D) b (down D) B (down_pos D) y'.1 z),
      unlike_false s,
      round_same f s (M * up E * down D) (N * up D * down E) a b (mul-pos (positive N (up D) b (down D) B (down_pos D) y'.1) (down_pos E)) B
          (crossed (M * up E) (down D) b a (N * up D) (down E) (sym (mul-one (M * up E)) ∙ x'.1) (sym (mul-one (N * up D)) ∙ y'.1)),
    )
    (quotient f s a b c p n j K B e x'.2 k l big room)

-- by a b below zero
pub div_near_neg : (f : Format) (x y : Float) (b c p n j K : ℕ) → 0 < b → b * c ≡ 30 → Whole x p n → HasValue y true b 1 → p < n + K * b
    → n < p + K * b → K * 2 ^ low f ≤ 2 ^ (prec f + j)
    → suc (prec f + j) ≤ low f + suc (emax f) → Near f (div f x y) (n * (2 ^ low f * c)) (p * (2 ^ low f * c)) (30 * 2 ^ j)
unfolding div
div_near_neg f nan y b c p n j K B e x' y' k l big room = absurd x'
div_near_neg f (inf s) y b c p n j K B e x' y' k l big room = absurd x'
div_near_neg f (fin s M E) nan b c p n j K B e x' y' k l big room = absurd y'
div_near_neg f (fin s M E) (inf t) b c p n j K B e x' y' k l big room = absurd y'
div_near_neg f (fin s M E) (fin false N D) b c p n j K B e x' y' k l big room = absurd (true≢false (sym y'.0))
div_near_neg f (fin s M E) (fin true N D) b c p n j K B e x' y' k l big room =
    let a = x'.0 in
    rw (
      ne_eqb N 0 (λ z. above_zero N (up D) b (down D) B (down_pos D) y'.1 z),
      unlike_true s,
      round_same f (not s) (M * up E * down D) (N * up D * down E) a b (mul-pos (positive N (up D) b (down D) B (down_pos D) y'.1) (down_pos E)) B
          (crossed (M * up E) (down D) b a (N * up D) (down E) (sym (mul-one (M * up E)) ∙ x'.1) (sym (mul-one (N * up D)) ∙ y'.1)),
    )
    (quotient f (not s) a b c n p j K B e (off_neg s a p n 0 x'.2) l k big room)

-- ---- a whole number is near itself, and 1 times a float is near what the float is near, with one rounding more
pub whole_near : (f : Format) (x : Float) (p n : ℕ) → Whole x p n → Near f x (p * (2 ^ low f * 30)) (n * (2 ^ low f * 30)) 0
whole_near f nan p n h = h
whole_near f (inf s) p n h = h
whole_near f (fin s M E) p n h =
    let a = h.0 in
    let u = 2 ^ low f in (
      a * u,
      ap (λ (z : ℕ). z * u) (sym (mul-one (M * up E)) ∙ h.1) ∙ mul_right_comm a (down E) u,
      subst (λ (z : ℕ). Off s z (p * (u * 30)) (n * (u * 30)) 0) (sym (mul_assoc a u 30) ∙ mul_comm (a * u) 30) (off_scale s a p n (u * 30) h.2),
    )

pub one_near : (f : Format) (x y : Float) (p n e j : ℕ) → HasValue x false 1 1 → Near f y p n e → p + e < n + 30 * 2 ^ (prec f + j)
    → n + e < p + 30 * 2 ^ (prec f + j)
    → suc (prec f + j) ≤ low f + suc (emax f) → Near f (mul f x y) p n (e + 30 * 2 ^ j)
unfolding mul
one_near f nan y p n e j x' y' k l room = absurd x'
one_near f (inf s) y p n e j x' y' k l room = absurd x'
one_near f (fin true M E) y p n e j x' y' k l room = absurd (true≢false x'.0)
one_near f (fin false M E) nan p n e j x' y' k l room = absurd y'
one_near f (fin false M E) (inf t) p n e j x' y' k l room = absurd y'
one_near f (fin false M E) (fin t N D) p n e j x' y' k l room =
    let b = y'.0 in
    let u = 2 ^ low f in
    rw (
      false_unlike t,
      round_same f t (M * up E * (N * up D)) (down E * down D) b u (mul-pos (down_pos E) (down_pos D)) (pow_pos (low f))
          (mul_assoc (M * up E) (N * up D) u ∙ rw (y'.1, sym (mul-one (M * up E)) ∙ x'.1) (rw (one-mul (down E)) (mul_left_comm (down E) b (down D)))),
    )
    (rounded f t b p n e j y'.2 k l room)
  where
    false_unlike : (t : Bool) → unlike false t ≡ t
    false_unlike true = refl
    false_unlike false = refl
