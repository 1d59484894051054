-- Floats that are whole numbers: their sums, differences and products are exact. Assumes nothing.
use mathlib.Core.Path.{◌≡◌, sym, ap, ◌∙◌, subst}
use mathlib.Core.Bool.{Bool, true, false, not, cond}
use Prim.Native.Nat.{ℕ, suc, ◌+◌, ◌-◌, ◌*◌, ◌^◌, ◌≤◌, ◌<◌}
use native.Mathlib.Nat.{mul_comm, mul_assoc, mul_right_comm, mul-mul-mul_comm, mul-pos, mul-add, add-mul}
use native.Mathlib.Omega.{arith}
use lib.IntN.{pos, negsuc}
use lib.Dec.{T, ltb, ltb→lt, nltb→le}
use lib.Pow.{pow_pos}
use lib.Ieee.{Float, nan, inf, fin, Format, prec, up, down, unlike, round, neg, sum, add, mul, of_int}
use lib.Ieee.Fits.{down_pos}
use lib.Ieee.Exact.{HasValue}
use lib.Ieee.Back.{round_whole}
use lib.Ieee.Scale.{round_same}
use Rattle.trace_rounding.proofs.Near.{Off, Near, sum_over}

-- ---- x is the whole number p - n exactly
abbrev pub Whole : Float → ℕ → ℕ → Type 0
Whole nan p n = ⊥
Whole (inf s) p n = ⊥
Whole (fin s m d) p n = (a : ℕ) × (m * up d * 1 ≡ a * down d) × Off s a p n 0

whole_of : (x : Float) (s : Bool) (a p n : ℕ) → HasValue x s a 1 → Off s a p n 0 → Whole x p n
whole_of nan s a p n v o = v
whole_of (inf t) s a p n v o = v
whole_of (fin t m d) s a p n v o = (a, v.1, subst (λ (b : Bool). Off b a p n 0) (sym v.0) o)

-- an integer
pub of_pos : (f : Format) (z : ℕ) → z ≤ 2 ^ prec f → Whole (of_int f (pos z)) z 0
unfolding of_int
of_pos f z h = whole_of (round f false z 1) false z z 0 (round_whole f false z h) (omega arith, omega arith)

pub of_neg : (f : Format) (z : ℕ) → suc z ≤ 2 ^ prec f → Whole (of_int f (negsuc z)) 0 (suc z)
unfolding of_int
of_neg f z h = whole_of (round f true (suc z) 1) true (suc z) 0 (suc z) (round_whole f true (suc z) h) (omega arith, omega arith)

-- a sum: |p + q - (n + m)| is at most 2 ^ prec
off_at_most : (s : Bool) (c p n b : ℕ) → Off s c p n 0 → p ≤ n + b → n ≤ p + b → c ≤ b
off_at_most false c p n b o k l = omega (arith, o.0)
off_at_most true c p n b o k l = omega (arith, o.0, o.1)

exactly : (f : Format) (s : Bool) (c p n : ℕ) → Off s c p n 0 → p ≤ n + 2 ^ prec f → n ≤ p + 2 ^ prec f → Whole (round f s c 1) p n
exactly f s c p n o k l = whole_of (round f s c 1) s c p n (round_whole f s c (off_at_most s c p n (2 ^ prec f) o k l)) o

sum_whole : (f : Format) (s t : Bool) (a b p n q m : ℕ) → Off s a p n 0 → Off t b q m 0
    → p + q ≤ n + m + 2 ^ prec f → n + m ≤ p + q + 2 ^ prec f → Whole (sum f s a t b 1) (p + q) (n + m)
unfolding sum
sum_whole f false false a b p n q m x y k l = exactly f false (a + b) (p + q) (n + m) (omega (arith, x.0, y.0), omega (arith, x.1, y.1)) k l
sum_whole f true true a b p n q m x y k l = exactly f true (a + b) (p + q) (n + m) (omega (arith, x.0, y.0), omega (arith, x.1, y.1)) k l
sum_whole f false true a b p n q m x y k l = go (ltb a b) (ltb→lt a b) (nltb→le a b)
  where
    go : (w : Bool) → (T w → a < b) → (T (not w) → b ≤ a) → Whole (cond w (round f true (b - a) 1) (round f false (a - b) 1)) (p + q) (n + m)
    go true h g = exactly f true (b - a) (p + q) (n + m) (omega (arith, x.0, y.0, h tt), omega (arith, x.1, y.1, h tt)) k l
    go false h g = exactly f false (a - b) (p + q) (n + m) (omega (arith, x.0, y.0, g tt), omega (arith, x.1, y.1, g tt)) k l
sum_whole f true false a b p n q m x y k l = go (ltb a b) (ltb b a) (ltb→lt a b) (nltb→le a b) (nltb→le b a)
  where
    go : (w v : Bool) → (T w → a < b) → (T (not w) → b ≤ a) → (T (not v) → a ≤ b)
        → Whole (cond w (round f false (b - a) 1) (round f v (a - b) 1)) (p + q) (n + m)
    go true v h g g' = exactly f false (b - a) (p + q) (n + m) (omega (arith, x.0, y.0, h tt), omega (arith, x.1, y.1, h tt)) k l
    go false true h g g' = exactly f true (a - b) (p + q) (n + m) (omega (arith, x.0, y.0, g tt), omega (arith, x.1, y.1, g tt)) k l
    go false false h g g' = exactly f false (a - b) (p + q) (n + m) (omega (arith, x.0, y.0, g tt, g' tt), omega (arith, x.1, y.1, g tt, g' tt)) k l

pub add_whole : (f : Format) (x y : Float) (p n q m : ℕ) → Whole x p n → Whole y q m → p + q ≤ n + m + 2 ^ prec f → n + m ≤ p + q + 2 ^ prec f
    → Whole (add f x y) (p + q) (n + m)
unfolding add
add_whole f nan y p n q m x' y' k l = absurd x'
add_whole f (inf s) y p n q m x' y' k l = absurd x'
add_whole f (fin s M E) nan p n q m x' y' k l = absurd y'
add_whole f (fin s M E) (inf t) p n q m x' y' k l = absurd y'
add_whole f (fin s M E) (fin t N D) p n q m x' y' k l =
    let a = x'.0 in
    let b = y'.0 in
    rw (sum_over f s t (M * up E * down D) (N * up D * down E) (down E * down D) a b 1 (mul-pos (down_pos E) (down_pos D)) (pow_pos 0)
    (mul_right_comm (M * up E) (down D) 1 ∙ ap (λ (z : ℕ). z * down D) x'.1 ∙ mul_assoc a (down E) (down D))
    (mul_right_comm (N * up D) (down E) 1 ∙ ap (λ (z : ℕ). z * down E) y'.1 ∙ mul_assoc b (down D) (down E)
    ∙ ap (λ (z : ℕ). b * z) (mul_comm (down D) (down E))))
    (sum_whole f s t a b p n q m x'.2 y'.2 k l)

-- the other way round, for a difference
pub off_neg : (s : Bool) (v p n e : ℕ) → Off s v p n e → Off (not s) v n p e
off_neg false v p n e o = (omega (arith, o.1), omega (arith, o.0))
off_neg true v p n e o = (omega (arith, o.1), omega (arith, o.0))

pub neg_whole : (x : Float) (p n : ℕ) → Whole x p n → Whole (neg x) n p
unfolding neg
neg_whole nan p n h = h
neg_whole (inf s) p n h = h
neg_whole (fin s m e) p n h = (h.0, h.1, off_neg s h.0 p n 0 h.2)

pub neg_near : (f : Format) (x : Float) (p n e : ℕ) → Near f x p n e → Near f (neg x) n p e
unfolding neg
neg_near f nan p n e h = h
neg_near f (inf s) p n e h = h
neg_near f (fin s m d) p n e h = (h.0, h.1, off_neg s (30 * h.0) p n e h.2)

-- ---- a product of whole numbers
pub equal_false : (v p n : ℕ) → Off false v p n 0 → p ≡ v + n
equal_false v p n o = omega (arith, o.0, o.1)

pub equal_true : (v p n : ℕ) → Off true v p n 0 → n ≡ v + p
equal_true v p n o = omega (arith, o.0, o.1)

expand : (a b c d : ℕ) → (a + b) * (c + d) ≡ a * c + b * c + (a * d + b * d)
expand a b c d = mul-add (a + b) c d ∙ rw (add-mul a b c, add-mul a b d)

off_product : (s t : Bool) (a b p n q m : ℕ) → Off s a p n 0 → Off t b q m 0 → Off (unlike s t) (a * b) (p * q + n * m) (p * m + n * q) 0
off_product false false a b p n q m x y =
    rw (equal_false a p n x, equal_false b q m y) (let e = expand a n b m in let f = add-mul a n m in let g = mul-add n b m in (omega arith, omega arith))
off_product false true a b p n q m x y =
    rw (equal_false a p n x, equal_true b q m y) (let e = expand a n b q in let f = add-mul a n q in let g = mul-add n b q in (omega arith, omega arith))
off_product true false a b p n q m x y =
    rw (equal_true a p n x, equal_false b q m y) (let e = expand a p b m in let f = add-mul a p m in let g = mul-add p b m in (omega arith, omega arith))
off_product true true a b p n q m x y =
    rw (equal_true a p n x, equal_true b q m y) (let e = expand a p b q in let f = add-mul a p q in let g = mul-add p b q in (omega arith, omega arith))

pub mul_whole : (f : Format) (x y : Float) (p n q m : ℕ) → Whole x p n → Whole y q m
    → p * q + n * m ≤ p * m + n * q + 2 ^ prec f → p * m + n * q ≤ p * q + n * m + 2 ^ prec f → Whole (mul f x y) (p * q + n * m) (p * m + n * q)
unfolding mul
mul_whole f nan y p n q m x' y' k l = absurd x'
mul_whole f (inf s) y p n q m x' y' k l = absurd x'
mul_whole f (fin s M E) nan p n q m x' y' k l = absurd y'
mul_whole f (fin s M E) (inf t) p n q m x' y' k l = absurd y'
mul_whole f (fin s M E) (fin t N D) p n q m x' y' k l =
    let a = x'.0 in
    let b = y'.0 in
    rw (round_same f (unlike s t) (M * up E * (N * up D)) (down E * down D) (a * b) 1 (mul-pos (down_pos E) (down_pos D)) (pow_pos 0)
    (mul-mul-mul_comm (M * up E) (N * up D) 1 1 ∙ rw (x'.1, y'.1) (mul-mul-mul_comm a (down E) b (down D))))
    (exactly f (unlike s t) (a * b) (p * q + n * m) (p * m + n * q) (off_product s t a b p n q m x'.2 y'.2) k l)
