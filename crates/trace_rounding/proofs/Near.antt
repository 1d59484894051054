-- A float that is near an exact number, and a sum of two such. Assumes nothing.
use mathlib.Core.Path.{◌≡◌, sym, ap, ◌∙◌, subst}
use mathlib.Core.Bool.{Bool, true, false, not, ◌&&◌, cond}
use Prim.Native.Nat.{ℕ, suc, ◌+◌, ◌-◌, ◌*◌, ◌^◌, ◌≤◌, ◌<◌}
use native.Mathlib.Nat.{le_trans, le_of_eq, lt_of_lt_of_le, lt_of_le_of_lt, mul_comm, mul_assoc, mul_right_comm, mul-pos, add-mul}
use native.Mathlib.Nat.{mul-lt-mul_of_pos_right, lt_of_mul-lt-mul_right, le_of_mul-le-mul_right, mul-sub}
use native.Mathlib.Omega.{arith}
use lib.Dec.{T, ltb, ltb→lt, lt→ltb, nltb→le}
use lib.Pow.{pow_pos}
use lib.Ieee.{Float, nan, inf, fin, Format, prec, emax, low, up, down, round, sum, add}
use lib.Ieee.Fits.{down_pos}
use lib.Ieee.Exact.{HasValue}
use lib.Ieee.Scale.{round_same, grid}
use Rattle.laws.proofs.Truth.{iff}
use Rattle.trace_rounding.proofs.Nearest.{round_off}

-- ---- a sum sees only the values of its operands
-- A / C is a / c and B / C is b / c
lt_over : (A B C a b c : ℕ) → 0 < c → A * c ≡ a * C → B * c ≡ b * C → A < B → a < b
lt_over A B C a b c P p q h = lt_of_mul-lt-mul_right C (lt_of_le_of_lt (le_of_eq (sym p)) (lt_of_lt_of_le (mul-lt-mul_of_pos_right h P) (le_of_eq q)))

ltb_over : (A B C a b c : ℕ) → 0 < C → 0 < c → A * c ≡ a * C → B * c ≡ b * C → ltb A B ≡ ltb a b
ltb_over A B C a b c P P' p q =
    iff (ltb A B) (ltb a b) (λ t. lt→ltb a b (lt_over A B C a b c P' p q (ltb→lt A B t)))
    (λ t. lt→ltb A B (lt_over a b c A B C P (sym p) (sym q) (ltb→lt a b t)))

add_over : (A B C a b c : ℕ) → A * c ≡ a * C → B * c ≡ b * C → (A + B) * c ≡ (a + b) * C
add_over A B C a b c p q = rw (add-mul A B c, add-mul a b C, p, q)

sub_over : (A B C a b c : ℕ) → A * c ≡ a * C → B * c ≡ b * C → (A - B) * c ≡ (a - b) * C
sub_over A B C a b c p q = mul_comm (A - B) c ∙ mul-sub c A B ∙ rw (mul_comm c A, mul_comm c B, p, q)
    (sym (mul_comm (a - b) C ∙ mul-sub C a b ∙ rw (mul_comm C a, mul_comm C b)))

pub sum_over : (f : Format) (s t : Bool) (A B C a b c : ℕ) → 0 < C → 0 < c → A * c ≡ a * C → B * c ≡ b * C → sum f s A t B C ≡ sum f s a t b c
unfolding sum
sum_over f s t A B C a b c P P' p q =
    rw (
      ltb_over A B C a b c P P' p q,
      ltb_over B A C b a c P P' q p,
      round_same f s (A + B) C (a + b) c P P' (add_over A B C a b c p q),
      round_same f t (B - A) C (b - a) c P P' (sub_over B A C b a c q p),
      round_same f (s && ltb b a) (A - B) C (a - b) c P P' (sub_over A B C a b c p q),
    )

-- ---- a float that is near an exact number, given in thirtieths: (p - n) / 30 units, at most e / 30 units off
abbrev pub Off : Bool → ℕ → ℕ → ℕ → ℕ → Type 0
Off false v p n e = (v + n ≤ p + e) × (p ≤ v + n + e)
Off true v p n e = (n ≤ p + v + e) × (p + v ≤ n + e)

abbrev pub Near : Format → Float → ℕ → ℕ → ℕ → Type 0
Near f nan p n e = ⊥
Near f (inf s) p n e = ⊥
Near f (fin s m d) p n e = (a : ℕ) × (m * up d * 2 ^ low f ≡ a * down d) × Off s (30 * a) p n e

-- one more rounding
off_more : (s : Bool) (c g h p n e : ℕ) → c ≤ g + h → g ≤ c + h → Off s (30 * c) p n e → Off s (30 * g) p n (e + 30 * h)
off_more false c g h p n e k l o = (omega (arith, o.0), omega (arith, o.1))
off_more true c g h p n e k l o = (omega (arith, o.0), omega (arith, o.1))

-- the exact number is below 2 ^ (prec + j) units
off_small : (s : Bool) (c p n e b : ℕ) → Off s (30 * c) p n e → p + e < n + 30 * b → n + e < p + 30 * b → c < b
off_small false c p n e b o k l = omega (arith, o.0)
off_small true c p n e b o k l = omega (arith, o.0, o.1)

halve : (c g u h : ℕ) → 0 < u → c * u * 2 ≤ g * u * 2 + u * h → c ≤ g + h
halve c g u h P k =
    le_of_mul-le-mul_right (le_trans (twice (c * u) (g * u) (u * h) k) (le_of_eq (ap (λ (x : ℕ). g * u + x) (mul_comm u h) ∙ sym (add-mul g h u)))) P
  where
    twice : (x y z : ℕ) → x * 2 ≤ y * 2 + z → x ≤ y + z
    twice x y z h = omega arith

pub of_value : (f : Format) (x : Float) (s : Bool) (g p n e : ℕ) → HasValue x s g (2 ^ low f) → Off s (30 * g) p n e → Near f x p n e
of_value f nan s g p n e v o = v
of_value f (inf t) s g p n e v o = v
of_value f (fin t m d) s g p n e v o = (g, v.1, subst (λ (b : Bool). Off b (30 * g) p n e) (sym v.0) o)

-- a number of units, rounded
pub rounded : (f : Format) (s : Bool) (c p n e j : ℕ) → Off s (30 * c) p n e → p + e < n + 30 * 2 ^ (prec f + j) → n + e < p + 30 * 2 ^ (prec f + j)
    → suc (prec f + j) ≤ low f + suc (emax f) → Near f (round f s c (2 ^ low f)) p n (e + 30 * 2 ^ j)
rounded f s c p n e j o k l room =
    let u = 2 ^ low f in
    let g = grid f c u in
    let r = round_off f s c u j (pow_pos (low f)) (mul-lt-mul_of_pos_right (off_small s c p n e (2 ^ (prec f + j)) o k l) (pow_pos (low f))) room in
    of_value f (round f s c u) s g p n (e + 30 * 2 ^ j) r.0
    (off_more s c g (2 ^ j) p n e (halve c g u (2 ^ j) (pow_pos (low f)) r.1.0) (halve g c u (2 ^ j) (pow_pos (low f)) r.1.1) o)

-- the exact sum, with the sign that `sum` gives it
sum_rounded : (f : Format) (s t : Bool) (a b p n e q m d j : ℕ) → Off s (30 * a) p n e → Off t (30 * b) q m d
    → p + q + (e + d) < n + m + 30 * 2 ^ (prec f + j) → n + m + (e + d) < p + q + 30 * 2 ^ (prec f + j) → suc (prec f + j) ≤ low f + suc (emax f)
    → Near f (sum f s a t b (2 ^ low f)) (p + q) (n + m) (e + d + 30 * 2 ^ j)
unfolding sum
sum_rounded f false false a b p n e q m d j x y k l room = rounded f false (a + b) (p + q) (n + m) (e + d) j
    (omega (arith, x.0, y.0), omega (arith, x.1, y.1)) k l room
sum_rounded f true true a b p n e q m d j x y k l room = rounded f true (a + b) (p + q) (n + m) (e + d) j
    (omega (arith, x.0, y.0), omega (arith, x.1, y.1)) k l room
sum_rounded f false true a b p n e q m d j x y k l room = go (ltb a b) (ltb→lt a b) (nltb→le a b)
  where
    go : (w : Bool) → (T w → a < b) → (T (not w) → b ≤ a)
        → Near f (cond w (round f true (b - a) (2 ^ low f)) (round f false (a - b) (2 ^ low f))) (p + q) (n + m) (e + d + 30 * 2 ^ j)
    go true h g = rounded f true (b - a) (p + q) (n + m) (e + d) j (omega (arith, x.0, y.0, h tt), omega (arith, x.1, y.1, h tt)) k l room
    go false h g = rounded f false (a - b) (p + q) (n + m) (e + d) j (omega (arith, x.0, y.0, g tt), omega (arith, x.1, y.1, g tt)) k l room
sum_rounded f true false a b p n e q m d j x y k l room = go (ltb a b) (ltb b a) (ltb→lt a b) (nltb→le a b) (ltb→lt b a) (nltb→le b a)
  where
    go : (w v : Bool) → (T w → a < b) → (T (not w) → b ≤ a) → (T v → b < a) → (T (not v) → a ≤ b)
        → Near f (cond w (round f false (b - a) (2 ^ low f)) (round f v (a - b) (2 ^ low f))) (p + q) (n + m) (e + d + 30 * 2 ^ j)
    go true v h g h' g' = rounded f false (b - a) (p + q) (n + m) (e + d) j (omega (arith, x.0, y.0, h tt), omega (arith, x.1, y.1, h tt)) k l room
    go false true h g h' g' = rounded f true (a - b) (p + q) (n + m) (e + d) j (omega (arith, x.0, y.0, g tt), omega (arith, x.1, y.1, g tt)) k l room
    go false false h g h' g' = rounded f false (a - b) (p + q) (n + m) (e + d) j
        (omega (arith, x.0, y.0, g tt, g' tt), omega (arith, x.1, y.1, g tt, g' tt)) k l room

-- THE LEMMA: the sum of two floats near two exact numbers is near the sum of these, with one rounding more
pub add_near : (f : Format) (x y : Float) (p n e q m d j : ℕ) → Near f x p n e → Near f y q m d
    → p + q + (e + d) < n + m + 30 * 2 ^ (prec f + j) → n + m + (e + d) < p + q + 30 * 2 ^ (prec f + j) → suc (prec f + j) ≤ low f + suc (emax f)
    → Near f (add f x y) (p + q) (n + m) (e + d + 30 * 2 ^ j)
unfolding add
add_near f nan y p n e q m d j x' y' k l room = absurd x'
add_near f (inf s) y p n e q m d j x' y' k l room = absurd x'
add_near f (fin s M E) nan p n e q m d j x' y' k l room = absurd y'
add_near f (fin s M E) (inf t) p n e q m d j x' y' k l room = absurd y'
add_near f (fin s M E) (fin t N D) p n e q m d j x' y' k l room =
    let u = 2 ^ low f in
    let a = x'.0 in
    let b = y'.0 in
    rw (sum_over f s t (M * up E * down D) (N * up D * down E) (down E * down D) a b u (mul-pos (down_pos E) (down_pos D)) (pow_pos (low f))
    (mul_right_comm (M * up E) (down D) u ∙ ap (λ (z : ℕ). z * down D) x'.1 ∙ mul_assoc a (down E) (down D))
    (mul_right_comm (N * up D) (down E) u ∙ ap (λ (z : ℕ). z * down E) y'.1 ∙ mul_assoc b (down D) (down E)
    ∙ ap (λ (z : ℕ). b * z) (mul_comm (down D) (down E))))
    (sum_rounded f s t a b p n e q m d j x'.2 y'.2 k l room)
