-- Doubles against whole numbers, as a sum that is worked step by step needs them. `Exactly x z b`: x is the whole number z, no farther
-- than b from zero. `Nearly x z k b`: thirty times x is at most k roundings from z, itself no farther than b from zero, where one rounding
-- is the most that one operation strays below 2^20: 2^-33. Assumes nothing.
use mathlib.Core.Path.{◌≡◌, refl, sym, ap, ◌∙◌, subst}
use mathlib.Core.Bool.{Bool, true, false}
use Prim.Native.Nat.{ℕ, suc, ◌+◌, ◌*◌, ◌^◌, ◌≤◌, ◌<◌}
use native.Mathlib.Nat.{le_trans, le_of_eq, add-mul, mul_assoc, mul_comm, mul-le-mul, mul-le-mul_right, suc-mul, one-mul, zero-mul}
use native.Mathlib.Omega.{arith}
use lib.Dec.{lit≤, lit<}
use lib.IntN.{ℤ, pos, negsuc, neg_ℤ, nat_abs, ◌+ℤ◌, ◌-ℤ◌, ◌*ℤ◌}
use lib.Ieee.{Float, nan, inf, fin, binary64, neg, add, sub, mul, div, of_int}
use lib.Ieee.Exact.{HasValue}
use Rattle.laws.proofs.Diff.{Diff, above_zero_rule, below_zero, diff_of, diff_add, diff_neg, diff_scale, diff_mul, diff_cross, abs_diff, abs_add, abs_turned, abs_mul}
use Rattle.trace_rounding.proofs.Near.{Off, Near, add_near}
use Rattle.trace_rounding.proofs.Whole.{Whole, of_pos, of_neg, add_whole, neg_whole, neg_near, mul_whole}
use Rattle.trace_rounding.proofs.Quotients.{div_near, div_near_neg, whole_near, one_near}

-- ---- p − n written otherwise
off_move : (s : Bool) (v p n q m e : ℕ) → p + m ≡ q + n → Off s v p n e → Off s v q m e
off_move false v p n q m e h o = (omega (arith, o.0), omega (arith, o.1))
off_move true v p n q m e h o = (omega (arith, o.0), omega (arith, o.1))

whole_move : (x : Float) (p n q m : ℕ) → p + m ≡ q + n → Whole x p n → Whole x q m
whole_move nan p n q m h w = w
whole_move (inf s) p n q m h w = w
whole_move (fin s a e) p n q m h w = (w.0, w.1, off_move s w.0 p n q m 0 h w.2)

near_move : (x : Float) (p n q m e : ℕ) → p + m ≡ q + n → Near binary64 x p n e → Near binary64 x q m e
near_move nan p n q m e h w = w
near_move (inf s) p n q m e h w = w
near_move (fin s a d) p n q m e h w = (w.0, w.1, off_move s (30 * w.0) p n q m e h w.2)

-- ---- x is the whole number z
pub record Exactly (x : Float) (z : ℤ) (b : ℕ) : Type 0 where
  pub is : Whole x (above_zero_rule z) (below_zero z)
  pub most : nat_abs z ≤ b

exactly_of : {x : Float} {z : ℤ} {b : ℕ} (p n : ℕ) → Diff z p n → nat_abs z ≤ b → Whole x p n → Exactly x z b
exactly_of {x} {z} p n d h w = record {
  is = whole_move x p n (above_zero_rule z) (below_zero z) (diff_cross z p n (above_zero_rule z) (below_zero z) d (diff_of z))
      w;
  most = h;
}

pub exactly_int : (z : ℤ) (b : ℕ) → nat_abs z ≤ b → b ≤ 2 ^ 53 → Exactly (of_int binary64 z) z b
exactly_int (pos n) b h r = record { is = of_pos binary64 n (le_trans h r); most = h }
exactly_int (negsuc n) b h r = record { is = of_neg binary64 n (le_trans h r); most = h }

pub exactly_add : {x y : Float} {z w : ℤ} {b c : ℕ} → Exactly x z b → Exactly y w c → b + c ≤ 2 ^ 53 → Exactly (add binary64 x y) (z +ℤ w) (b + c)
exactly_add {x} {y} {z} {w} {b} {c} p q r =
    let most : nat_abs (z +ℤ w) ≤ b + c = abs_add z w b c p.most q.most in
    let d : Diff (z +ℤ w) (above_zero_rule z + above_zero_rule w) (below_zero z + below_zero w) =
    diff_add z w (above_zero_rule z) (below_zero z) (above_zero_rule w) (below_zero w) (diff_of z) (diff_of w) in
    let l = abs_diff (z +ℤ w) (above_zero_rule z + above_zero_rule w) (below_zero z + below_zero w) (2 ^ 53) d (le_trans most r) in
    exactly_of (above_zero_rule z + above_zero_rule w) (below_zero z + below_zero w) d most
    (add_whole binary64 x y (above_zero_rule z) (below_zero z) (above_zero_rule w) (below_zero w) p.is q.is l.0 l.1)

pub exactly_neg : {x : Float} {z : ℤ} {b : ℕ} → Exactly x z b → Exactly (neg x) (neg_ℤ z) b
exactly_neg {x} {z} {b} p =
    exactly_of (below_zero z) (above_zero_rule z) (diff_neg z (above_zero_rule z) (below_zero z) (diff_of z)) (le_trans (le_of_eq (abs_turned z)) p.most)
    (neg_whole x (above_zero_rule z) (below_zero z) p.is)

pub exactly_sub : {x y : Float} {z w : ℤ} {b c : ℕ} → Exactly x z b → Exactly y w c → b + c ≤ 2 ^ 53 → Exactly (sub binary64 x y) (z -ℤ w) (b + c)
unfolding sub
exactly_sub p q r = exactly_add p (exactly_neg q) r

pub exactly_mul : {x y : Float} {z w : ℤ} {b c : ℕ} → Exactly x z b → Exactly y w c → b * c ≤ 2 ^ 53 → Exactly (mul binary64 x y) (z *ℤ w) (b * c)
exactly_mul {x} {y} {z} {w} {b} {c} p q r =
    let most : nat_abs (z *ℤ w) ≤ b * c = le_trans (le_of_eq (abs_mul z w)) (mul-le-mul p.most q.most) in
    let d : Diff (z *ℤ w) (above_zero_rule z * above_zero_rule w + below_zero z * below_zero w) (above_zero_rule z * below_zero w + below_zero z * above_zero_rule w) =
    diff_mul z w (above_zero_rule z) (below_zero z) (above_zero_rule w) (below_zero w) (diff_of z) (diff_of w) in
    let l = abs_diff (z *ℤ w) (above_zero_rule z * above_zero_rule w + below_zero z * below_zero w) (above_zero_rule z * below_zero w + below_zero z * above_zero_rule w) (2 ^ 53)
    d (le_trans most r) in
    exactly_of (above_zero_rule z * above_zero_rule w + below_zero z * below_zero w) (above_zero_rule z * below_zero w + below_zero z * above_zero_rule w) d most
    (mul_whole binary64 x y (above_zero_rule z) (below_zero z) (above_zero_rule w) (below_zero w) p.is q.is l.0 l.1)

-- ---- thirty times x is near z: in units of 2^-1074
abbrev pub unit : ℕ
unit = 2 ^ 1074

-- one rounding, thirty times
abbrev pub rounding : ℕ
rounding = 30 * 2 ^ 1041

pub record Nearly (x : Float) (z : ℤ) (k b : ℕ) : Type 0 where
  pub near : Near binary64 x (above_zero_rule z * unit) (below_zero z * unit) (k * rounding)
  pub most : nat_abs z ≤ b

scaled : (p n q m u : ℕ) → p + m ≡ q + n → p * u + m * u ≡ q * u + n * u
scaled p n q m u h = sym (add-mul p m u) ∙ ap (λ (k : ℕ). k * u) h ∙ add-mul q n u

nearly_of : {x : Float} {z : ℤ} {k b : ℕ} (p n : ℕ) → Diff z p n → nat_abs z ≤ b → Near binary64 x (p * unit) (n * unit) (k * rounding) → Nearly x z k b
nearly_of {x} {z} {k} {b} p n d h w = record {
  near = near_move x (p * unit) (n * unit) (above_zero_rule z * unit) (below_zero z * unit) (k * rounding)
      (scaled p n (above_zero_rule z) (below_zero z) unit (diff_cross z p n (above_zero_rule z) (below_zero z) d (diff_of z))) w;
  most = h;
}

-- a number of at most m units and k roundings has room below Z
room : (p q n m u b k K h Z : ℕ) → p + q ≤ n + m + b → k ≤ K → b * u + K * h < Z → p * u + q * u + k * h < n * u + m * u + Z
room p q n m u b k K h Z l i r =
    let a : (p + q) * u ≤ (n + m + b) * u = mul-le-mul_right u l in
    let c : k * h ≤ K * h = mul-le-mul_right h i in
    let d : (p + q) * u ≡ p * u + q * u = add-mul p q u in
    let e : (n + m + b) * u ≡ (n + m) * u + b * u = add-mul (n + m) b u in
    let f : (n + m) * u ≡ n * u + m * u = add-mul n m u in
    omega arith

-- the same number of roundings, summed
gathered : (x : Float) (p n k l h : ℕ) → Near binary64 x p n (k * h + l * h + h) → Near binary64 x p n (suc (k + l) * h)
gathered x p n k l h w = subst (λ (e : ℕ). Near binary64 x p n e) (omega (arith, suc-mul (k + l) h, add-mul k l h)) w

pub nearly_add : {x y : Float} {z w : ℤ} {k l b c : ℕ} → Nearly x z k b → Nearly y w l c → b + c ≤ 25000000 → k + l ≤ 4096
    → Nearly (add binary64 x y) (z +ℤ w) (suc (k + l)) (b + c)
nearly_add {x} {y} {z} {w} {k} {l} {b} {c} p q r s =
    let most : nat_abs (z +ℤ w) ≤ b + c = abs_add z w b c p.most q.most in
    let d : Diff (z +ℤ w) (above_zero_rule z + above_zero_rule w) (below_zero z + below_zero w) =
    diff_add z w (above_zero_rule z) (below_zero z) (above_zero_rule w) (below_zero w) (diff_of z) (diff_of w) in
    let f = abs_diff (z +ℤ w) (above_zero_rule z + above_zero_rule w) (below_zero z + below_zero w) 25000000 d (le_trans most r) in
    nearly_of (above_zero_rule z + above_zero_rule w) (below_zero z + below_zero w) d most
    (summed x y (above_zero_rule z) (below_zero z) (above_zero_rule w) (below_zero w) k l p.near q.near f.0 f.1 s)
  where
    split : (p q k l u h n m Z : ℕ) → p * u + q * u + (k + l) * h < n * u + m * u + Z → p * u + q * u + (k * h + l * h) < n * u + m * u + Z
    split p q k l u h n m Z r = omega (arith, add-mul k l h)

    summed : (x y : Float) (p n q m k l : ℕ) → Near binary64 x (p * unit) (n * unit) (k * rounding) → Near binary64 y (q * unit) (m * unit) (l * rounding)
        → p + q ≤ n + m + 25000000 → n + m ≤ p + q + 25000000 → k + l ≤ 4096
        → Near binary64 (add binary64 x y) ((p + q) * unit) ((n + m) * unit) (suc (k + l) * rounding)
    summed x y p n q m k l a b g h i =
        gathered (add binary64 x y) ((p + q) * unit) ((n + m) * unit) k l rounding
        (rw (add-mul p q unit, add-mul n m unit)
        (add_near binary64 x y (p * unit) (n * unit) (k * rounding) (q * unit) (m * unit) (l * rounding) 1041 a b
        (split p q k l unit rounding n m (30 * 2 ^ 1094) (room p q n m unit 25000000 (k + l) 4096 rounding (30 * 2 ^ 1094) g i (lit< tt)))
        (split n m k l unit rounding p q (30 * 2 ^ 1094) (room n m p q unit 25000000 (k + l) 4096 rounding (30 * 2 ^ 1094) h i (lit< tt)))
        (lit≤ tt)))

pub nearly_neg : {x : Float} {z : ℤ} {k b : ℕ} → Nearly x z k b → Nearly (neg x) (neg_ℤ z) k b
nearly_neg {x} {z} {k} {b} p =
    nearly_of (below_zero z) (above_zero_rule z) (diff_neg z (above_zero_rule z) (below_zero z) (diff_of z)) (le_trans (le_of_eq (abs_turned z)) p.most)
    (neg_near binary64 x (above_zero_rule z * unit) (below_zero z * unit) (k * rounding) p.near)

pub nearly_sub : {x y : Float} {z w : ℤ} {k l b c : ℕ} → Nearly x z k b → Nearly y w l c → b + c ≤ 25000000 → k + l ≤ 4096
    → Nearly (sub binary64 x y) (z -ℤ w) (suc (k + l)) (b + c)
unfolding sub
nearly_sub p q r s = nearly_add p (nearly_neg q) r s

-- ---- a whole number, a tenth and a thirtieth of one
times_unit : (x : Float) (p n c e : ℕ) → Near binary64 x (p * (unit * c)) (n * (unit * c)) e → Near binary64 x (p * c * unit) (n * c * unit) e
times_unit x p n c e w = subst (λ (i : ℕ). Near binary64 x i (n * c * unit) e) (turn p) (subst (λ (i : ℕ). Near binary64 x (p * (unit * c)) i e) (turn n) w)
  where
    turn : (p : ℕ) → p * (unit * c) ≡ p * c * unit
    turn p = ap (λ (i : ℕ). p * i) (mul_comm unit c) ∙ sym (mul_assoc p c unit)

scaled_most : (z : ℤ) (c b : ℕ) → nat_abs z ≤ b → nat_abs (z *ℤ pos c) ≤ b * c
scaled_most z c b h = le_trans (le_of_eq (abs_mul z (pos c))) (mul-le-mul_right c h)

pub nearly_whole : {x : Float} {z : ℤ} {b : ℕ} → Exactly x z b → Nearly x (z *ℤ pos 30) 0 (b * 30)
nearly_whole {x} {z} {b} p =
    nearly_of (above_zero_rule z * 30) (below_zero z * 30) (diff_scale z 30 (above_zero_rule z) (below_zero z) (diff_of z)) (scaled_most z 30 b p.most)
    (subst (λ (e : ℕ). Near binary64 x (above_zero_rule z * 30 * unit) (below_zero z * 30 * unit) e) (sym (zero-mul rounding))
    (times_unit x (above_zero_rule z) (below_zero z) 30 0 (whole_near binary64 x (above_zero_rule z) (below_zero z) p.is)))

pub nearly_tenth : (y : Float) {x : Float} {z : ℤ} {b : ℕ} → Exactly x z b → HasValue y false 10 1 → b ≤ 2 ^ 20
    → Nearly (div binary64 x y) (z *ℤ pos 3) 1 (b * 3)
nearly_tenth y {x} {z} {b} p ten r =
    let f = abs_diff z (above_zero_rule z) (below_zero z) (2 ^ 20) (diff_of z) (le_trans p.most r) in
    nearly_of (above_zero_rule z * 3) (below_zero z * 3) (diff_scale z 3 (above_zero_rule z) (below_zero z) (diff_of z)) (scaled_most z 3 b p.most)
    (subst (λ (e : ℕ). Near binary64 (div binary64 x y) (above_zero_rule z * 3 * unit) (below_zero z * 3 * unit) e) (sym (one-mul rounding))
    (times_unit (div binary64 x y) (above_zero_rule z) (below_zero z) 3 rounding
    (div_near binary64 x y 10 3 (above_zero_rule z) (below_zero z) 1041 (2 ^ 20) (omega arith) refl p.is ten
    (omega (arith, f.0)) (omega (arith, f.1)) (lit≤ tt) (lit≤ tt))))

pub nearly_minus_thirtieth : (y : Float) {x : Float} {z : ℤ} {b : ℕ} → Exactly x z b → HasValue y true 30 1 → b ≤ 2 ^ 20
    → Nearly (div binary64 x y) (neg_ℤ z) 1 b
nearly_minus_thirtieth y {x} {z} {b} p thirty r =
    let f = abs_diff z (above_zero_rule z) (below_zero z) (2 ^ 20) (diff_of z) (le_trans p.most r) in
    nearly_of (below_zero z) (above_zero_rule z) (diff_neg z (above_zero_rule z) (below_zero z) (diff_of z)) (le_trans (le_of_eq (abs_turned z)) p.most)
    (subst (λ (e : ℕ). Near binary64 (div binary64 x y) (below_zero z * unit) (above_zero_rule z * unit) e) (sym (one-mul rounding))
    (once (div binary64 x y) (below_zero z) (above_zero_rule z)
    (div_near_neg binary64 x y 30 1 (above_zero_rule z) (below_zero z) 1041 (2 ^ 20) (omega arith) refl p.is thirty
    (omega (arith, f.0)) (omega (arith, f.1)) (lit≤ tt) (lit≤ tt))))
  where
    once : (x : Float) (p n : ℕ) → Near binary64 x (p * (unit * 1)) (n * (unit * 1)) rounding → Near binary64 x (p * unit) (n * unit) rounding
    once x p n w = w

-- ---- one times a double
pub nearly_once : (x : Float) {y : Float} {z : ℤ} {k b : ℕ} → HasValue x false 1 1 → Nearly y z k b → b ≤ 25000000 → k ≤ 4096
    → Nearly (mul binary64 x y) z (suc k) b
nearly_once x {y} {z} {k} {b} one p r s =
    let f = abs_diff z (above_zero_rule z) (below_zero z) 25000000 (diff_of z) (le_trans p.most r) in
    nearly_of (above_zero_rule z) (below_zero z) (diff_of z) p.most
    (subst (λ (e : ℕ). Near binary64 (mul binary64 x y) (above_zero_rule z * unit) (below_zero z * unit) e) (sym (suc-mul k rounding))
    (one_near binary64 x y (above_zero_rule z * unit) (below_zero z * unit) (k * rounding) 1041 one p.near
    (alone (above_zero_rule z) (below_zero z) unit 25000000 k 4096 rounding (30 * 2 ^ 1094) f.0 s (lit< tt))
    (alone (below_zero z) (above_zero_rule z) unit 25000000 k 4096 rounding (30 * 2 ^ 1094) f.1 s (lit< tt))
    (lit≤ tt)))
  where
    alone : (p n u b k K h Z : ℕ) → p ≤ n + b → k ≤ K → b * u + K * h < Z → p * u + k * h < n * u + Z
    alone p n u b k K h Z l i r =
        let a : p * u ≤ (n + b) * u = mul-le-mul_right u l in
        let c : k * h ≤ K * h = mul-le-mul_right h i in
        let e : (n + b) * u ≡ n * u + b * u = add-mul n b u in
        omega arith
