-- Every double above zero: its root is a double, and of all doubles the nearest one. Assumes nothing.
use Rattle.std.proofs.Common.{◌≡◌, ℕ, zero, suc, ◌+◌, ◌-◌, ◌*◌, ◌/◌, ◌%◌, ◌^◌, ◌<◌, ◌≤◌, Bool, false, ◌&&◌, T, eqb, ltb, leb, ℤ, pos, negsuc, sym, ap, ◌∙◌, subst, le_of_eq, lt_of_lt_of_le, le_of_suc-le-suc, lt_of_le_of_lt, zero-lt-suc, mul_assoc, lt_of_mul-lt-mul_right, mul-lt-mul_of_pos_right, pow-suc, lt_of_not-le, zero-mul, mul-one, mul_right_comm, not-le_of_lt, mul-div_cancel, arith, lit≤, ltb→lt, leb→le, pow_pos, pow_mono, pow-add}
use native.Mathlib.Nat.{eq_of_mul-eq-mul_right}
use lib.Ieee.{Float, nan, inf, fin, binary64, up, down, fits}
use lib.Ieee.Fits.{and_l, and_r, down_pos}
use lib.Ieee.Exact.{HasValue}
use Rattle.fit_root.specs.Root.{units_of, nearest_root, root_of}
use Rattle.fit_root.specs.Closest.{IsDouble, Nearest, NearestOfAll}
use Rattle.fit_root.proofs.Closer.{nearest_root_holds}

-- what `fits` says of a double that isn't zero
record Fitting (m : ℕ) (e : ℤ) : Type 0 where
  short : suc m < 2 ^ 53
  low : down e ≤ 2 ^ 1074
  high : suc m * up e < 2 ^ 1024 * down e

fitting : (s : Bool) (m : ℕ) (e : ℤ) → T (fits binary64 (fin s (suc m) e)) → Fitting m e
unfolding fits
fitting s m e t =
    let a = eqb (suc m % 2) 1 in
    let b = ltb (suc m) (2 ^ 53) in
    let c = leb (down e) (2 ^ 1074) in
    let d = ltb (suc m * up e) (2 ^ 1024 * down e) in
    let abc = and_l (a && b && c) d t in
    record {
      short = ltb→lt (suc m) (2 ^ 53) (and_r a b (and_l (a && b) c abc));
      low = leb→le (down e) (2 ^ 1074) (and_r (a && b) c abc);
      high = ltb→lt (suc m * up e) (2 ^ 1024 * down e) (and_r (a && b && c) d t);
    }

-- it is so many units, moved up
record Moved (m : ℕ) (e : ℤ) : Type 0 where
  places : ℕ
  is : suc m * up e * 2 ^ 1074 ≡ suc m * 2 ^ places * down e
  bound : suc m * 2 ^ places < 2 ^ 2098

next_power : (y : ℕ) → 2 ^ y < 2 ^ suc y
next_power y =
    let a : 2 ^ suc y ≡ 2 ^ y * 2 = pow-suc 2 y in
    let b : 0 < 2 ^ y = pow_pos y in
    omega arith

fewer : (x y : ℕ) → 2 ^ x ≤ 2 ^ y → x ≤ y
fewer x y h = le_of_suc-le-suc (lt_of_not-le (λ (g : suc y ≤ x). not-le_of_lt (lt_of_lt_of_le (next_power y) (pow_mono g)) h))

moved : (m : ℕ) (e : ℤ) → Fitting m e → Moved m e
moved m (pos k) f =
    let form : suc m * 2 ^ (k + 1074) ≡ suc m * 2 ^ k * 2 ^ 1074 = ap (λ (x : ℕ). suc m * x) (pow-add 2 k 1074) ∙ sym (mul_assoc (suc m) (2 ^ k) (2 ^ 1074)) in
    record {
      places = k + 1074;
      is = sym form ∙ sym (mul-one (suc m * 2 ^ (k + 1074)));
      bound = lt_of_le_of_lt (le_of_eq form) (lt_of_lt_of_le (mul-lt-mul_of_pos_right f.high (pow_pos 1074)) (lit≤ tt));
    }
moved m (negsuc k) f =
    let le : suc k ≤ 1074 = fewer (suc k) 1074 f.low in
    let j = 1074 - suc k in
    let z : j + suc k ≡ 1074 = omega arith in
    let two : 2 ^ 1074 ≡ 2 ^ j * 2 ^ suc k = ap (λ (x : ℕ). 2 ^ x) (sym z) ∙ pow-add 2 j (suc k) in
    let is : suc m * 1 * 2 ^ 1074 ≡ suc m * 2 ^ j * 2 ^ suc k = ap (λ (x : ℕ). x * 2 ^ 1074) (mul-one (suc m)) ∙ ap (λ (x : ℕ). suc m * x) two
    ∙ sym (mul_assoc (suc m) (2 ^ j) (2 ^ suc k)) in
    let h : suc m * 1 * 2 ^ 1074 < 2 ^ 1024 * 2 ^ suc k * 2 ^ 1074 = mul-lt-mul_of_pos_right f.high (pow_pos 1074) in
    let g : suc m * 2 ^ j * 2 ^ suc k < 2 ^ 2098 * 2 ^ suc k = lt_of_le_of_lt (le_of_eq (sym is))
    (lt_of_lt_of_le h (le_of_eq (mul_right_comm (2 ^ 1024) (2 ^ suc k) (2 ^ 1074)))) in
    record { places = j; is = is; bound = lt_of_mul-lt-mul_right (2 ^ suc k) g }

-- a finite double that isn't negative, in units
is_double : (y : Float) (w : ℕ) → T (fits binary64 y) → HasValue y false w (2 ^ 1074) → IsDouble w
is_double nan w t v = absurd v
is_double (inf s) w t v = absurd v
is_double (fin s zero e) w t v = record {
  digits = 0;
  places = 0;
  is =
      eq_of_mul-eq-mul_right (down e) (down_pos e) w 0 (sym v.1 ∙ nothing (up e) (down e));
  short = omega arith;
}
  where
    nothing : (a b : ℕ) → 0 * a * 2 ^ 1074 ≡ 0 * b
    nothing a b = rw (zero-mul a, zero-mul b, zero-mul (2 ^ 1074))
is_double (fin s (suc m) e) w t v =
    let f = fitting s m e t in
    let d = moved m e f in
    record {
      digits = suc m;
      places = d.places;
      is = eq_of_mul-eq-mul_right (down e) (down_pos e) w (suc m * 2 ^ d.places) (sym v.1 ∙ d.is);
      short = f.short;
    }

-- the root of every double above zero
root_nearest : (m : ℕ) (e : ℤ) → T (fits binary64 (fin false (suc m) e)) → Nearest (units_of (suc m) e) (root_of (fin false (suc m) e))
unfolding root_of
root_nearest m e t =
    let f = fitting false m e t in
    let d = moved m e f in
    let same : units_of (suc m) e ≡ suc m * 2 ^ d.places = ap (λ (x : ℕ). x / down e) d.is ∙ mul-div_cancel (suc m * 2 ^ d.places) (down_pos e) in
    subst (λ (a : ℕ). Nearest a (nearest_root a)) (sym same) (nearest_root_holds (suc m) d.places (zero-lt-suc m) f.short d.bound)

pub nearest_of_all : NearestOfAll
nearest_of_all = record { root = root_nearest; doubles = is_double }
