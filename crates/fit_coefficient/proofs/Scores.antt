-- A double rounded down by the code's tests: in each of their cases the code's score counts as the definition's. Assumes nothing.
use Rattle.std.proofs.Common.{◌≡◌, ℕ, zero, suc, ◌+◌, ◌-◌, ◌*◌, ◌/◌, ◌^◌, ◌<◌, ◌≤◌, min, Bool, true, false, not, ◌&&◌, ◌||◌, T, eqb, ltb, ℤ, pos, negsuc, ◌-ℤ◌, neg_ℤ, nat_abs, sym, refl, ap, ◌∙◌, subst, true≢false, le_trans, le_of_eq, le_of_suc-le-suc, le_of_lt, suc-mul, div-lt_iff_lt-mul, le_antisymm, lt_of_mul-lt-mul_right, le-div_iff_mul-le, zero-mul, mul-one, mul_right_comm, div-mul-le_self, le_of_mul-le-mul_right, add-one, arith, lit≤, le→leb, lt→ltb, w16, SFits, to_z, ltb-false, ltb-true, lt-ltb, eqb-true}
use native.Mathlib.Nat.{div-eq_of_lt}
use borrow.Author.Tests.{eqb-false}
use lib.Signed.{le_z_yes}
use lib.Ieee.{Float, nan, inf, fin, binary64, up, down, of_bits, neg, lt, le, eq, ne, is_nan, of_int, to_unsigned}
use lib.Ieee.Fits.{down_pos}
use lib.Ieee.Compare.{differs_from_itself}
use lib.Ieee.Exact.{HasValue}
use lib.Ieee.Back.{round_whole}
use mir.ValLaws.{to_z_pos}
use Rattle.laws.proofs.Words.{held, held_is, fits_abs}
use Rattle.refusal.proofs.Paper.{one}
use Rattle.doubles.specs.Doubles.{dbl, ◌⊘◌, d0, d2}
use Rattle.fit_root.proofs.Fields.{both_l}
use Rattle.score_expected.specs.Expected.{expected_of}
use Rattle.score_expected.proofs.Counts.{counts_as}
use Rattle.fit_coefficient.specs.Coefficient.{d1000000, minus2, expected_points, points_at}

-- ---- 1. scores outside the table's range count as its ends
same_entry : (z w : ℤ) → expected_of z ≡ expected_of w → expected_points z ≡ expected_points w
unfolding expected_points
same_entry z w e = ap (λ (a : ℕ). dbl (pos a) ⊘ d1000000) e

from_1600 : (n : ℕ) → 1600 ≤ n → expected_points (pos 1600) ≡ expected_points (pos n)
from_1600 n h = same_entry (pos 1600) (pos n) (one ((counts_as (pos 1600)).over (le_z_yes tt)) ((counts_as (pos n)).over (le_z_yes (le→leb 1600 n h))))

to_1600 : (n : ℕ) → 1600 ≤ n → expected_points (negsuc 1599) ≡ expected_points (neg_ℤ (pos n))
to_1600 zero h = absurd (omega arith)
to_1600 (suc n) h = same_entry (negsuc 1599) (negsuc n) (one ((counts_as (negsuc 1599)).below (le_z_yes tt))
    ((counts_as (negsuc n)).below (le_z_yes (le→leb 1599 n (le_of_suc-le-suc h)))))

-- ---- 2. n/d rounded up, d above 0
module _ (n d : ℕ) (D : 0 < d) where
  abbrev whole : ℕ
  whole = n / d

  not_over : whole * d ≤ n
  not_over = div-mul-le_self n d

  next_over : n < suc whole * d
  next_over = (div-lt_iff_lt-mul D).0 (omega arith)

  -- nothing is left of n/d
  even : n ≤ whole * d → whole ≡ (n + (d - 1)) / d
  even h =
      le_antisymm ((le-div_iff_mul-le D).1 (lower (whole * d) n d not_over))
      (below ((div-lt_iff_lt-mul D).1 (rw (suc-mul whole d) (upper (whole * d) n d D h))))
    where
      lower : (p n d : ℕ) → p ≤ n → p ≤ n + (d - 1)
      lower p n d h = omega arith

      upper : (p n d : ℕ) → 0 < d → n ≤ p → n + (d - 1) < p + d
      upper p n d D h = omega arith

      below : {a b : ℕ} → a < suc b → a ≤ b
      below h = omega arith

  -- something is left
  odd : whole * d < n → suc whole ≡ (n + (d - 1)) / d
  odd h =
      le_antisymm ((le-div_iff_mul-le D).1 (rw (suc-mul whole d) (lower (whole * d) n d h)))
      (below ((div-lt_iff_lt-mul D).1 (rw (suc-mul (suc whole) d) (upper (suc whole * d) n d D next_over))))
    where
      lower : (p n d : ℕ) → p < n → p + d ≤ n + (d - 1)
      lower p n d h = omega arith

      upper : (p n d : ℕ) → 0 < d → n < p → n + (d - 1) < p + d
      upper p n d D h = omega arith

      below : {a b : ℕ} → a < suc b → a ≤ b
      below h = omega arith

-- ---- 3. the code's tests, on numbers: d is a power of two, n/d the double
le_cases : (a b : ℕ) → (ltb a b || (eqb a b && true)) ≡ true → a ≤ b
le_cases a b h = go (ltb a b) (eqb a b) refl refl h
  where
    go : (p q : Bool) → ltb a b ≡ p → eqb a b ≡ q → (p || (q && true)) ≡ true → a ≤ b
    go true q e f k = le_of_lt (ltb-true a b e)
    go false true e f k = le_of_eq (eqb-true a b f)
    go false false e f k = absurd (true≢false (sym k))

lt_cases : (a b : ℕ) → (ltb a b || (eqb a b && true)) ≡ false → b < a
lt_cases a b h = go (ltb a b) (eqb a b) refl refl h
  where
    go : (p q : Bool) → ltb a b ≡ p → eqb a b ≡ q → (p || (q && true)) ≡ false → b < a
    go true q e f k = absurd (true≢false k)
    go false true e f k = absurd (true≢false k)
    go false false e f k = apart (ltb-false a b e) (eqb-false a b f)
      where
        apart : b ≤ a → (a ≡ b → ⊥) → b < a
        apart g n = omega (arith, n)

both_r : (p q : Bool) → p && q ≡ true → q ≡ true
both_r true q e = e
both_r false q e = absurd (true≢false (sym e))

abbrev pub d1600 : Float
d1600 = of_bits binary64 0x4099_0000_0000_0000

some_1600 : (d : ℕ) → 0 < d → 1600 * d ≡ 0 → ⊥
some_1600 d D e = omega arith

-- from 1600 on
pub over : (x : Float) → le d1600 x ≡ true → expected_points (pos 1600) ≡ points_at x
unfolding le lt eq of_bits points_at
over nan h = absurd (true≢false (sym h))
over (inf true) h = absurd (true≢false (sym h))
over (inf false) h = refl
over (fin true m e) h = absurd (some_1600 (down e) (down_pos e) (eqb-true (1600 * down e) 0
    (both_r (eqb (1600 * down e) (m * up e * 1)) (eqb (1600 * down e) 0) h)))
over (fin false m e) h =
    from_1600 (m * up e / down e) ((le-div_iff_mul-le (down_pos e)).1 (once (m * up e) (le_cases (1600 * down e) (m * up e * 1) h)))
  where
    once : {a : ℕ} (b : ℕ) → a ≤ b * 1 → a ≤ b
    once b k = omega arith

-- below −1600
pub under : (x : Float) → lt x (neg d1600) ≡ true → expected_points (negsuc 1599) ≡ points_at x
unfolding lt of_bits neg points_at
under nan h = absurd (true≢false (sym h))
under (inf true) h = refl
under (inf false) h = absurd (true≢false (sym h))
under (fin false m e) h = absurd (true≢false (sym h))
under (fin true m e) h =
    to_1600 ((m * up e + (down e - 1)) / down e) ((le-div_iff_mul-le (down_pos e)).1 (more (m * up e) (down e) (ltb-true (1600 * down e) (m * up e * 1) h)))
  where
    more : (n d : ℕ) → 1600 * d < n * 1 → 1600 * d ≤ n + (d - 1)
    more n d k = omega arith

-- from 0 on, below 1600: the whole part, which `truncating_f64_to_u64` gives of such a double
pub record Above (x : Float) : Type 0 where
  pub low : T (lt (fin true 1 (pos 0)) x)
  pub high : T (lt x (fin false 1 (pos 64)))
  pub small : to_unsigned 64 x < 1600
  pub counts : expected_points (pos (to_unsigned 64 x)) ≡ points_at x

uncapped : (n : ℕ) → n < 1600 → n ≡ min n (2 ^ 64 - 1)
uncapped n h = omega arith

lit : 0 < 1600
lit = omega arith

-- −0 among them
above_zero : (m : ℕ) (e : ℤ) → m * up e * 1 ≡ 0 → Above (fin true m e)
unfolding lt points_at to_unsigned
above_zero m e none = record {
  low = lt→ltb (m * up e * 1) (1 * down e) (first (m * up e) (down e) none (down_pos e));
  high = lt→ltb 0 (m * up e * 1 + 1 * 2 ^ 64 * down e) (second (m * up e) (down e) (down_pos e));
  small = lit;
  counts = ap (λ (z : ℕ). expected_points (neg_ℤ (pos z))) (nothing (m * up e) (down e) none (down_pos e));
}
  where
    first : (n d : ℕ) → n * 1 ≡ 0 → 0 < d → n * 1 < 1 * d
    first n d p q = omega arith

    second : (n d : ℕ) → 0 < d → 0 < n * 1 + 1 * 18446744073709551616 * d
    second n d p = omega arith

    nothing : (n d : ℕ) → n * 1 ≡ 0 → 0 < d → 0 ≡ (n + (d - 1)) / d
    nothing n d p q = sym (div-eq_of_lt (short n d p q))
      where
        short : (n d : ℕ) → n * 1 ≡ 0 → 0 < d → n + (d - 1) < d
        short n d p q = omega arith

above_some : (m : ℕ) (e : ℤ) → m * up e * 1 < 1600 * down e → Above (fin false m e)
unfolding lt points_at to_unsigned
above_some m e most = record {
  low = lt→ltb 0 (1 * down e + m * up e * 1) (first (m * up e) (down e) (down_pos e));
  high = lt→ltb (m * up e * 1) (1 * 2 ^ 64 * down e) (second (m * up e) (down e) (down_pos e) most);
  small = subst (λ (z : ℕ). z < 1600) (uncapped (m * up e / down e) less) less;
  counts = ap (λ (z : ℕ). expected_points (pos z)) (sym (uncapped (m * up e / down e) less));
}
  where
    once : (n d : ℕ) → n * 1 < 1600 * d → n < 1600 * d
    once n d p = omega arith

    less : m * up e / down e < 1600
    less = (div-lt_iff_lt-mul (down_pos e)).1 (once (m * up e) (down e) most)

    first : (n d : ℕ) → 0 < d → 0 < 1 * d + n * 1
    first n d p = omega arith

    second : (n d : ℕ) → 0 < d → n * 1 < 1600 * d → n * 1 < 1 * 18446744073709551616 * d
    second n d p g = omega arith

pub above : (x : Float) → le d1600 x ≡ false → le d0 x ≡ true → Above x
unfolding le lt eq of_bits points_at to_unsigned
above nan h k = absurd (true≢false (sym k))
above (inf true) h k = absurd (true≢false (sym k))
above (inf false) h k = absurd (true≢false h)
above (fin true m e) h k = above_zero m e (sym (eqb-true (0 * down e) (m * up e * 1) (both_l (eqb (0 * down e) (m * up e * 1)) (eqb (0 * down e) 0) k))
    ∙ zero-mul (down e))
above (fin false m e) h k = above_some m e (lt_cases (1600 * down e) (m * up e * 1) h)

-- ---- 4. below 0, from −1600 on: the code compares the whole part of −x with −x
-- a whole number's double against n/d, by its test
module _ (k g q n d : ℕ) (G : 0 < g) (e : k * 1 ≡ q * g) where
  same : k * d ≡ q * d * g
  same = ap (λ (z : ℕ). z * d) (sym (mul-one k) ∙ e) ∙ mul_right_comm q g d

  left_over : ltb (k * d) (n * g) ≡ true → q * d < n
  left_over t = lt_of_mul-lt-mul_right g (subst (λ (z : ℕ). z < n * g) same (ltb-true (k * d) (n * g) t))

  nothing_over : ltb (k * d) (n * g) ≡ false → n ≤ q * d
  nothing_over t = le_of_mul-le-mul_right (subst (λ (z : ℕ). n * g ≤ z) same (ltb-false (k * d) (n * g) t)) G

more : (v : Float) (q m : ℕ) (e : ℤ) → HasValue v false q 1 → lt v (fin false m e) ≡ true → q * down e < m * up e
unfolding lt
more nan q m e v t = absurd v
more (inf s) q m e v t = absurd v
more (fin true k g) q m e v t = absurd (true≢false v.0)
more (fin false k g) q m e v t = left_over (k * up g) (down g) q (m * up e) (down e) (down_pos g) v.1 t

no_more : (v : Float) (q m : ℕ) (e : ℤ) → HasValue v false q 1 → lt v (fin false m e) ≡ false → m * up e ≤ q * down e
unfolding lt
no_more nan q m e v t = absurd v
no_more (inf s) q m e v t = absurd v
no_more (fin true k g) q m e v t = absurd (true≢false v.0)
no_more (fin false k g) q m e v t = nothing_over (k * up g) (down g) q (m * up e) (down e) (down_pos g) v.1 t

-- what the code knows of −x and of its whole part
pub record Below (x : Float) : Type 0 where
  pub low : T (lt (fin true 1 (pos 0)) (neg x))
  pub high : T (lt (neg x) (fin false 1 (pos 64)))
  pub small : to_unsigned 64 (neg x) ≤ 1600
  pub above_whole : lt (of_int binary64 (pos (to_unsigned 64 (neg x)))) (neg x) ≡ true → expected_points (neg_ℤ (pos (to_unsigned 64 (neg x) + 1))) ≡ points_at x
  pub is_whole : lt (of_int binary64 (pos (to_unsigned 64 (neg x)))) (neg x) ≡ false → expected_points (neg_ℤ (pos (to_unsigned 64 (neg x)))) ≡ points_at x

module _ (m : ℕ) (e : ℤ) (most : m * up e * 1 ≤ 1600 * down e) where
  abbrev whole_part : ℕ
  whole_part = m * up e / down e

  within : whole_part ≤ 1600
  within = at_most ((div-lt_iff_lt-mul (down_pos e)).1 (room (m * up e) (down e) (down_pos e) most))
    where
      room : (n d : ℕ) → 0 < d → n * 1 ≤ 1600 * d → n < 1601 * d
      room n d p h = omega arith

      at_most : {a : ℕ} → a < 1601 → a ≤ 1600
      at_most h = omega arith

  given_whole : to_unsigned 64 (fin false m e) ≡ whole_part
  unfolding to_unsigned
  given_whole = sym (capped whole_part within)
    where
      capped : (n : ℕ) → n ≤ 1600 → n ≡ min n (2 ^ 64 - 1)
      capped n h = omega arith

  value : HasValue (of_int binary64 (pos whole_part)) false whole_part 1
  unfolding of_int
  value = round_whole binary64 false whole_part (le_trans within (lit≤ tt))

  below_some : Below (fin true m e)
  unfolding lt neg points_at
  below_some = record {
    low = lt→ltb 0 (1 * down e + m * up e * 1) (first (m * up e) (down e) (down_pos e));
    high = lt→ltb (m * up e * 1) (1 * 2 ^ 64 * down e) (second (m * up e) (down e) (down_pos e) most);
    small = rw given_whole within;
    above_whole = rw given_whole (λ t. ap (λ (z : ℕ). expected_points (neg_ℤ (pos z)))
        (add-one (m * up e / down e) ∙ odd (m * up e) (down e) (down_pos e) (more (of_int binary64 (pos whole_part)) whole_part m e value t)));
    is_whole = rw given_whole (λ t. ap (λ (z : ℕ). expected_points (neg_ℤ (pos z)))
        (even (m * up e) (down e) (down_pos e) (no_more (of_int binary64 (pos whole_part)) whole_part m e value t)));
  }
    where
      first : (n d : ℕ) → 0 < d → 0 < 1 * d + n * 1
      first n d p = omega arith

      second : (n d : ℕ) → 0 < d → n * 1 ≤ 1600 * d → n * 1 < 1 * 18446744073709551616 * d
      second n d p g = omega arith

pub below : (x : Float) → T (not (is_nan x)) → lt x (neg d1600) ≡ false → le d0 x ≡ false → Below x
unfolding le lt eq of_bits neg is_nan
below nan f h k = absurd f
below (inf true) f h k = absurd (true≢false h)
below (inf false) f h k = absurd (true≢false k)
below (fin false m e) f h k = absurd (nothing_below (m * up e * 1) (down e) (lt_cases (0 * down e) (m * up e * 1) k))
  where
    nothing_below : (n d : ℕ) → n < 0 * d → ⊥
    nothing_below n d p = omega arith
below (fin true m e) f h k = below_some m e (ltb-false (1600 * down e) (m * up e * 1) h)

-- by what the code's calls gave: the whole part w of −x, and its double v
module _ (x v : Float) (w : ℕ) (b : Below x) (e : w ≡ to_unsigned 64 (neg x)) (d : v ≡ of_int binary64 (pos w)) where
  same_double : v ≡ of_int binary64 (pos (to_unsigned 64 (neg x)))
  same_double = d ∙ ap (λ (n : ℕ). of_int binary64 (pos n)) e

  pub some_left : lt v (neg x) ≡ true → expected_points (neg_ℤ (pos (w + 1))) ≡ points_at x
  some_left t = ap (λ (n : ℕ). expected_points (neg_ℤ (pos (n + 1)))) e ∙ b.above_whole (subst (λ (u : Float). lt u (neg x) ≡ true) same_double t)

  pub none_left : lt v (neg x) ≡ false → expected_points (neg_ℤ (pos w)) ≡ points_at x
  none_left t = ap (λ (n : ℕ). expected_points (neg_ℤ (pos n))) e ∙ b.is_whole (subst (λ (u : Float). lt u (neg x) ≡ false) same_double t)

-- ---- 5. NaN, and the code's constants
pub at_nan : (x : Float) → ne x x ≡ true → x ≡ points_at x
unfolding points_at
at_nan x h = subst (λ (y : Float). y ≡ points_at y) (sym (differs_from_itself x (subst T (sym h) tt))) refl

pub minus_two : neg d2 ≡ minus2
unfolding of_bits neg
minus_two = refl

-- what the table gave for the code's score
pub counted : (a : ℕ) (z w : ℤ) (x : Float) → a ≡ expected_of w → w ≡ z → expected_points z ≡ points_at x → dbl (pos a) ⊘ d1000000 ≡ points_at x
unfolding expected_points
counted a z w x p q e = ap (λ (n : ℕ). dbl (pos n) ⊘ d1000000) (p ∙ ap expected_of q) ∙ e

-- ---- 6. below zero, as the machine has it
minus : (n : ℕ) → pos 0 -ℤ pos n ≡ neg_ℤ (pos n)
minus zero = refl
minus (suc n) = let e : suc n - 1 ≡ n = omega arith in simp (lt-ltb 0 (suc n) (omega arith), e)

module _ (n : ℕ) (h : n ≤ 1601) where
  less : pos 0 -ℤ to_z w16 n ≡ neg_ℤ (pos n)
  less = ap (λ (z : ℤ). pos 0 -ℤ z) (to_z_pos w16 n (omega (arith, h))) ∙ minus n

  near : nat_abs (neg_ℤ (pos n)) ≤ 1601
  near = subst (λ (k : ℕ). k ≤ 1601) (sym (size n)) h
    where
      size : (n : ℕ) → nat_abs (neg_ℤ (pos n)) ≡ n
      size zero = refl
      size (suc n) = refl

  pub less_fits : SFits w16 (pos 0 -ℤ to_z w16 n)
  less_fits = subst (SFits w16) (sym less) (fits_abs 1601 tt near)

  pub less_is : held w16 (pos 0 -ℤ to_z w16 n) ≡ neg_ℤ (pos n)
  less_is = held_is less_fits less
