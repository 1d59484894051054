-- Roots of whole numbers: there is one, `whole_root` is it, and a number near √(m·2^52) is half of √(m·2^54), rounded. Assumes nothing.
use Rattle.std.proofs.Common.{◌≡◌, ℕ, zero, suc, ◌+◌, ◌-◌, ◌*◌, ◌/◌, ◌%◌, ◌^◌, ◌<◌, ◌≤◌, Bool, true, false, cond, not, T, leb, sym, ap, ◌∙◌, subst, le_of_suc-le-suc, lt_of_le_of_lt, mul_assoc, suc-mul, mul_comm, add-mul, mul-le-mul, le_antisymm, pow-suc, lt_of_not-le, mul-suc, mul-add, mul_right_comm, not-le_of_lt, add-one, arith, leb→le}
use native.Mathlib.Nat.{mul-mul-mul_comm}
use lib.Dec.{nleb→lt}
use Rattle.fit_root.specs.Root.{whole_root}
use Rattle.fit_root.specs.Whole.{IsRoot, IsNear}

-- ---- squares
-- a number below another in its square is below it
pub root_lt : (a b : ℕ) → a * a < b * b → a < b
root_lt a b h = lt_of_not-le (λ (g : b ≤ a). not-le_of_lt h (mul-le-mul g g))

pub even : (r : ℕ) → r * 2 * (r * 2) ≡ r * r * 4
even r = mul_assoc r 2 (r * 2) ∙ ap (λ (x : ℕ). r * x) (mul_comm 2 (r * 2) ∙ mul_assoc r 2 2) ∙ sym (mul_assoc r r 4)

pub square : (r : ℕ) → (r * 2 + 1) * (r * 2 + 1) ≡ r * r * 4 + r * 4 + 1
square r =
    let a : (r * 2 + 1) * (r * 2 + 1) ≡ r * 2 * (r * 2 + 1) + 1 * (r * 2 + 1) = add-mul (r * 2) 1 (r * 2 + 1) in
    let b : r * 2 * (r * 2 + 1) ≡ r * 2 * (r * 2) + r * 2 * 1 = mul-add (r * 2) (r * 2) 1 in
    omega (arith, a, b, even r)

pub next_square : (n : ℕ) → suc n * suc n ≡ n * n + n + suc n
next_square n = suc-mul n (suc n) ∙ ap (λ (z : ℕ). z + suc n) (mul-suc n n)

-- ---- the whole part of a root
next : (q : ℕ) → suc (q * 2 + 1) * suc (q * 2 + 1) ≡ suc q * suc q * 4
next q = let z : suc (q * 2 + 1) ≡ suc q * 2 = omega arith in rw z (even (suc q))

one_up : (q : ℕ) → suc (q * 2) * suc (q * 2) ≡ (q * 2 + 1) * (q * 2 + 1)
one_up q = let z : suc (q * 2) ≡ q * 2 + 1 = omega arith in rw z

quarter : (n p : ℕ) → n < p * 4 → n / 4 < p
quarter n p h = omega arith

-- from the root q of n / 4, by the test of its last digit
module _ (n q : ℕ) (r : IsRoot (n / 4) q) where
  last_digit : (b : Bool) → (T b → (q * 2 + 1) * (q * 2 + 1) ≤ n) → (T (not b) → n < (q * 2 + 1) * (q * 2 + 1)) → IsRoot n (cond b (q * 2 + 1) (q * 2))
  last_digit true y z = record { low = y tt; high = rw (next q) (omega (arith, r.high)) }
  last_digit false y z = record { low = rw (even q) (omega (arith, r.low)); high = rw (one_up q) (z tt) }

pub whole_is : (k n : ℕ) → n < 4 ^ k → IsRoot n (whole_root k n)
unfolding whole_root
whole_is zero n h = record { low = omega arith; high = omega arith }
whole_is (suc k) n h =
    let q = whole_root k (n / 4) in
    let d = (q * 2 + 1) * (q * 2 + 1) in
    last_digit n q (whole_is k (n / 4) (quarter n (4 ^ k) (subst (λ (z : ℕ). n < z) (pow-suc 4 k) h))) (leb d n) (leb→le d n) (nleb→lt d n)

not_above_holds : (n s t : ℕ) → IsRoot n s → IsRoot n t → s ≤ t
not_above_holds n s t a b = le_of_suc-le-suc (root_lt s (suc t) (lt_of_le_of_lt a.low b.high))

pub root_one : (n s t : ℕ) → IsRoot n s → IsRoot n t → s ≡ t
root_one n s t a b = le_antisymm (not_above_holds n s t a b) (not_above_holds n t s b a)

pub whole_one : (k n s : ℕ) → n < 4 ^ k → IsRoot n s → s ≡ whole_root k n
whole_one k n s h r = root_one n s (whole_root k n) r (whole_is k n h)

-- ---- the nearest whole number, by the whole part of twice the root
pub near_half : (m n q : ℕ) → IsNear m n → IsRoot (m * 2 ^ 54) q → n ≡ (q + 1) / 2
near_half m zero q e r = absurd (omega (arith, e.under, e.over))
near_half m (suc p) q e r =
    let above : p * 2 + 1 < suc q = root_lt (p * 2 + 1) (suc q) (omega (arith, r.high, e.under, next_square p, square p)) in
    let below : q < suc p * 2 + 1 = root_lt q (suc p * 2 + 1) (omega (arith, r.low, e.over, square (suc p))) in
    omega arith

-- ---- n·n from n's halves, a·2^27 + b
pub halves : (a b : ℕ) → (a * 2 ^ 27 + b) * (a * 2 ^ 27 + b) ≡ a * a * 2 ^ 54 + a * b * 2 ^ 28 + b * b
halves a b =
    let x = a * 2 ^ 27 in
    let p : (x + b) * (x + b) ≡ x * (x + b) + b * (x + b) = add-mul x b (x + b) in
    let q : x * (x + b) ≡ x * x + x * b = mul-add x x b in
    let r : b * (x + b) ≡ b * x + b * b = mul-add b x b in
    let t : b * x ≡ x * b = mul_comm b x in
    let u : x * b ≡ a * b * 2 ^ 27 = mul_right_comm a (2 ^ 27) b in
    let v : x * x ≡ a * a * 2 ^ 54 = mul-mul-mul_comm a (2 ^ 27) a (2 ^ 27) in
    omega arith

-- what is left of m·2^52, moved up by 2^54, once n·n is taken from it
pub taken_off_holds : (m n : ℕ) → n / 2 ^ 27 * (n / 2 ^ 27) * 4 ≤ m → n / 2 ^ 27 * (n % 2 ^ 27) ≤ (m - n / 2 ^ 27 * (n / 2 ^ 27) * 4) * 2 ^ 24 + 2 ^ 26
    → ((m - n / 2 ^ 27 * (n / 2 ^ 27) * 4) * 2 ^ 24 + 2 ^ 26 - n / 2 ^ 27 * (n % 2 ^ 27)) * 2 ^ 28 + n * n ≡ n % 2 ^ 27 * (n % 2 ^ 27) + 2 ^ 54 + m * 2 ^ 52
taken_off_holds m n h k =
    let whole : n / 2 ^ 27 * 2 ^ 27 + n % 2 ^ 27 ≡ n = omega arith in
    let square : n * n ≡ n / 2 ^ 27 * (n / 2 ^ 27) * 2 ^ 54 + n / 2 ^ 27 * (n % 2 ^ 27) * 2 ^ 28 + n % 2 ^ 27 * (n % 2 ^ 27) =
    ap (λ (z : ℕ). z * z) (sym whole) ∙ halves (n / 2 ^ 27) (n % 2 ^ 27) in
    omega arith

-- n, or a neighbour, is near
module _ (m n rest square : ℕ) (e : rest + n * n ≡ square + m * 2 ^ 52) where
  pub near : square < rest + n → rest ≤ square + n → IsNear m n
  near a b = record { under = omega arith; over = omega arith }

  pub near_above : square + n < rest → rest ≤ square + 3 * n + 2 → IsNear m (n + 1)
  near_above a b = rw add-one (record { under = rw (next_square n) (omega arith); over = rw (next_square n) (omega arith) })

pub near_below : (m n rest square : ℕ) → rest + n * n ≡ square + m * 2 ^ 52 → rest + n ≤ square → square + 2 < rest + 3 * n → IsNear m (n - 1)
near_below m zero rest top e a b = absurd (omega arith)
near_below m (suc p) rest top e a b =
    let z : suc p - 1 ≡ p = omega arith in
    let s = next_square p in
    rw z (record { under = omega arith; over = omega arith })

-- n's halves are below 2^27, and so their products below 2^54
product : (a b : ℕ) → a < 2 ^ 27 → b < 2 ^ 27 → a * b < 2 ^ 54
product a b h k =
    let x : a ≤ 2 ^ 27 - 1 = omega arith in
    let y : b ≤ 2 ^ 27 - 1 = omega arith in
    lt_of_le_of_lt (mul-le-mul x y) (omega arith)

pub products : (n : ℕ) → n < 2 ^ 54
    → (n / 2 ^ 27 * (n / 2 ^ 27) < 2 ^ 54) × (n / 2 ^ 27 * (n % 2 ^ 27) < 2 ^ 54) × (n % 2 ^ 27 * (n % 2 ^ 27) < 2 ^ 54)
products n h =
    let a : n / 2 ^ 27 < 2 ^ 27 = omega arith in
    let b : n % 2 ^ 27 < 2 ^ 27 = omega arith in
    (product (n / 2 ^ 27) (n / 2 ^ 27) a a, product (n / 2 ^ 27) (n % 2 ^ 27) a b, product (n % 2 ^ 27) (n % 2 ^ 27) b b)

-- a number of 53 digits, doubled or not
pub doubled_or_not : (m odd : ℕ) → m < 2 ^ 53 → odd < 2 → m * (1 + odd) < 2 ^ 54 - 1
doubled_or_not m zero h k = omega arith
doubled_or_not m (suc zero) h k = omega arith
doubled_or_not m (suc (suc odd)) h k = absurd (omega arith)

pub whole_fits : (m : ℕ) → m < 2 ^ 54 - 1 → m * 2 ^ 54 < 4 ^ 54
whole_fits m h = omega arith

pub short_root : (m q : ℕ) → m < 2 ^ 54 - 1 → IsRoot (m * 2 ^ 54) q → q < 2 ^ 54 - 1
short_root m q h r = root_lt q (2 ^ 54 - 1) (lt_of_le_of_lt r.low (omega arith))
