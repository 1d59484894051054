-- The bitboard of a test: its squares, and how `|`, `&` and the tests of a program meet it. Assumes nothing.
use mathlib.Core.Path.{◌≡◌, refl, sym, ap, ap₂, ◌∙◌, subst}
use mathlib.Core.Logic.{⊎_elim}
use mathlib.Core.Bool.{Bool, true, false, not, ◌||◌, ◌&&◌, beq, or-false}
use Prim.Native.Nat.{ℕ, zero, suc, ◌+◌, ◌*◌, ◌-◌, ◌^◌, ◌≤◌, ◌<◌}
use native.Mathlib.Nat.{one-mul, zero-mul, not-suc-le-zero, le-suc_iff, suc_inj, pow-suc}
use native.Mathlib.Omega.{arith}
use lib.Dec.{T, eqb, leb, eqb→eq, eqb_refl}
use lib.Bits.{or_shifted, bit_or, bit_and, or_lt, and_lt}
use borrow.Author.Tests.{le-leb, lt-leb}
use Rattle.laws.specs.Tests.{all_below}
use Rattle.laws.proofs.Tests.{all_at, all_of}
use Rattle.laws.proofs.Truth.{iff, is_beq, beq_is, not_i, not_e}
use Rattle.bits.specs.Bitboard.{has, digit, those}
use Rattle.bits.proofs.Digits.{has_or, has_and, has_up, has_high, has_zero, ext}

-- ---- the bitboard of a test
has_digit : (t : Bool) → has (digit t) 0 ≡ t
unfolding has
has_digit true = refl
has_digit false = refl

pub those_lt : (n : ℕ) (f : ℕ → Bool) → those n f < 2 ^ n
unfolding those
those_lt zero f = omega arith
those_lt (suc n) f = rw pow-suc (omega (arith, those_lt n f, top (f n)))
  where
    top : (t : Bool) → digit t * 2 ^ n ≤ 2 ^ n
    top true = omega (arith, one-mul (2 ^ n))
    top false = omega (arith, zero-mul (2 ^ n))

cat : (c n r k : ℕ) → r < 2 ^ n → has (c * 2 ^ n + r) k ≡ ((leb n k && has c (k - n)) || has r k)
cat c n r k h = ap (λ (x : ℕ). has x k) (sym (or_shifted c n r h)) ∙ has_or (c * 2 ^ n) r k ∙ ap (λ (t : Bool). t || has r k) (has_up c n k)

pub has_those : (n : ℕ) (f : ℕ → Bool) (k : ℕ) → k < n → has (those n f) k ≡ f k
unfolding those
has_those zero f k h = absurd (not-suc-le-zero h)
has_those (suc n) f k h =
    cat (digit (f n)) n (those n f) k (those_lt n f)
    ∙ ⊎_elim {C = ((leb n k && has (digit (f n)) (k - n)) || has (those n f) k) ≡ f k}
    (λ l. ap (λ (t : Bool). (t && has (digit (f n)) (k - n)) || has (those n f) k) (lt-leb n k l) ∙ has_those n f k l)
    (λ e. at_top (suc_inj e))
    (le-suc_iff.0 h)
  where
    at_top : k ≡ n → ((leb n k && has (digit (f n)) (k - n)) || has (those n f) k) ≡ f k
    at_top e =
        ap₂ (λ (t u : Bool). (t && has (digit (f n)) (k - n)) || u) (le-leb n k (omega arith)) (has_high (those n f) n k (those_lt n f) (omega arith))
        ∙ or-false (has (digit (f n)) (k - n)) ∙ ap (λ (j : ℕ). has (digit (f n)) j) (omega arith) ∙ has_digit (f n) ∙ ap f (sym e)

-- what has the squares of a test is its bitboard
pub is_those : (a : ℕ) (f : ℕ → Bool) → a < 2 ^ 64 → ((k : ℕ) → k < 64 → has a k ≡ f k) → a ≡ those 64 f
is_those a f h e = ext 64 a (those 64 f) h (those_lt 64 f) (λ k l. e k l ∙ sym (has_those 64 f k l))

pub those_same : (f g : ℕ → Bool) → ((k : ℕ) → k < 64 → f k ≡ g k) → those 64 f ≡ those 64 g
those_same f g e = is_those (those 64 f) g (those_lt 64 f) (λ k l. has_those 64 f k l ∙ e k l)

-- ---- a bitboard is that of its own squares
pub those_of : (a : ℕ) → a < 2 ^ 64 → those 64 (has a) ≡ a
those_of a h = sym (is_those a (has a) h (λ k l. refl))

-- ---- `|` and `&`
pub or_is : (a b : ℕ) → a < 2 ^ 64 → b < 2 ^ 64 → bit_or a b ≡ those 64 (λ k. has a k || has b k)
or_is a b ha hb = is_those (bit_or a b) (λ k. has a k || has b k) (or_lt 64 a b ha hb) (λ k h. has_or a b k)

pub and_is : (a b : ℕ) → a < 2 ^ 64 → b < 2 ^ 64 → bit_and a b ≡ those 64 (λ k. has a k && has b k)
and_is a b ha hb = is_those (bit_and a b) (λ k. has a k && has b k) (and_lt 64 a b ha hb) (λ k h. has_and a b k)

pub those_or : (f g : ℕ → Bool) → bit_or (those 64 f) (those 64 g) ≡ those 64 (λ k. f k || g k)
those_or f g =
    or_is (those 64 f) (those 64 g) (those_lt 64 f) (those_lt 64 g)
    ∙ those_same (λ k. has (those 64 f) k || has (those 64 g) k) (λ k. f k || g k)
    (λ k h. ap₂ (λ (s t : Bool). s || t) (has_those 64 f k h) (has_those 64 g k h))

pub those_and : (f g : ℕ → Bool) → bit_and (those 64 f) (those 64 g) ≡ those 64 (λ k. f k && g k)
those_and f g =
    and_is (those 64 f) (those 64 g) (those_lt 64 f) (those_lt 64 g)
    ∙ those_same (λ k. has (those 64 f) k && has (those 64 g) k) (λ k. f k && g k)
    (λ k h. ap₂ (λ (s t : Bool). s && t) (has_those 64 f k h) (has_those 64 g k h))

-- ---- a number is the bitboard of a test exactly where each of its squares says so
pub is_those_test : (a : ℕ) (f : ℕ → Bool) → a < 2 ^ 64 → eqb a (those 64 f) ≡ all_below 64 (λ k. beq (has a k) (f k))
is_those_test a f h = iff (eqb a (those 64 f)) (all_below 64 (λ k. beq (has a k) (f k))) there back
  where
    there : T (eqb a (those 64 f)) → T (all_below 64 (λ k. beq (has a k) (f k)))
    there t =
        all_of 64 (λ k. beq (has a k) (f k))
        (λ k l. beq_is (has a k) (f k) (ap (λ (x : ℕ). has x k) (eqb→eq a (those 64 f) t) ∙ has_those 64 f k l))

    back : T (all_below 64 (λ k. beq (has a k) (f k))) → T (eqb a (those 64 f))
    back t =
        subst (λ (x : ℕ). T (eqb a x))
        (is_those a f h (λ k l. is_beq (has a k) (f k) (all_at 64 (λ j. beq (has a j) (f j)) t k l)))
        (eqb_refl a)

-- none passes the test
pub those_none : (f : ℕ → Bool) → eqb (those 64 f) 0 ≡ all_below 64 (λ k. not (f k))
those_none f = iff (eqb (those 64 f) 0) (all_below 64 (λ k. not (f k))) there back
  where
    there : T (eqb (those 64 f) 0) → T (all_below 64 (λ k. not (f k)))
    there t =
        all_of 64 (λ k. not (f k))
        (λ k l. not_i (f k) (sym (has_those 64 f k l) ∙ ap (λ (x : ℕ). has x k) (eqb→eq (those 64 f) 0 t) ∙ has_zero k))

    back : T (all_below 64 (λ k. not (f k))) → T (eqb (those 64 f) 0)
    back t =
        subst (λ (x : ℕ). T (eqb x 0))
        (is_those 0 f (omega arith) (λ k l. has_zero k ∙ sym (not_e (f k) (all_at 64 (λ j. not (f j)) t k l))))
        (eqb_refl 0)
