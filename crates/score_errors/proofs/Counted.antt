-- One line more: both answers of each kind, and the steps to a squared distance. Assumes nothing.
use mathlib.Core.Path.{◌≡◌, refl, ap, ◌∙◌}
use Prim.Native.Nat.{ℕ, ◌+◌, ◌*◌, ◌^◌, ◌<◌, ◌≤◌}
use native.Mathlib.Nat.{mul-le-mul, lt_of_le_of_lt}
use native.Mathlib.Omega.{arith}
use borrow.Author.Tests.{lt-ltb, le-ltb, eq-eqb, ne_eqb}
use lib.Dec.{ltb→lt}
use lib.IntN.{ℤ, pos, neg_ℤ, ◌-ℤ◌, +ℤ_idl}
use mir.Syntax.{w16, w32, w64}
use mir.Val.{SFits, Fits}
use Rattle.chess.specs.Named.{turned_for_black}
use Rattle.laws.proofs.Diff.{abs_turned}
use Rattle.laws.proofs.Words.{held, held_is, widens, fits_abs, fits_near}
use Rattle.refusal.specs.Answer.{given, refusal_of}
use Rattle.refusal.specs.declared.Refusal.TheVariants as R
use Rattle.score_errors.specs.Errors.{apart_by, scored_of, apart_of}
use Rattle.score_errors.specs.declared.Totals.{Totals}

-- ---- counted or MANY
pub many_scored : (t : Totals) (q : ℕ) → 1000000 ≤ t.scored → refusal_of R.Many ≡ scored_of t q
many_scored t q h = simp (le-ltb t.scored 1000000 h)

pub many_summed : (t : Totals) (q : ℕ) → t.scored < 1000000 → 2 ^ 64 ≤ t.sum + q → refusal_of R.Many ≡ scored_of t q
many_summed t q h k = simp (lt-ltb t.scored 1000000 h, le-ltb (t.sum + q) (2 ^ 64) k)

pub one_scored : (t : Totals) (q : ℕ) → t.scored < 1000000 → t.sum + q < 2 ^ 64
    → given (record { scored = t.scored + 1; apart = t.apart; sum = t.sum + q }) ≡ scored_of t q
one_scored t q h k = simp (lt-ltb t.scored 1000000 h, lt-ltb (t.sum + q) (2 ^ 64) k)

pub many_apart : (t : Totals) → 1000000 ≤ t.apart → refusal_of R.Many ≡ apart_of t
many_apart t h = simp (le-ltb t.apart 1000000 h)

pub one_apart : (t : Totals) → t.apart < 1000000 → given (record { scored = t.scored; apart = t.apart + 1; sum = t.sum }) ≡ apart_of t
one_apart t h = simp (lt-ltb t.apart 1000000 h)

-- ---- a number below 2^32, squared
pub square_fits : (d : ℕ) → d ≤ 4294967295 → Fits w64 (d * d)
square_fits d h = record { fits = lt_of_le_of_lt (mul-le-mul h h) (ltb→lt 18446744065119617025 18446744073709551616 tt) }

pub near : (half expected : ℕ) → half < 256 → expected < 4294967296 → apart_by (500000 * half) expected ≤ 4294967295
near half expected h k = omega arith

-- ---- turned to White's side
pub for_white : (side : ℕ) (z : ℤ) → SFits w16 z → side ≡ 0 → held w32 (held w16 z) ≡ turned_for_black side z
for_white side z f e =
    ap (held w32) (held_is f refl) ∙ held_is (widens {w = w16} w32 tt f) (simp (eq-eqb side 0 e))

minus : (z : ℤ) → SFits w16 z → pos 0 -ℤ held w32 (held w16 z) ≡ neg_ℤ z
minus z f = +ℤ_idl (neg_ℤ (held w32 (held w16 z))) ∙ ap neg_ℤ (ap (held w32) (held_is f refl) ∙ held_is (widens {w = w16} w32 tt f) refl)

minus_small : (z : ℤ) → SFits w16 z → SFits w32 (neg_ℤ z)
minus_small z f = fits_abs {w = w32} {z = neg_ℤ z} 32768 tt (rw (abs_turned z) (fits_near f))

pub minus_fits : (z : ℤ) → SFits w16 z → SFits w32 (pos 0 -ℤ held w32 (held w16 z))
minus_fits z f = rw (minus z f) (minus_small z f)

pub for_black : (side : ℕ) (z : ℤ) → SFits w16 z → (side ≡ 0 → ⊥) → held w32 (pos 0 -ℤ held w32 (held w16 z)) ≡ turned_for_black side z
for_black side z f n = ap (held w32) (minus z f) ∙ held_is (minus_small z f) (simp (ne_eqb side 0 n))
