-- Each entry is what the rule says and nothing else is, for every whole number j: the rule holds of 0 and not of 2^20, and with a number it holds
-- of every smaller one. What the entries of the table come to beside one another is computed. Assumes nothing.
use mathlib.Core.Path.{◌≡◌, refl, sym, ap, subst, ◌∙◌}
use mathlib.Core.Bool.{Bool, true, false, false≢true}
use Prim.Native.Nat.{ℕ, zero, suc, ◌+◌, ◌-◌, ◌*◌, ◌^◌, ◌≤◌, ◌<◌}
use native.Mathlib.Nat.{pow-le-pow_left, mul-le-mul_right, mul-pos, le_trans, zero-mul, one-le-pow, lt_trans}
use native.Mathlib.Numerals.{add-one}
use native.Mathlib.Omega.{arith}
use borrow.Author.Tests.{leb-true, le-leb, lt-leb, ltb-true, ltb-false}
use lib.Dec.{leb, ltb, eqb, leb-zero, eqb→eq, ltb→lt}
use lib.IntN.{ℤ, pos, negsuc, sub_ℕ}
use lib.ListN.{get_or}
use Rattle.laws.specs.Tests.{all_below}
use Rattle.laws.proofs.Tests.{all_at, entry_le}
use Rattle.laws.proofs.Tables.{entry}
use Rattle.score_expected.specs.Expected.{at_most, entry_of, table}
use Rattle.score_expected.specs.Rule.{IsEntry, Entries}
use Rattle.score_expected.proofs.Greatest.{greatest_holds, greatest_breaks}

-- ---- the rule holds of 0, and not of 2^20, which is above a million
of_zero : (j : ℤ) → at_most j 0 ≡ true
of_zero (pos j) = leb-zero (1000000 ^ 100 * 10 ^ j)
of_zero (negsuc j) = ap (λ (x : ℕ). leb x (1000000 ^ 100)) (zero-mul (10 ^ suc j))

not_of_large : (j : ℤ) → at_most j 1048576 ≡ false
not_of_large (pos j) = ap (λ (x : ℕ). leb (1048576 ^ 100) x) (zero-mul (10 ^ j))
not_of_large (negsuc j) =
    lt-leb (1048576 ^ 100 * 10 ^ suc j) 0 (mul-pos (one-le-pow 100 1048576 (omega arith)) (one-le-pow (suc j) 10 (omega arith)))

-- ---- with a number, every smaller one meets it
down : (j : ℤ) (a b : ℕ) → a ≤ b → at_most j b ≡ true → at_most j a ≡ true
down (pos j) a b h e =
    le-leb (a ^ 100) ((1000000 - a) ^ 100 * 10 ^ j)
    (le_trans (pow-le-pow_left h 100)
    (le_trans (leb-true (b ^ 100) ((1000000 - b) ^ 100 * 10 ^ j) e)
    (mul-le-mul_right (10 ^ j) (pow-le-pow_left (less a b h) 100))))
  where
    less : (a b : ℕ) → a ≤ b → 1000000 - b ≤ 1000000 - a
    less a b h = omega arith
down (negsuc j) a b h e =
    le-leb (a ^ 100 * 10 ^ suc j) ((1000000 - a) ^ 100)
    (le_trans (mul-le-mul_right (10 ^ suc j) (pow-le-pow_left h 100))
    (le_trans (leb-true (b ^ 100 * 10 ^ suc j) ((1000000 - b) ^ 100) e)
    (pow-le-pow_left (less a b h) 100)))
  where
    less : (a b : ℕ) → a ≤ b → 1000000 - b ≤ 1000000 - a
    less a b h = omega arith

rule : (j : ℤ) → IsEntry j (entry_of j)
unfolding entry_of
rule j = record { holds = greatest_holds 20 (at_most j) 0 (of_zero j); breaks = greatest_breaks 20 (at_most j) 0 (not_of_large j) }

-- one that meets the rule is not above another that the next number breaks
not_above_holds : (j : ℤ) (a b : ℕ) → IsEntry j a → IsEntry j b → a ≤ b
not_above_holds j a b h k = go (ltb b a) refl
  where
    go : (t : Bool) → ltb b a ≡ t → a ≤ b
    go true e = absurd (false≢true (sym k.breaks ∙ down j (b + 1) a (omega (arith, ltb-true b a e)) h.holds))
    go false e = ltb-false b a e

only_one : (j : ℤ) (a : ℕ) → IsEntry j a → a ≡ entry_of j
only_one j a h = omega (arith, not_above_holds j a (entry_of j) h (rule j), not_above_holds j (entry_of j) a (rule j) h)

-- ---- beside one another, by computation
adds : (j : ℕ) → j < 400 → entry_of (pos (suc j)) + entry_of (negsuc j) ≡ 999999
unfolding all_below entry_of
adds j h =
    eqb→eq (entry_of (pos (suc j)) + entry_of (negsuc j)) 999999 (all_at 400 (λ i. eqb (entry_of (pos (suc i)) + entry_of (negsuc i)) 999999) tt j h)

next : (k : ℕ) → k < 800 → entry_of (sub_ℕ k 400) < entry_of (sub_ℕ (suc k) 400)
unfolding all_below entry_of
next k h =
    ltb→lt (entry_of (sub_ℕ k 400)) (entry_of (sub_ℕ (suc k) 400)) (all_at 800 (λ i. ltb (entry_of (sub_ℕ i 400)) (entry_of (sub_ℕ (suc i) 400))) tt k h)

pub table_at : (k : ℕ) → k < 801 → get_or table k 0 ≡ entry_of (sub_ℕ k 400)
unfolding table
table_at k h = entry 801 (λ i. entry_of (sub_ℕ i 400)) 0 k h

-- two places that lie n + 1 apart
step : (n k : ℕ) → k + suc n < 801 → entry_of (sub_ℕ k 400) < entry_of (sub_ℕ (k + suc n) 400)
step zero k h = rw add-one (next k (omega arith))
step (suc n) k h =
    let e : k + suc (suc n) ≡ suc (k + suc n) = omega arith in
    lt_trans (step n k (omega arith)) (rw e (next (k + suc n) (omega arith)))

up : (k l : ℕ) → k < l → l < 801 → get_or table k 0 < get_or table l 0
up k l h b =
    let e : k + suc (l - k - 1) ≡ l = omega arith in
    let p : get_or table k 0 ≡ entry_of (sub_ℕ k 400) = table_at k (omega arith) in
    let q : get_or table l 0 ≡ entry_of (sub_ℕ l 400) = table_at l b in
    rw (p, q) (subst (λ (i : ℕ). entry_of (sub_ℕ k 400) < entry_of (sub_ℕ i 400)) e (step (l - k - 1) k (omega arith)))

zero's : entry_of (pos 0) ≡ 500000
unfolding entry_of
zero's = refl

-- THE TABLE, in document 02's words
pub entries : Entries
entries = record { is = rule; only = only_one; opposite = adds; level = zero's; rises = up }

-- no entry is above a million, wherever it is read
pub table_most : (k : ℕ) → get_or table k 0 ≤ 1000000
unfolding table
table_most k = entry_le 1000000 table tt k
