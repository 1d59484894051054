-- What the digits say: where one is 0 its number is 0, and all numbers are below 2 exactly if all of them together are. Assumes nothing.
use mathlib.Core.Path.{◌≡◌, refl, sym, ap, ap₂, subst, ◌∙◌}
use mathlib.Core.Bool.{Bool, false, ◌||◌, ◌&&◌, and-false}
use mathlib.Mathlib.Data.Bool.Basic.{or-eq-false-eq-eq-false-and-eq-false}
use Prim.Native.Nat.{ℕ, zero, suc, ◌+◌, ◌*◌, ◌-◌, ◌/◌, ◌%◌, ◌^◌, ◌≤◌, ◌<◌}
use native.Mathlib.Decide.{ℕ_discrete}
use native.Mathlib.Nat.{le-max_left, pow-suc}
use native.Mathlib.Numerals.{add-one}
use native.Mathlib.Omega.{arith}
use lib.Arith.{bin_ind}
use lib.Bits.{bit_or, or_step, or_comm, or_lt}
use lib.Dec.{eqb, leb, ltb}
use borrow.Author.Tests.{le-leb, le-ltb, ne_eqb}
use Rattle.bits.specs.Bitboard.{has}
use Rattle.bits.proofs.Digits.{has_or, has_shl, has_high, has_zero}
use Rattle.trace_marks.specs.Marks.{together, marks, mark_of}

pow_pos : (k : ℕ) → 0 < 2 ^ k
pow_pos zero = omega arith
pow_pos (suc k) = omega (arith, pow-suc 2 k, pow_pos k)

or_left : (a b : ℕ) → a ≤ bit_or a b
or_left = bin_ind (λ (n : ℕ). (b : ℕ) → n ≤ bit_or n b) (λ b. omega arith) (λ n ih b. omega (arith, or_step n b, ih (b / 2), le-max_left (n % 2) (b % 2)))

or_right : (a b : ℕ) → b ≤ bit_or a b
or_right a b = omega (arith, or_comm a b, or_left b a)

-- ---- taken together
pub together_most : (f : ℕ → ℕ) (n j : ℕ) → j < n → f j ≤ together f n
unfolding together
together_most f zero j h = absurd (omega arith)
together_most f (suc n) j h =
    elim (ℕ_discrete j n) [
      | yes e ↦ subst (λ (i : ℕ). f i ≤ bit_or (together f n) (f n)) (sym e) (or_right (together f n) (f n))
      | no e ↦ omega (arith, together_most f n j (omega arith), or_left (together f n) (f n))
    ]

pub together_lt : (k : ℕ) (f : ℕ → ℕ) (n : ℕ) → ((j : ℕ) → j < n → f j < 2 ^ k) → together f n < 2 ^ k
unfolding together
together_lt k f zero h = pow_pos k
together_lt k f (suc n) h = or_lt k (together f n) (f n) (together_lt k f n (λ j i. h j (omega arith))) (h n (omega arith))

pub together_small : (f : ℕ → ℕ) (n : ℕ) → ((j : ℕ) → j < n → f j < 2) → together f n < 2
together_small f n h = together_lt 1 f n h

pub together_none : (f : ℕ → ℕ) → 0 ≡ together f 0
unfolding together
together_none f = refl

pub together_next : (f : ℕ → ℕ) (n : ℕ) {a b : ℕ} → a ≡ together f n → b ≡ f n → bit_or a b ≡ together f (n + 1)
unfolding together
together_next f n e q = ap₂ bit_or e q ∙ ap (together f) (sym (add-one n))

-- ---- in a row
pub row_none : (f : ℕ → ℕ) → 0 ≡ marks f 0
unfolding marks
row_none f = refl

pub row_next : (f : ℕ → ℕ) (n : ℕ) {a b : ℕ} → a ≡ marks f n → b ≡ f n → bit_or a (b * 2 ^ n % 2 ^ 64) ≡ marks f (n + 1)
unfolding marks
row_next f n e q = ap₂ (λ (x y : ℕ). bit_or x (y * 2 ^ n % 2 ^ 64)) e q ∙ ap (marks f) (sym (add-one n))

pub marks_lt : (f : ℕ → ℕ) (n : ℕ) → marks f n < 2 ^ 64
unfolding marks
marks_lt f zero = omega arith
marks_lt f (suc n) = or_lt 64 (marks f n) (f n * 2 ^ n % 2 ^ 64) (marks_lt f n) (omega arith)

-- a digit that is 0 stands for a number whose lowest is
pub marks_none : (f : ℕ → ℕ) (n j : ℕ) → n ≤ 64 → j < n → has (marks f n) j ≡ false → has (f j) 0 ≡ false
unfolding marks
marks_none f zero j l h e = absurd (omega arith)
marks_none f (suc n) j l h e =
    let w = (or-eq-false-eq-eq-false-and-eq-false (has (marks f n) j) (has (f n * 2 ^ n % 2 ^ 64) j)).0
    (sym (has_or (marks f n) (f n * 2 ^ n % 2 ^ 64) j) ∙ e) in
    elim (ℕ_discrete j n) [
      | yes q ↦ here q w.1
      | no q ↦ marks_none f n j (omega arith) (omega arith) w.0
    ]
  where
    here : j ≡ n → has (f n * 2 ^ n % 2 ^ 64) j ≡ false → has (f j) 0 ≡ false
    here q z =
        let k : j - n ≡ 0 = omega arith in
        ap (λ (i : ℕ). has (f i) 0) q ∙ sym (ap (λ (t : Bool). t && has (f n) 0) (le-leb n j (omega arith)))
        ∙ ap (λ (i : ℕ). leb n j && has (f n) i) (sym k) ∙ sym (has_shl (f n) n j (omega arith)) ∙ z

-- past the last there is none
pub marks_high : (f : ℕ → ℕ) (n k : ℕ) → ((j : ℕ) → j < n → f j < 2) → n ≤ k → k < 64 → has (marks f n) k ≡ false
unfolding marks
marks_high f zero k h l m = has_zero k
marks_high f (suc n) k h l m =
    has_or (marks f n) (f n * 2 ^ n % 2 ^ 64) k
    ∙ ap₂ (λ (s t : Bool). s || t) (marks_high f n k (λ j i. h j (omega arith)) (omega arith) m)
    (has_shl (f n) n k m ∙ ap (λ (t : Bool). leb n k && t) (has_high (f n) 1 (k - n) (h n (omega arith)) (omega arith)) ∙ and-false (leb n k))

-- below 2, a number without its lowest digit is 0
pub no_digit : (n : ℕ) → n < 2 → has n 0 ≡ false → n ≡ 0
unfolding has
no_digit zero h e = refl
no_digit (suc zero) h e = absurd (let z : ◌≡◌ {A = ℕ} 0 1 = cc in omega arith)
no_digit (suc (suc n)) h e = absurd (omega arith)

pub mark_small : (n : ℕ) → mark_of n < 2
mark_small zero = omega arith
mark_small (suc n) = omega arith

pub mark_none : (n : ℕ) → mark_of n ≡ 0 → n ≡ 0
mark_none zero e = refl
mark_none (suc n) e = absurd (omega arith)

pub mark_of_none : (n : ℕ) → n ≡ 0 → 0 ≡ mark_of n
mark_of_none n e = sym (ap mark_of e)

pub mark_of_some : (n : ℕ) → (n ≡ 0 → ⊥) → 1 ≡ mark_of n
mark_of_some zero z = absurd (z refl)
mark_of_some (suc n) z = refl

-- the two tests of an entry are one
pub zero_or_one : (n : ℕ) → (eqb n 0 || eqb n 1) ≡ ltb n 2
zero_or_one n =
    elim (ℕ_discrete n 0) [
      | yes e ↦ rw (e)
      | no e ↦
          elim (ℕ_discrete n 1) [
            | yes q ↦ rw (q)
            | no q ↦ rw (ne_eqb n 0 e, ne_eqb n 1 q, le-ltb n 2 (omega arith))
          ]
    ]
