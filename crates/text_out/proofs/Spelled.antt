-- The digits that `io::decimal` writes are the decimal number. Assumes nothing.
use mathlib.Core.Path.{◌≡◌, refl, ap, ap₂, ◌∙◌}
use mathlib.Core.List.{List, [], ◌∷◌, ◌++◌}
use mathlib.Core.Bool.{Bool, true, false, cond}
use Prim.Native.Nat.{ℕ, zero, suc, ◌+◌, ◌-◌, ◌*◌, ◌/◌, ◌%◌, ◌^◌, ◌≤◌, ◌<◌}
use native.Mathlib.Nat.{pow-succ', one-le-pow, zero-lt-suc, pow-le-pow_right, le_trans, mod-eq_of_lt}
use native.Mathlib.Omega.{arith}
use lib.Dec.{ltb}
use lib.ListN.{length, length-append}
use borrow.Author.Tests.{lt-ltb, ltb-true, ltb-false}
use Rattle.io.specs.Digits.{last_digits, IsDigitCount, hex_digit_ascii}
use Rattle.text_out.specs.Text.{digits_up_to}

pow_pos' : (j : ℕ) → 0 < 10 ^ j
pow_pos' j = one-le-pow j 10 (zero-lt-suc 9)

glyph_is : (d : ℕ) → d < 10 → hex_digit_ascii d ≡ 48 + d
glyph_is d h = rw (lt-ltb d 10 h)

mutual_step : (f j n : ℕ) (t : Bool) → ltb n 10 ≡ t → IsDigitCount 10 1 n (suc j) → suc j ≤ suc f
    → ((k m : ℕ) → IsDigitCount 10 1 m k → k ≤ f → last_digits 10 k m ≡ digits_up_to f m)
    → last_digits 10 (suc j) n ≡ cond t ((48 + n) ∷ []) (digits_up_to f (n / 10) ++ ((48 + n % 10) ∷ []))
mutual_step f zero n true e w h rec = ap (λ (x : ℕ). x ∷ []) (glyph_is (n % 10) (omega arith) ∙ ap (λ (d : ℕ). 48 + d) (mod-eq_of_lt (ltb-true n 10 e)))
mutual_step f (suc j) n true e w h rec =
    let s : suc (suc j) - 1 ≡ suc j = omega arith in
    absurd (big (10 ^ j) (pow_pos' j) (rw (s, pow-succ' 10 j) at (w.2 (omega arith))) (ltb-true n 10 e))
  where
    big : (p : ℕ) → 0 < p → 10 * p ≤ n → n < 10 → ⊥
    big p a b c = omega arith
mutual_step f zero n false e w h rec =
    let small : n < 10 = w.1 in
    absurd (no small (ltb-false n 10 e))
  where
    no : n < 10 → 10 ≤ n → ⊥
    no a b = omega arith
mutual_step f (suc j) n false e w h rec =
    ap₂ (λ (l r : List ℕ). l ++ r)
    (rec (suc j) (n / 10) (
      omega arith,
      less (10 ^ suc j) (rw (pow-succ' 10 (suc j)) at w.1),
      λ q. more (10 ^ (suc j - 1)) (rw (← pow-succ' 10 (suc j - 1)) (ap_le q)),
    )
    (omega arith))
    (ap (λ (x : ℕ). x ∷ []) (glyph_is (n % 10) (omega arith)))
  where
    less : (p : ℕ) → n < 10 * p → n / 10 < p
    less p a = omega arith

    more : (p : ℕ) → 10 * p ≤ n → p ≤ n / 10
    more p a = omega arith

    ap_le : 1 < suc j → 10 ^ suc (suc j - 1) ≤ n
    ap_le q =
        let s : suc (suc j - 1) ≡ suc (suc j) - 1 = omega arith in
        rw s (w.2 (omega arith))

pub decimal_is : (f k n : ℕ) → IsDigitCount 10 1 n k → k ≤ f → last_digits 10 k n ≡ digits_up_to f n
unfolding digits_up_to
decimal_is zero k n w h = absurd (no k w.0 h)
  where
    no : (k : ℕ) → 1 ≤ k → k ≤ 0 → ⊥
    no k a b = omega arith
decimal_is (suc f) zero n w h = absurd (no w.0)
  where
    no : 1 ≤ 0 → ⊥
    no a = omega arith
decimal_is (suc f) (suc j) n w h = mutual_step f j n (ltb n 10) refl w h (decimal_is f)

length_cond : (t : Bool) (f : ℕ) (x y : List ℕ) → length x ≤ suc f → length y ≤ suc f → length (cond t x y) ≤ suc f
length_cond true f x y a b = a
length_cond false f x y a b = b

pub length_decimal : (f n : ℕ) → length (digits_up_to f n) ≤ f
unfolding digits_up_to
length_decimal zero n = omega arith
length_decimal (suc f) n =
    length_cond (ltb n 10) f ((48 + n) ∷ []) (digits_up_to f (n / 10) ++ ((48 + n % 10) ∷ [])) (omega arith)
    (omega (arith, length-append (digits_up_to f (n / 10)) ((48 + n % 10) ∷ []), length_decimal f (n / 10)))

-- a number below a power of ten has no more digits than the power
pub length_below : (f k n : ℕ) → n < 10 ^ suc k → length (digits_up_to f n) ≤ suc k
unfolding digits_up_to
length_below zero k n h = omega arith
length_below (suc f) zero n h = rw (lt-ltb n 10 h) (omega arith)
length_below (suc f) (suc k) n h = go (ltb n 10) (length_below f k (n / 10) (tenth (10 ^ suc k) (rw (pow-succ' 10 (suc k)) at h)))
  where
    tenth : (p : ℕ) → n < 10 * p → n / 10 < p
    tenth p q = omega arith

    go : (t : Bool) → length (digits_up_to f (n / 10)) ≤ suc k → length (cond t ((48 + n) ∷ []) (digits_up_to f (n / 10) ++ ((48 + n % 10) ∷ []))) ≤ suc (suc k)
    go true q = omega arith
    go false q = omega (arith, length-append (digits_up_to f (n / 10)) ((48 + n % 10) ∷ []))

-- a 64-bit number has at most 20 digits
pub fewest_20 : (n k : ℕ) → n < 2 ^ 64 → IsDigitCount 10 1 n k → k ≤ 20
fewest_20 n k h w = go (ltb 20 k) refl
  where
    no : 10 ^ 20 ≤ n → ⊥
    no q = omega arith

    go : (t : Bool) → ltb 20 k ≡ t → k ≤ 20
    go false e = ltb-false 20 k e
    go true e =
        let b : 20 < k = ltb-true 20 k e in
        absurd (no (le_trans (pow-le-pow_right {n = 10} (omega arith) {i = 20} {j = k - 1} (omega arith)) (w.2 (omega arith))))
