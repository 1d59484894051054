-- What a ledger writes is a row: a number, what is said behind it, and LF. Assumes nothing.
use mathlib.Core.Path.{◌≡◌, refl, sym, ap, ap₂, ◌∙◌}
use mathlib.Core.Bool.{Bool, true, false, cond, ◌&&◌, ◌||◌, false≢true}
use mathlib.Core.List.{List, [], ◌∷◌, ◌++◌, append_assoc, append-nil}
use Prim.Native.Nat.{ℕ, zero, suc, ◌+◌, ◌-◌, ◌/◌, ◌%◌, ◌<◌, ◌≤◌}
use native.Mathlib.Omega.{arith}
use lib.Dec.{ltb}
use lib.ListN.{length, take, drop, length-append}
use lib.Seq.{take-append_seam, drop-append_seam}
use borrow.Author.Tests.{ne_eqb, le-leb}
use Rattle.laws.specs.Tests.{same}
use Rattle.text_in.specs.Text.{text}
use Rattle.text_out.specs.Text.{digits_up_to, decimal_of, minus}
use Rattle.ledger_row.specs.Row.{spaced}
use Rattle.ledger_whole.specs.Whole.{ends_in_lf}
use Rattle.ledger_joined_row.specs.Rows.{begins_with, behind_number, is_number, is_score, is_shown, says_refused, says_loaded, without_lf, after_number, is_row}
use Rattle.ledger_joined_row.proofs.Numbers.{same_self, number_own}

-- ---- a text begins with its own front
pub begins_own : (front rest : List ℕ) → begins_with front (front ++ rest) ≡ true
begins_own front rest = ap (λ (x : List ℕ). same x front) (take-append_seam front rest) ∙ same_self front

-- ---- a score is shown as one
first_digit : (f n : ℕ) (rest : List ℕ) → begins_with (text "-") (digits_up_to (suc f) n ++ rest) ≡ false
unfolding digits_up_to
first_digit zero n rest = go (ltb n 10)
  where
    one : (d : ℕ) → begins_with (text "-") ((48 + d) ∷ rest) ≡ false
    one d = rw (ne_eqb (48 + d) 45 (λ q. no d q))
      where
        no : (d : ℕ) → 48 + d ≡ 45 → ⊥
        no d q = omega arith

    go : (t : Bool) → begins_with (text "-") (cond t ((48 + n) ∷ []) ([] ++ ((48 + n % 10) ∷ [])) ++ rest) ≡ false
    go true = one n
    go false = one (n % 10)
first_digit (suc f) n rest = go (ltb n 10) (first_digit f (n / 10) (((48 + n % 10) ∷ []) ++ rest))
  where
    one : (d : ℕ) → begins_with (text "-") ((48 + d) ∷ rest) ≡ false
    one d = rw (ne_eqb (48 + d) 45 (λ q. no d q))
      where
        no : (d : ℕ) → 48 + d ≡ 45 → ⊥
        no d q = omega arith

    go : (t : Bool) → begins_with (text "-") (digits_up_to (suc f) (n / 10) ++ (((48 + n % 10) ∷ []) ++ rest)) ≡ false
        → begins_with (text "-") (cond t ((48 + n) ∷ []) (digits_up_to (suc f) (n / 10) ++ ((48 + n % 10) ∷ [])) ++ rest) ≡ false
    go true r = one n
    go false r = ap (begins_with (text "-")) (append_assoc (digits_up_to (suc f) (n / 10)) ((48 + n % 10) ∷ []) rest) ∙ r

no_minus : (n : ℕ) → begins_with (text "-") (decimal_of n) ≡ false
no_minus n = ap (begins_with (text "-")) (sym (append-nil (decimal_of n))) ∙ first_digit 19 n []

pub plus_own : (n : ℕ) → n ≤ 32767 → is_score (decimal_of n) ≡ true
plus_own n h =
    ap (λ (b : Bool). cond b (is_number 1 32768 (drop 1 (decimal_of n))) (is_number 0 32767 (decimal_of n))) (no_minus n)
    ∙ number_own 0 32767 n (omega arith) h (omega arith)

pub minus_own : (n : ℕ) → 1 ≤ n → n ≤ 32768 → is_score (minus n) ≡ true
minus_own n l h = number_own 1 32768 n l h (omega arith)

-- ---- the half points
pub half_kind : (half : ℕ) (s : List ℕ) → half < 3 → is_shown s ≡ true → (says_refused (spaced half ++ s) ≡ false) × (says_loaded (spaced half ++ s) ≡ true)
unfolding digits_up_to
half_kind zero s h e = (refl, e)
half_kind (suc zero) s h e = (refl, e)
half_kind (suc (suc zero)) s h e = (refl, e)
half_kind (suc (suc (suc n))) s h e = absurd (no h)
  where
    no : suc (suc (suc n)) < 3 → ⊥
    no q = omega arith

-- ---- the row
-- a row without its LF
body_own : (s : List ℕ) → without_lf (s ++ text "\n") ≡ s
body_own s =
    let e = length-append s (text "\n") in
    let k : length (s ++ text "\n") - 1 ≡ length s = omega arith in
    ap (λ (n : ℕ). take n (s ++ text "\n")) k ∙ take-append_seam s (text "\n")

ends_cons : (b : ℕ) (s : List ℕ) → ends_in_lf s ≡ true → ends_in_lf (b ∷ s) ≡ true
unfolding ends_in_lf
ends_cons b [] e = absurd (false≢true e)
ends_cons b (c ∷ s) e = e

pub ends_after : (s t : List ℕ) → ends_in_lf t ≡ true → ends_in_lf (s ++ t) ≡ true
ends_after [] t e = e
ends_after (b ∷ s) t e = ends_cons b (s ++ t) (ends_after s t e)

pub ends_end : ends_in_lf (text "\n") ≡ true
unfolding ends_in_lf
ends_end = refl

module _ (number : ℕ) (said : List ℕ) where
  pub behind_own : behind_number number (spaced number ++ (said ++ text "\n")) ≡ said ++ text "\n"
  behind_own = drop-append_seam (spaced number) (said ++ text "\n")

  pub said_own : after_number number (spaced number ++ (said ++ text "\n")) ≡ said
  said_own =
      ap (λ (r : List ℕ). behind_number number (without_lf r)) (sym (append_assoc (spaced number) said (text "\n")))
      ∙ ap (behind_number number) (body_own (spaced number ++ said)) ∙ drop-append_seam (spaced number) said

  pub row_own : length (spaced number ++ (said ++ text "\n")) ≤ 32 → (says_refused said || says_loaded said) ≡ true
      → is_row number (spaced number ++ (said ++ text "\n")) ≡ true
  row_own short e =
      ap₂ ◌&&◌ (le-leb (length (spaced number ++ (said ++ text "\n"))) 32 short)
      (ap₂ ◌&&◌ (ends_after (spaced number) (said ++ text "\n") (ends_after said (text "\n") ends_end))
      (ap₂ ◌&&◌ (begins_own (spaced number) (said ++ text "\n")) (ap (λ (x : List ℕ). says_refused x || says_loaded x) said_own ∙ e)))
