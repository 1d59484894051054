-- A number of a row is spelled as it is: what its digits come to. Assumes nothing.
use mathlib.Core.Path.{◌≡◌, refl, sym, ap, ap₂, ◌∙◌}
use mathlib.Core.Bool.{Bool, true, false, cond, ◌&&◌}
use mathlib.Core.List.{List, [], ◌∷◌, ◌++◌}
use Prim.Native.Nat.{ℕ, zero, suc, ◌+◌, ◌-◌, ◌*◌, ◌/◌, ◌%◌, ◌^◌, ◌≤◌, ◌<◌}
use native.Mathlib.Nat.{pow-succ'}
use native.Mathlib.Numerals.{add-one}
use native.Mathlib.Omega.{arith}
use lib.Dec.{leb, ltb}
use lib.ListN.{length, drop, get_or, drop_of_length-le}
use lib.Seq.{drop-cons}
use borrow.Author.Tests.{eq-eqb, lt-ltb, le-ltb, le-leb, ltb-true, ltb-false}
use Rattle.laws.specs.Tests.{same}
use Rattle.text_out.specs.Text.{digits_up_to, decimal_of}
use Rattle.ledger_joined_row.specs.Rows.{digit_added, comes_to, spells, is_number}

pub same_self : (s : List ℕ) → same s s ≡ true
same_self [] = refl
same_self (b ∷ s) = rw (eq-eqb b b refl, same_self s)

-- ---- one digit more
pub digit_few : (n b d : ℕ) → n < 100000 → d ≡ b - 48 → n * 10 + d ≡ digit_added n b
digit_few n b d h e = rw (lt-ltb n 100000 h, e)

pub digit_many : (n b : ℕ) → 100000 ≤ n → n ≡ digit_added n b
digit_many n b h = rw (le-ltb n 100000 h)

comes_last : (n : ℕ) (s : List ℕ) (b : ℕ) → comes_to n (s ++ (b ∷ [])) ≡ digit_added (comes_to n s) b
unfolding comes_to
comes_last n [] b = refl
comes_last n (c ∷ s) b = comes_last (digit_added n c) s b

-- ---- a number below 1000000 is what its digits come to
comes_one : (n : ℕ) → n < 10 → comes_to 0 ((48 + n) ∷ []) ≡ n
unfolding comes_to
comes_one n h = omega arith

comes_digits : (f n : ℕ) → n < 1000000 → n < 10 ^ suc f → comes_to 0 (digits_up_to (suc f) n) ≡ n
unfolding digits_up_to
comes_digits zero n h k = go (ltb n 10) refl
  where
    go : (t : Bool) → ltb n 10 ≡ t → comes_to 0 (cond t ((48 + n) ∷ []) ([] ++ ((48 + n % 10) ∷ []))) ≡ n
    go true e = comes_one n (ltb-true n 10 e)
    go false e = absurd (no (ltb-false n 10 e) k)
      where
        no : 10 ≤ n → n < 10 ^ 1 → ⊥
        no a b = omega arith
comes_digits (suc f) n h k = go (ltb n 10) refl (comes_digits f (n / 10) (omega arith) (tenth (10 ^ suc f) (rw (pow-succ' 10 (suc f)) at k)))
  where
    tenth : (p : ℕ) → n < 10 * p → n / 10 < p
    tenth p q = omega arith

    go : (t : Bool) → ltb n 10 ≡ t → comes_to 0 (digits_up_to (suc f) (n / 10)) ≡ n / 10
        → comes_to 0 (cond t ((48 + n) ∷ []) (digits_up_to (suc f) (n / 10) ++ ((48 + n % 10) ∷ []))) ≡ n
    go true e r = comes_one n (ltb-true n 10 e)
    go false e r =
        comes_last 0 (digits_up_to (suc f) (n / 10)) (48 + n % 10)
        ∙ ap (λ (x : ℕ). digit_added x (48 + n % 10)) r
        ∙ sym (digit_few (n / 10) (48 + n % 10) (n % 10) (omega arith) (omega arith))
        ∙ (let w : n / 10 * 10 + n % 10 ≡ n = omega arith in w)

-- so what a ledger spells is a number of its row
pub number_own : (least most n : ℕ) → least ≤ n → n ≤ most → n < 1000000 → is_number least most (decimal_of n) ≡ true
number_own least most n h k l =
    let e : comes_to 0 (decimal_of n) ≡ n = comes_digits 19 n l (omega arith) in
    ap₂ ◌&&◌ (ap (leb least) e ∙ le-leb least n h) (ap₂ ◌&&◌ (ap (λ (x : ℕ). leb x most) e ∙ le-leb n most k)
    (ap (spells (decimal_of n)) e ∙ same_self (decimal_of n)))

-- ---- turn by turn
pub comes_turn : (s : List ℕ) (n i : ℕ) → i < length s → comes_to n (drop i s) ≡ comes_to 0 s → comes_to (digit_added n (get_or s i 0)) (drop (i + 1) s) ≡ comes_to 0 s
unfolding comes_to
comes_turn s n i h e = ap (λ (k : ℕ). comes_to (digit_added n (get_or s i 0)) (drop k s)) (add-one i) ∙ sym (ap (comes_to n) (drop-cons s i 0 h)) ∙ e

pub comes_end : (s : List ℕ) (n i : ℕ) → length s ≤ i → comes_to n (drop i s) ≡ comes_to 0 s → n ≡ comes_to 0 s
unfolding comes_to
comes_end s n i h e = sym (ap (comes_to n) (drop_of_length-le s h)) ∙ e
