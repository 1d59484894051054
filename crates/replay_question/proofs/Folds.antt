-- One turn of each loop over a question, and its numbers. Assumes nothing.
use mathlib.Core.Path.{◌≡◌, sym, ap, ◌∙◌}
use mathlib.Core.Bool.{Bool, true, false, cond}
use mathlib.Core.List.{List, [], ◌∷◌}
use Prim.Native.Nat.{ℕ, suc, ◌+◌, ◌-◌, ◌≤◌, ◌<◌}
use native.Mathlib.Numerals.{add-one}
use lib.Dec.{eqb}
use lib.ListN.{length, take, drop, get_or, drop_of_length-le}
use lib.Seq.{drop-cons}
use borrow.Author.Tests.{eq-eqb, ne_eqb}
use Rattle.text_in.specs.Text.{space, before, after}
use Rattle.text_in.proofs.Parts.{rest}
use Rattle.replay_question.specs.Question.{with_digit, digits, negative_bits, leading_number, later, numbers_of_rule, slashed}

-- ---- a number's digits
module _ (s : List ℕ) (whole i n : ℕ) (e : whole ≡ digits n (drop i s)) where
  pub digits_more : i < length s → (m : ℕ) → m ≡ with_digit n (get_or s i 0) → whole ≡ digits m (drop (i + 1) s)
  unfolding digits
  digits_more h m q = e ∙ rw (drop-cons s i 0 h, add-one i) (ap (λ (k : ℕ). digits k (drop (suc i) s)) (sym q))

  pub digits_end : length s ≤ i → n ≡ whole
  unfolding digits
  digits_end h = sym (e ∙ rw (drop_of_length-le s h))

-- ---- the part with a slash
module _ (s whole part : List ℕ) (i : ℕ) (e : whole ≡ slashed part (drop i s)) where
  pub slashed_stop : i < length s → get_or s i 0 ≡ 47 → part ≡ whole
  unfolding slashed
  slashed_stop h q = sym (e ∙ rw (drop-cons s i 0 h, eq-eqb _ _ q))

  pub slashed_space : i < length s → get_or s i 0 ≡ 32 → whole ≡ slashed (take (length s - (i + 1)) (drop (i + 1) s)) (drop (i + 1) s)
  unfolding slashed
  slashed_space h q = e ∙ rw (drop-cons s i 0 h, q, rest (i + 1) s, add-one i)

  pub slashed_more : i < length s → (get_or s i 0 ≡ 47 → ⊥) → (get_or s i 0 ≡ 32 → ⊥) → whole ≡ slashed part (drop (i + 1) s)
  unfolding slashed
  slashed_more h p q = e ∙ rw (drop-cons s i 0 h, ne_eqb _ _ p, ne_eqb _ _ q, add-one i)

  pub slashed_end : length s ≤ i → part ≡ whole
  unfolding slashed
  slashed_end h = sym (e ∙ rw (drop_of_length-le s h))

-- ---- the number that a text begins with
module _ (s front : List ℕ) (n m : ℕ) (e : front ≡ before space s) (d : n ≡ digits 0 front) (f : m ≡ length (before 45 s)) where
  read : n ≡ digits 0 (before space s)
  read = d ∙ ap (digits 0) e

  picked : (t : Bool) → eqb m 0 ≡ t → cond t (negative_bits n) n ≡ leading_number s
  unfolding leading_number
  picked t q = ap (λ (k : ℕ). cond t (negative_bits k) k) read ∙ ap (λ (u : Bool). cond u (negative_bits (digits 0 (before space s)))
      (digits 0 (before space s))) (sym q ∙ ap (λ (k : ℕ). eqb k 0) f)

  pub minus_first : m ≡ 0 → negative_bits n ≡ leading_number s
  minus_first h = picked true (eq-eqb m 0 h)

  pub digit_first_holds : (m ≡ 0 → ⊥) → n ≡ leading_number s
  digit_first_holds h = picked false (ne_eqb m 0 h)

-- ---- the five numbers
-- from the parts one after the other
pub five : (q a b c d e : List ℕ) → a ≡ after space q → b ≡ after space a → c ≡ after space b → d ≡ after space c → e ≡ after space d
    → (v w x y z : ℕ) → v ≡ leading_number a → w ≡ leading_number b → x ≡ leading_number c → y ≡ leading_number d → z ≡ leading_number e
    → v ∷ w ∷ x ∷ y ∷ z ∷ [] ≡ numbers_of_rule q
unfolding later numbers_of_rule
five q a b c d e p1 p2 p3 p4 p5 v w x y z q1 q2 q3 q4 q5 = simp (q1, q2, q3, q4, q5, p5, p4, p3, p2, p1)
