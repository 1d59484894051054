-- The numbers of a question, as the code tests them. Assumes nothing.
use mathlib.Core.Path.{◌≡◌, ◌∙◌}
use mathlib.Core.Bool.{and-false}
use Prim.Native.Nat.{ℕ, ◌+◌, ◌-◌, ◌*◌, ◌/◌, ◌≤◌, ◌<◌}
use native.Mathlib.Omega.{arith}
use borrow.Author.Tests.{eq-eqb, ne_eqb, le-leb, lt-leb}
use Rattle.replay_question.specs.Question.{grown, with_digit, negative_bits}

module _ (n d : ℕ) where
  pub room : n ≤ (18446744073709551615 - d) / 10 → n * 10 + d ≡ grown n d
  room h = simp (le-leb n ((18446744073709551615 - d) / 10) h)

  pub no_room : (18446744073709551615 - d) / 10 < n → n ≡ grown n d
  no_room h = simp (lt-leb n ((18446744073709551615 - d) / 10) h)

module _ (n b : ℕ) where
  pub under : b < 48 → n ≡ with_digit n b
  under h = simp (lt-leb 48 b h)

  pub over : 57 < b → n ≡ with_digit n b
  over h = simp (lt-leb b 57 h, and-false)

  pub digit : 48 ≤ b → b ≤ 57 → grown n (b - 48) ≡ with_digit n b
  digit h k = simp (le-leb 48 b h, le-leb b 57 k)

module _ (n : ℕ) where
  pub nothing : n ≡ 0 → 0 ≡ negative_bits n
  nothing e = simp (eq-eqb n 0 e)

  pub below : (n ≡ 0 → ⊥) → n ≤ 18446744073709551615 → 18446744073709551615 - n + 1 ≡ negative_bits n
  below e h = sub_one ∙ simp (ne_eqb n 0 e)
    where
      sub_one : 18446744073709551615 - n + 1 ≡ 18446744073709551616 - n
      sub_one = omega arith
