-- The bytes of a line and its blanks, as the code tests them. Assumes nothing.
use mathlib.Core.Path.{◌≡◌}
use mathlib.Core.Bool.{true, or-false}
use Prim.Native.Nat.{ℕ, ◌≤◌, ◌<◌}
use native.Mathlib.Omega.{arith}
use lib.Dec.{eqb, ltb, leb-suc-suc}
use borrow.Author.Tests.{eq-eqb, ne_eqb, le-leb, lt-leb}
use Rattle.text_in.specs.Text.{is_text, is_blank}

module _ (b : ℕ) where
  pub text_tab : b < 32 → b ≡ 9 → eqb b 9 ≡ is_text b
  text_tab h e = simp (lt-leb 32 b h, eq-eqb b 9 e)

  pub text_low : b < 32 → (b ≡ 9 → ⊥) → eqb b 13 ≡ is_text b
  text_low h n = simp (lt-leb 32 b h, ne_eqb b 9 n)

  pub text_high : 32 ≤ b → ltb b 127 ≡ is_text b
  text_high h = simp (le-leb 32 b h, ne_eqb b 9 (omega arith), ne_eqb b 13 (omega arith), or-false, leb-suc-suc b 126)

  pub blank_space : b ≡ 32 → true ≡ is_blank b
  blank_space e = simp (eq-eqb b 32 e)

  pub blank_tab : (b ≡ 32 → ⊥) → b ≡ 9 → eqb b 9 ≡ is_blank b
  blank_tab n e = simp (ne_eqb b 32 n, eq-eqb b 9 e)

  pub blank_other : (b ≡ 32 → ⊥) → (b ≡ 9 → ⊥) → eqb b 13 ≡ is_blank b
  blank_other n m = simp (ne_eqb b 32 n, ne_eqb b 9 m)
