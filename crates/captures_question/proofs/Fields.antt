-- What the fields of a question say, as the code tests them. Assumes nothing.
use mathlib.Core.Path.{◌≡◌, refl, sym, ap, ◌∙◌}
use mathlib.Core.Bool.{Bool, cond}
use mathlib.Core.List.{List, [], ◌∷◌}
use Prim.Native.Nat.{ℕ, ◌+◌, ◌≤◌}
use native.Mathlib.Omega.{arith}
use lib.ListN.{length, length-append}
use borrow.Author.Tests.{eq-eqb, ne_eqb}
use Rattle.text_in.specs.Text.{text, before}
use Rattle.text_in.proofs.Within.{before_within}
use Rattle.exchange_order.specs.Orders.{order}
use Rattle.chess.specs.Named.{square_of}
use Rattle.captures_question.specs.Question.{nth_square, kind_of_letter, letter_at, order_of, kinds_in}

-- ---- two squares
module _ (s : List ℕ) (at : ℕ) where
  pub not_four : (length s ≡ 4 → ⊥) → 64 ≡ nth_square s at
  not_four h = rw (ne_eqb (length s) 4 h) refl

  pub four : length s ≡ 4 → (r : ℕ) → r ≡ square_of (lib.ListN.get_or s at 0) (lib.ListN.get_or s (at + 1) 0) → r ≡ nth_square s at
  four h r e = e ∙ rw (eq-eqb (length s) 4 h) refl

-- ---- letters
pub six_letters : (letter : ℕ) → kind_of_letter letter ≤ 6
six_letters letter =
    let w = before_within letter (text "pnbrqk") in
    let e : length (text "pnbrqk") ≡ _ = ap length w.is in
    omega (
      arith,
      length-append w.front (mathlib.Core.List.◌++◌ (before letter (text "pnbrqk")) w.back),
      length-append (before letter (text "pnbrqk")) w.back,
      e,
    )

module _ (s : List ℕ) where
  pub not_six : (length s ≡ 6 → ⊥) → (6 ∷ 6 ∷ 6 ∷ 6 ∷ 6 ∷ 6 ∷ []) ≡ order_of s
  not_six h = rw (ne_eqb (length s) 6 h) refl

  pub six : length s ≡ 6 → (a b c d e f : ℕ) → a ≡ letter_at s 0 → b ≡ letter_at s 1 → c ≡ letter_at s 2 → d ≡ letter_at s 3 → e ≡ letter_at s 4 → f ≡ letter_at s 5
      → (a ∷ b ∷ c ∷ d ∷ e ∷ f ∷ []) ≡ order_of s
  six h a b c d e f p q r t u v = rw (p, q, r, t, u, v, eq-eqb (length s) 6 h) refl

  pub no_field : length s ≡ 0 → (r : List ℕ) → r ≡ order → r ≡ kinds_in s
  no_field h r e = e ∙ rw (eq-eqb (length s) 0 h) refl

  pub a_field : (length s ≡ 0 → ⊥) → (r : List ℕ) → r ≡ order_of s → r ≡ kinds_in s
  a_field h r e = e ∙ sym (ap (λ (t : Bool). cond t order (order_of s)) (ne_eqb (length s) 0 h))
