-- The en passant square there and back: its name is read as the square, and a name that is read is the square's. Assumes nothing.
use mathlib.Core.Path.{◌≡◌, refl, sym, ap, ap₂}
use mathlib.Core.Bool.{Bool, true, false, cond, ◌||◌, ◌&&◌, and-false, true≢false}
use mathlib.Core.List.{List, [], ◌∷◌}
use Prim.Native.Nat.{ℕ, ◌+◌, ◌-◌, ◌*◌, ◌/◌, ◌%◌, ◌<◌}
use native.Mathlib.Omega.{arith}
use lib.Dec.{eqb, leb}
use lib.ListN.{length}
use borrow.Author.Tests.{ne_eqb, le-leb, leb-true}
use Rattle.laws.specs.Tests.{same}
use Rattle.laws.proofs.Tests.{is_same}
use Rattle.laws.proofs.Truth.{true_T}
use Rattle.text_in.specs.Text.{text}
use Rattle.line_tail.specs.Words.{missing, named_square, passant_of}
use Rattle.line_text.specs.Words.{or_else, square_text, passant_text}
use Rattle.std.specs.Prelude.{Option, None, Some}

-- ---- what is written is read
square_back : (s : ℕ) → s < 64 → named_square (square_text s) ≡ s
square_back s h =
    rw (le-leb 97 (97 + s % 8) (omega arith), le-leb (97 + s % 8) 104 (omega arith), le-leb 49 (49 + s / 8) (omega arith), le-leb (49 + s / 8) 56 (omega arith))
    (omega arith)

-- `-`, or a square of the board
abbrev pub on_board : Option ℕ → Type 0
on_board None = Unit
on_board (Some s) = s < 64

pub passant_back : (p : Option ℕ) → on_board p → passant_of (passant_text p) ≡ p
unfolding passant_of
passant_back None h = refl
passant_back (Some s) h = rw (and-false (eqb (97 + s % 8) 45)) (ap Some (square_back s h))

-- ---- what is read is written so
-- a file from a to h and a rank from 1 to 8
abbrev named : Bool → ℕ → ℕ → ℕ
named t f r = cond t (8 * (r - 49) + (f - 97)) 64

name_own : (f r : ℕ) (t u v w : Bool) → leb 97 f ≡ t → leb f 104 ≡ u → leb 49 r ≡ v → leb r 56 ≡ w → named ((t && u) && (v && w)) f r < 64
    → square_text (named ((t && u) && (v && w)) f r) ≡ f ∷ (r ∷ [])
name_own f r true true true true a b c d h =
    let n : ℕ = 8 * (r - 49) + (f - 97) in
    let p : 97 + n % 8 ≡ f = omega (arith, leb-true 97 f a, leb-true f 104 b, leb-true 49 r c) in
    let q : 49 + n / 8 ≡ r = omega (arith, leb-true 97 f a, leb-true f 104 b, leb-true 49 r c) in
    ap₂ (λ (x y : ℕ). x ∷ (y ∷ [])) p q
name_own f r true true true false a b c d h = absurd (omega arith)
name_own f r true true false w a b c d h = absurd (omega arith)
name_own f r true false v w a b c d h = absurd (omega arith)
name_own f r false u v w a b c d h = absurd (omega arith)

no_name : 64 < 64 → ⊥
no_name h = omega arith

square_own : (s : List ℕ) → named_square s < 64 → square_text (named_square s) ≡ s
square_own [] h = absurd (no_name h)
square_own (f ∷ []) h = absurd (no_name h)
square_own (f ∷ (r ∷ [])) h = name_own f r (leb 97 f) (leb f 104) (leb 49 r) (leb r 56) refl refl refl refl h
square_own (f ∷ (r ∷ (b ∷ s))) h = absurd (no_name (rw (ne_eqb (length (f ∷ (r ∷ (b ∷ s)))) 2 (λ e. omega arith)) at h))

pub passant_own : (s : List ℕ) → on_board (passant_of s) → passant_text (passant_of s) ≡ or_else (text "-") s
unfolding passant_of
passant_own [] h = refl
passant_own (b ∷ s) h = go (missing (b ∷ s)) (same (b ∷ s) (text "-")) (ne_eqb (length (b ∷ s)) 0 (λ e. omega arith)) refl h
  where
    go : (t u : Bool) → t ≡ false → same (b ∷ s) (text "-") ≡ u → on_board (cond (t || u) None (Some (named_square (b ∷ s))))
        → passant_text (cond (t || u) None (Some (named_square (b ∷ s)))) ≡ b ∷ s
    go true u d e k = absurd (true≢false d)
    go false true d e k = sym (is_same (b ∷ s) (text "-") (true_T e))
    go false false d e k = square_own (b ∷ s) k
