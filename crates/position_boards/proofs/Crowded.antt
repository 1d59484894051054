-- One more board: what it does to the squares that one board has, that two have, and that a colour has. Assumes nothing.
use mathlib.Core.Path.{◌≡◌, refl, sym, ap, ◌∙◌}
use mathlib.Core.Bool.{Bool, true, false, ◌||◌, ◌&&◌, and-false}
use mathlib.Core.List.{List}
use Prim.Native.Nat.{ℕ, zero, suc, ◌+◌, ◌*◌, ◌^◌, ◌<◌}
use native.Mathlib.Nat.{zero-add}
use native.Mathlib.Omega.{arith}
use lib.Bits.{bit_and, bit_or}
use lib.Dec.{leb, leb-suc-zero}
use lib.ListN.{get_or}
use borrow.Author.Tests.{le-leb}
use Rattle.bits.specs.Bitboard.{digit, those, some, how_many}
use Rattle.bits.proofs.Digits.{has_zero}
use Rattle.bits.proofs.Those.{is_those, those_same, those_of, those_or, those_and}
use Rattle.position_boards.specs.Sound.{on, boards_with, of_colour}

-- ---- the counts
one_more : (t : Bool) (x : ℕ) → (t || leb 1 x) ≡ leb 1 (digit t + x)
one_more true x = sym (le-leb 1 (1 + x) (omega arith))
one_more false x = ap (leb 1) (sym (zero-add x))

two_more : (t : Bool) (x : ℕ) → ((leb 1 x && t) || leb 2 x) ≡ leb 2 (digit t + x)
two_more true zero = refl
two_more true (suc x) = ap (λ (b : Bool). (b && true) || leb 2 (suc x)) (le-leb 1 (suc x) (omega arith)) ∙ sym (le-leb 2 (1 + suc x) (omega arith))
two_more false x = ap (λ (b : Bool). b || leb 2 x) (and-false (leb 1 x)) ∙ ap (leb 2) (sym (zero-add x))

-- ---- n of the piece boards looked at
abbrev pub among : List ℕ → ℕ → ℕ → ℕ
among bbs n k = how_many n (λ m. on bbs (2 + m) k)

pub none_yet : (bbs : List ℕ) (j : ℕ) → 0 ≡ those 64 (λ k. leb (suc j) (among bbs 0 k))
unfolding how_many
none_yet bbs j = is_those 0 (λ k. leb (suc j) 0) (omega arith) (λ k h. has_zero k ∙ sym (leb-suc-zero j))

module _ (bbs : List ℕ) (n : ℕ) (fits : get_or bbs (2 + n) 0 < 2 ^ 64) where
  pub once_more : bit_or (get_or bbs (2 + n) 0) (those 64 (λ k. leb 1 (among bbs n k))) ≡ those 64 (λ k. leb 1 (among bbs (suc n) k))
  unfolding how_many
  once_more =
      ap (λ (b : ℕ). bit_or b (those 64 (λ k. leb 1 (among bbs n k)))) (sym (those_of (get_or bbs (2 + n) 0) fits))
      ∙ those_or (on bbs (2 + n)) (λ k. leb 1 (among bbs n k))
      ∙ those_same (λ k. on bbs (2 + n) k || leb 1 (among bbs n k)) (λ k. leb 1 (among bbs (suc n) k)) (λ k h. one_more (on bbs (2 + n) k) (among bbs n k))

  pub twice_more : bit_or (bit_and (those 64 (λ k. leb 1 (among bbs n k))) (get_or bbs (2 + n) 0)) (those 64 (λ k. leb 2 (among bbs n k)))
      ≡ those 64 (λ k. leb 2 (among bbs (suc n) k))
  unfolding how_many
  twice_more =
      ap (λ (b : ℕ). bit_or (bit_and (those 64 (λ k. leb 1 (among bbs n k))) b) (those 64 (λ k. leb 2 (among bbs n k))))
      (sym (those_of (get_or bbs (2 + n) 0) fits))
      ∙ ap (λ (b : ℕ). bit_or b (those 64 (λ k. leb 2 (among bbs n k)))) (those_and (λ k. leb 1 (among bbs n k)) (on bbs (2 + n)))
      ∙ those_or (λ k. leb 1 (among bbs n k) && on bbs (2 + n) k) (λ k. leb 2 (among bbs n k))
      ∙ those_same (λ k. (leb 1 (among bbs n k) && on bbs (2 + n) k) || leb 2 (among bbs n k)) (λ k. leb 2 (among bbs (suc n) k))
      (λ k h. two_more (on bbs (2 + n) k) (among bbs n k))

-- all twelve
pub all_twelve : (bbs : List ℕ) (n j : ℕ) → n ≡ 12 → those 64 (λ k. leb j (among bbs n k)) ≡ those 64 (λ k. leb j (boards_with bbs k))
unfolding boards_with
all_twelve bbs n j e = ap (λ (m : ℕ). those 64 (λ k. leb j (among bbs m k))) e

-- ---- n of a colour's boards looked at
abbrev pub among_colour : List ℕ → ℕ → ℕ → ℕ → Bool
among_colour bbs colour n k = some n (λ m. on bbs (2 + 2 * m + colour) k)

pub none_of_colour : (bbs : List ℕ) (colour : ℕ) → 0 ≡ those 64 (among_colour bbs colour 0)
unfolding some
none_of_colour bbs colour = is_those 0 (λ k. false) (omega arith) (λ k h. has_zero k)

pub colour_more : (bbs : List ℕ) (colour n : ℕ) → get_or bbs (2 + 2 * n + colour) 0 < 2 ^ 64
    → bit_or (get_or bbs (2 + 2 * n + colour) 0) (those 64 (among_colour bbs colour n)) ≡ those 64 (among_colour bbs colour (suc n))
unfolding some
colour_more bbs colour n fits =
    ap (λ (b : ℕ). bit_or b (those 64 (among_colour bbs colour n))) (sym (those_of (get_or bbs (2 + 2 * n + colour) 0) fits))
    ∙ those_or (on bbs (2 + 2 * n + colour)) (among_colour bbs colour n)

pub all_six : (bbs : List ℕ) (colour n : ℕ) → n ≡ 6 → those 64 (among_colour bbs colour n) ≡ those 64 (of_colour bbs colour)
unfolding of_colour
all_six bbs colour n e = ap (λ (m : ℕ). those 64 (among_colour bbs colour m)) e
