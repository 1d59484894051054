-- The squares at which a test of the 14 bitboards fails, as the code finds them, on whole bitboards. Assumes nothing.
use mathlib.Core.Path.{◌≡◌, refl, sym, ap, ap₂, ◌∙◌}
use mathlib.Core.Bool.{Bool, true, false, not, cond, ◌||◌, ◌&&◌, beq, not-not}
use mathlib.Core.List.{List}
use Prim.Native.Nat.{ℕ, ◌^◌, ◌<◌}
use lib.Bits.{bit_or, bit_xor, or_lt, xor_lt}
use lib.Dec.{eqb, leb}
use lib.ListN.{length, get_or}
use borrow.Author.Tests.{eq-eqb, ne_eqb}
use Rattle.bits.specs.Bitboard.{has, those}
use Rattle.bits.proofs.Digits.{has_or, has_xor}
use Rattle.bits.proofs.Those.{has_those, those_lt, those_same, is_those}
use Rattle.position_boards.specs.Sound.{on, boards_with, apart, of_colour, united}
use Rattle.position_boards.specs.PrivateTested.{shared_by, colour_squares}
use Rattle.position_boards.specs.Wrong.{wrong_of, overlap_of, split_of}
use Rattle.position_boards.proofs.Tested.{at_most_one}

-- ---- how many boards there are
none_of : (bbs : List ℕ) (f : ℕ → Bool) → (length bbs ≡ 14 → ⊥) → 0 ≡ cond (eqb (length bbs) 14) (wrong_of f) 0
none_of bbs f n = sym (ap (λ (t : Bool). cond t (wrong_of f) 0) (ne_eqb (length bbs) 14 n))

pub no_overlap : (bbs : List ℕ) → (length bbs ≡ 14 → ⊥) → 0 ≡ overlap_of bbs
no_overlap bbs = none_of bbs (apart bbs)

pub no_split : (bbs : List ℕ) → (length bbs ≡ 14 → ⊥) → 0 ≡ split_of bbs
no_split bbs = none_of bbs (united bbs)

all_of_14 : (bbs : List ℕ) (f : ℕ → Bool) → length bbs ≡ 14 → wrong_of f ≡ cond (eqb (length bbs) 14) (wrong_of f) 0
all_of_14 bbs f e = sym (ap (λ (t : Bool). cond t (wrong_of f) 0) (eq-eqb (length bbs) 14 e))

pub overlap_of_14 : (bbs : List ℕ) → length bbs ≡ 14 → wrong_of (apart bbs) ≡ overlap_of bbs
overlap_of_14 bbs = all_of_14 bbs (apart bbs)

pub split_of_14 : (bbs : List ℕ) → length bbs ≡ 14 → wrong_of (united bbs) ≡ split_of bbs
split_of_14 bbs = all_of_14 bbs (united bbs)

-- ---- overlap
pub overlap_found : (bbs : List ℕ) (t : ℕ) → length bbs ≡ 14 → t ≡ shared_by bbs 2 → t ≡ overlap_of bbs
overlap_found bbs t n e =
    e ∙ those_same (λ k. leb 2 (boards_with bbs k)) (λ k. not (apart bbs k))
    (λ k h. sym (not-not (leb 2 (boards_with bbs k))) ∙ ap not (at_most_one (boards_with bbs k))) ∙ overlap_of_14 bbs n

-- ---- unions
either_wrong : (a b : Bool) → (not a || not b) ≡ not (a && b)
either_wrong true b = refl
either_wrong false b = refl

xor_those : (a : ℕ) (f : ℕ → Bool) (k : ℕ) → k < 64 → has (bit_xor a (those 64 f)) k ≡ not (beq (has a k) (f k))
xor_those a f k h = has_xor a (those 64 f) k ∙ ap (λ (t : Bool). not (beq (has a k) t)) (has_those 64 f k h)

module _ (bbs : List ℕ) (w b : ℕ) (l0 : get_or bbs 0 0 < 2 ^ 64) (l1 : get_or bbs 1 0 < 2 ^ 64) (ew : w ≡ colour_squares bbs 0) (eb : b ≡ colour_squares bbs 1) where
  either_split : bit_or (bit_xor (get_or bbs 0 0) w) (bit_xor (get_or bbs 1 0) b) ≡ wrong_of (united bbs)
  either_split =
      is_those (bit_or (bit_xor (get_or bbs 0 0) w) (bit_xor (get_or bbs 1 0) b)) (λ k. not (united bbs k))
      (or_lt 64 (bit_xor (get_or bbs 0 0) w) (bit_xor (get_or bbs 1 0) b)
      (xor_lt 64 (get_or bbs 0 0) w l0 (rw ew (those_lt 64 (of_colour bbs 0))))
      (xor_lt 64 (get_or bbs 1 0) b l1 (rw eb (those_lt 64 (of_colour bbs 1)))))
      (λ k h.
      has_or (bit_xor (get_or bbs 0 0) w) (bit_xor (get_or bbs 1 0) b) k
      ∙ ap₂ ◌||◌
      (ap (λ (x : ℕ). has (bit_xor (get_or bbs 0 0) x) k) ew ∙ xor_those (get_or bbs 0 0) (of_colour bbs 0) k h)
      (ap (λ (x : ℕ). has (bit_xor (get_or bbs 1 0) x) k) eb ∙ xor_those (get_or bbs 1 0) (of_colour bbs 1) k h)
      ∙ either_wrong (beq (on bbs 0 k) (of_colour bbs 0 k)) (beq (on bbs 1 k) (of_colour bbs 1 k)))

  pub split_found : length bbs ≡ 14 → bit_or (bit_xor (get_or bbs 0 0) w) (bit_xor (get_or bbs 1 0) b) ≡ split_of bbs
  split_found n = either_split ∙ split_of_14 bbs n
