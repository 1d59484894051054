-- The tests of the 14 bitboards as the code makes them, on whole bitboards. Assumes nothing.
use mathlib.Core.Path.{◌≡◌, refl, sym, ap, ap₂, ◌∙◌}
use mathlib.Core.Bool.{Bool, true, false, not, ◌&&◌, and-false, beq}
use mathlib.Core.List.{List}
use Prim.Native.Nat.{ℕ, zero, suc, ◌^◌, ◌<◌}
use native.Mathlib.Omega.{arith}
use lib.Dec.{T, eqb, leb, eqb→eq}
use lib.ListN.{length, get_or}
use borrow.Author.Tests.{eq-eqb, ne_eqb, le-leb, lt-leb}
use Rattle.laws.specs.Tests.{all_below}
use Rattle.laws.proofs.Tests.{all_and, all_same}
use Rattle.laws.proofs.Truth.{true_T, and_l, and_r}
use Rattle.bits.proofs.Those.{those_none, is_those_test}
use Rattle.position_boards.specs.Sound.{on, boards_with, apart, of_colour, united, sound}
use Rattle.position_boards.specs.PrivateTested.{shared_by, colour_squares}

-- ---- "don't overlap": no square that two boards have
pub at_most_one : (x : ℕ) → not (leb 2 x) ≡ leb x 1
at_most_one zero = refl
at_most_one (suc zero) = refl
at_most_one (suc (suc x)) = ap not (le-leb 2 (suc (suc x)) (omega arith)) ∙ sym (lt-leb (suc (suc x)) 1 (omega arith))

pub apart_is : (bbs : List ℕ) → eqb (shared_by bbs 2) 0 ≡ all_below 64 (apart bbs)
apart_is bbs =
    those_none (λ k. leb 2 (boards_with bbs k))
    ∙ all_same 64 (λ k. not (leb 2 (boards_with bbs k))) (apart bbs) (λ k h. at_most_one (boards_with bbs k))

-- ---- "board 0 is the union .., board 1 ..": two bitboards compared
pub united_is : (bbs : List ℕ) → get_or bbs 0 0 < 2 ^ 64 → get_or bbs 1 0 < 2 ^ 64
    → (eqb (get_or bbs 0 0) (colour_squares bbs 0) && eqb (get_or bbs 1 0) (colour_squares bbs 1)) ≡ all_below 64 (united bbs)
united_is bbs f0 f1 =
    ap₂ ◌&&◌ (is_those_test (get_or bbs 0 0) (of_colour bbs 0) f0) (is_those_test (get_or bbs 1 0) (of_colour bbs 1) f1)
    ∙ sym (all_and 64 (λ k. beq (on bbs 0 k) (of_colour bbs 0 k)) (λ k. beq (on bbs 1 k) (of_colour bbs 1 k)))

-- ---- in the code's order: what each of its returns gives
abbrev fourteen : List ℕ → Bool
fourteen bbs = eqb (length bbs) 14

pub no_fourteen : (bbs : List ℕ) → (length bbs ≡ 14 → ⊥) → false ≡ sound bbs
unfolding sound
no_fourteen bbs n = sym (ap (λ (a : Bool). a && (all_below 64 (apart bbs) && all_below 64 (united bbs))) (ne_eqb (length bbs) 14 n))

module _ (bbs : List ℕ) (f0 : get_or bbs 0 0 < 2 ^ 64) (f1 : get_or bbs 1 0 < 2 ^ 64) where
  -- nothing overlaps, white and black are united
  abbrev O : Bool
  O = eqb (shared_by bbs 2) 0

  abbrev W : Bool
  W = eqb (get_or bbs 0 0) (colour_squares bbs 0)

  abbrev B : Bool
  B = eqb (get_or bbs 1 0) (colour_squares bbs 1)

  the_tests : sound bbs ≡ (fourteen bbs && (O && (W && B)))
  unfolding sound
  the_tests = sym (ap (λ (a : Bool). fourteen bbs && a) (ap₂ ◌&&◌ (apart_is bbs) (united_is bbs f0 f1)))

  pub overlapping : (t : ℕ) → t ≡ shared_by bbs 2 → (t ≡ 0 → ⊥) → false ≡ sound bbs
  overlapping t e n =
      sym (the_tests ∙ ap (λ (a : Bool). fourteen bbs && (a && (W && B))) (ap (λ (x : ℕ). eqb x 0) (sym e) ∙ ne_eqb t 0 n) ∙ and-false (fourteen bbs))

  pub white_amiss : (t : ℕ) → t ≡ colour_squares bbs 0 → (get_or bbs 0 0 ≡ t → ⊥) → false ≡ sound bbs
  white_amiss t e n =
      sym (the_tests ∙ ap (λ (a : Bool). fourteen bbs && (O && (a && B))) (ap (λ (x : ℕ). eqb (get_or bbs 0 0) x) (sym e) ∙ ne_eqb (get_or bbs 0 0) t n)
      ∙ ap (λ (a : Bool). fourteen bbs && a) (and-false O) ∙ and-false (fourteen bbs))

  pub black_decides : (t u v : ℕ) → length bbs ≡ 14 → t ≡ shared_by bbs 2 → t ≡ 0 → u ≡ colour_squares bbs 0 → get_or bbs 0 0 ≡ u → v ≡ colour_squares bbs 1
      → eqb (get_or bbs 1 0) v ≡ sound bbs
  black_decides t u v n e z eu w ev =
      ap (eqb (get_or bbs 1 0)) ev
      ∙ sym (the_tests
      ∙ ap (λ (a : Bool). a && (O && (W && B))) (eq-eqb (length bbs) 14 n)
      ∙ ap (λ (a : Bool). a && (W && B)) (eq-eqb (shared_by bbs 2) 0 (sym e ∙ z))
      ∙ ap (λ (a : Bool). a && B) (eq-eqb (get_or bbs 0 0) (colour_squares bbs 0) (w ∙ eu)))

-- ---- what sound boards are
module _ (bbs : List ℕ) (e : sound bbs ≡ true) where
  pub sound_14 : length bbs ≡ 14
  unfolding sound
  sound_14 = eqb→eq (length bbs) 14 (and_l (fourteen bbs) (all_below 64 (apart bbs) && all_below 64 (united bbs)) (true_T e))

  pub sound_apart : T (all_below 64 (apart bbs))
  unfolding sound
  sound_apart =
      and_l (all_below 64 (apart bbs)) (all_below 64 (united bbs))
      (and_r (fourteen bbs) (all_below 64 (apart bbs) && all_below 64 (united bbs)) (true_T e))
