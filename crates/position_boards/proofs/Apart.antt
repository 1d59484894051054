-- "The twelve piece boards (codes 2 to 13) don't overlap": no two of them share a square, exactly where the first test holds at every square.
-- Assumes nothing.
use mathlib.Core.Path.{◌≡◌, ap, ◌∙◌}
use mathlib.Core.Bool.{true}
use mathlib.Core.List.{List}
use Prim.Native.Nat.{ℕ, ◌+◌, ◌-◌, ◌≤◌, ◌<◌}
use native.Mathlib.Omega.{arith}
use lib.Dec.{T, leb, leb→le, le→leb}
use borrow.Author.Tests.{leb-true, le-leb}
use Rattle.laws.specs.Tests.{all_below}
use Rattle.laws.proofs.Tests.{all_at, all_of}
use Rattle.laws.proofs.Truth.{true_T, T_true, and_l, and_r, and_i}
use Rattle.chess.specs.Codes.{is_piece}
use Rattle.bits.proofs.Counts.{one_alone, alone_one}
use Rattle.position_boards.specs.Sound.{on, boards_with, apart}

-- ---- the codes are 2 + n, n below 12
pub code_from : (c : ℕ) → T (is_piece c) → 2 ≤ c
code_from c t = leb→le 2 c (and_l (leb 2 c) (leb c 13) t)

pub code_to : (c : ℕ) → T (is_piece c) → c ≤ 13
code_to c t = leb→le c 13 (and_r (leb 2 c) (leb c 13) t)

pub code_is : (c : ℕ) → 2 ≤ c → c ≤ 13 → T (is_piece c)
code_is c l h = and_i (leb 2 c) (leb c 13) (le→leb 2 c l) (le→leb c 13 h)

-- ---- at a square
module _ (bbs : List ℕ) (k : ℕ) where
  -- two piece boards that have the square are one
  pub record OneAtMost : Type 0 where
    pub same : (c d : ℕ) → T (is_piece c) → T (is_piece d) → on bbs c k ≡ true → on bbs d k ≡ true → c ≡ d

  pub apart_one : apart bbs k ≡ true → OneAtMost
  unfolding boards_with
  apart_one e = record {
    same = λ c d pc pd hc hd.
        let fc = code_from c pc in
        let tc = code_to c pc in
        let fd = code_from d pd in
        let td = code_to d pd in
        let ec : 2 + (c - 2) ≡ c = omega arith in
        let ed : 2 + (d - 2) ≡ d = omega arith in
        let same : c - 2 ≡ d - 2 =
        one_alone 12 (λ n. on bbs (2 + n) k) (leb-true (boards_with bbs k) 1 e) (c - 2) (d - 2) (omega arith) (omega arith)
        (ap (λ (b : ℕ). on bbs b k) ec ∙ hc) (ap (λ (b : ℕ). on bbs b k) ed ∙ hd) in
        omega arith;
  }

  pub one_apart : OneAtMost → apart bbs k ≡ true
  unfolding boards_with
  one_apart o =
      le-leb (boards_with bbs k) 1
      (alone_one 12 (λ n. on bbs (2 + n) k)
      (λ i j hi hj ei ej. let same : 2 + i ≡ 2 + j = o.same (2 + i) (2 + j) (code_is (2 + i) (omega arith) (omega arith))
      (code_is (2 + j) (omega arith) (omega arith)) ei ej in omega arith))

-- ---- over the board, both ways
pub apart_everywhere : (bbs : List ℕ) → T (all_below 64 (apart bbs)) → (k : ℕ) → k < 64 → OneAtMost bbs k
apart_everywhere bbs t k h = apart_one bbs k (T_true (apart bbs k) (all_at 64 (apart bbs) t k h))

pub everywhere_apart : (bbs : List ℕ) → ((k : ℕ) → k < 64 → OneAtMost bbs k) → T (all_below 64 (apart bbs))
everywhere_apart bbs o = all_of 64 (apart bbs) (λ k h. true_T (one_apart bbs k (o k h)))
