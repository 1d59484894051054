-- "Board 0 is the union of the even codes from 2, board 1 of the odd codes from 3": a colour's board has a square exactly where the board of one
-- of its codes has it. Assumes nothing.
use mathlib.Core.Path.{◌≡◌, sym, ap, ◌∙◌}
use mathlib.Core.Bool.{true, beq}
use mathlib.Core.List.{List}
use Prim.Native.Nat.{ℕ, ◌+◌, ◌*◌, ◌-◌, ◌/◌, ◌%◌, ◌≤◌, ◌<◌}
use native.Mathlib.Omega.{arith}
use lib.Dec.{T}
use Rattle.laws.specs.Tests.{all_below}
use Rattle.laws.proofs.Tests.{all_at, all_of}
use Rattle.laws.proofs.Truth.{true_T, T_true, and_l, and_r, and_i, iff, is_beq, beq_is}
use Rattle.chess.specs.Codes.{is_piece, colour_of}
use Rattle.bits.specs.Bitboard.{some}
use Rattle.bits.proofs.Some.{some_where, some_at}
use Rattle.position_boards.specs.Sound.{on, of_colour, united}
use Rattle.position_boards.proofs.Apart.{code_from, code_to, code_is}

-- a piece of the colour stands on the square
pub record Stands (bbs : List ℕ) (colour k : ℕ) : Type 0 where
  pub code : ℕ
  pub piece : T (is_piece code)
  pub own : colour_of code ≡ colour
  pub there : on bbs code k ≡ true

-- ---- the codes of a colour are 2 + 2·n + colour, n below 6
pub colour_stands : (bbs : List ℕ) (colour k : ℕ) → colour < 2 → of_colour bbs colour k ≡ true → Stands bbs colour k
unfolding of_colour
colour_stands bbs colour k h e =
    let s = some_where 6 (λ n. on bbs (2 + 2 * n + colour) k) e in
    let n : ℕ = s.at in
    let l : n < 6 = s.below in
    record { code = 2 + 2 * n + colour; piece = code_is (2 + 2 * n + colour) (omega arith) (omega arith); own = omega arith; there = s.holds }

pub stands_colour : (bbs : List ℕ) (colour k : ℕ) → Stands bbs colour k → of_colour bbs colour k ≡ true
unfolding of_colour
stands_colour bbs colour k s =
    let c : ℕ = s.code in
    let from : 2 ≤ c = code_from c s.piece in
    let to : c ≤ 13 = code_to c s.piece in
    let own : c % 2 ≡ colour = s.own in
    let n : ℕ = (c - 2) / 2 in
    let l : n < 6 = omega arith in
    let e : 2 + 2 * n + colour ≡ c = omega arith in
    T_true (some 6 (λ m. on bbs (2 + 2 * m + colour) k))
    (some_at 6 (λ m. on bbs (2 + 2 * m + colour) k) n l (true_T (ap (λ (b : ℕ). on bbs b k) e ∙ s.there)))

-- ---- at a square
module _ (bbs : List ℕ) (k : ℕ) where
  pub record Union (colour : ℕ) : Type 0 where
    pub within : on bbs colour k ≡ true → Stands bbs colour k
    pub whole : Stands bbs colour k → on bbs colour k ≡ true

  is_union : (colour : ℕ) → colour < 2 → on bbs colour k ≡ of_colour bbs colour k → Union colour
  is_union colour h e = record { within = λ p. colour_stands bbs colour k h (sym e ∙ p); whole = λ s. e ∙ stands_colour bbs colour k s }

  union_is : (colour : ℕ) → colour < 2 → Union colour → on bbs colour k ≡ of_colour bbs colour k
  union_is colour h u =
      iff (on bbs colour k) (of_colour bbs colour k)
      (λ t. true_T (stands_colour bbs colour k (u.within (T_true (on bbs colour k) t))))
      (λ t. true_T (u.whole (colour_stands bbs colour k h (T_true (of_colour bbs colour k) t))))

  pub united_white : T (united bbs k) → on bbs 0 k ≡ of_colour bbs 0 k
  united_white t = is_beq (on bbs 0 k) (of_colour bbs 0 k) (and_l (beq (on bbs 0 k) (of_colour bbs 0 k)) (beq (on bbs 1 k) (of_colour bbs 1 k)) t)

  pub united_black : T (united bbs k) → on bbs 1 k ≡ of_colour bbs 1 k
  united_black t = is_beq (on bbs 1 k) (of_colour bbs 1 k) (and_r (beq (on bbs 0 k) (of_colour bbs 0 k)) (beq (on bbs 1 k) (of_colour bbs 1 k)) t)

  pub united_at : on bbs 0 k ≡ of_colour bbs 0 k → on bbs 1 k ≡ of_colour bbs 1 k → T (united bbs k)
  united_at w b =
      and_i (beq (on bbs 0 k) (of_colour bbs 0 k)) (beq (on bbs 1 k) (of_colour bbs 1 k))
      (beq_is (on bbs 0 k) (of_colour bbs 0 k) w) (beq_is (on bbs 1 k) (of_colour bbs 1 k) b)

-- ---- over the board, both ways
pub united_everywhere : (bbs : List ℕ) → T (all_below 64 (united bbs)) → (k : ℕ) → k < 64 → Union bbs k 0 × Union bbs k 1
united_everywhere bbs t k h =
    let u = all_at 64 (united bbs) t k h in
    (is_union bbs k 0 (omega arith) (united_white bbs k u), is_union bbs k 1 (omega arith) (united_black bbs k u))

pub everywhere_united : (bbs : List ℕ) → ((k : ℕ) → k < 64 → Union bbs k 0 × Union bbs k 1) → T (all_below 64 (united bbs))
everywhere_united bbs u =
    all_of 64 (united bbs)
    (λ k h. united_at bbs k (union_is bbs k 0 (omega arith) (u k h).0) (union_is bbs k 1 (omega arith) (u k h).1))
