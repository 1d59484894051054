-- The sorted bytes are the bitboards of the bytes, and a byte that is no code is seen at place 1 or 14. Assumes nothing.
use mathlib.Core.Path.{◌≡◌, refl, sym, ap, ap₂, ◌∙◌}
use mathlib.Core.Bool.{Bool, true, false, not, cond, ◌||◌, ◌&&◌, beq}
use mathlib.Core.List.{List}
use Prim.Native.Nat.{ℕ, ◌+◌, ◌*◌, ◌≤◌, ◌<◌}
use native.Mathlib.Omega.{arith}
use lib.Bits.{bit_or}
use lib.Dec.{T, eqb, leb, ltb}
use lib.ListN.{get_or}
use borrow.Author.Tests.{ltb-true, ltb-false, ne_eqb, le-leb}
use Rattle.laws.specs.Tests.{all_below, all_below2}
use Rattle.laws.proofs.Tables.{entry, tabulate_same}
use Rattle.laws.proofs.Tests.{all_at, all2_at, all_same}
use Rattle.laws.proofs.Truth.{is_beq}
use Rattle.chess.specs.Codes.{colour_of}
use Rattle.bits.specs.Bitboard.{has, those, some}
use Rattle.bits.proofs.Some.{some_same}
use Rattle.bits.proofs.Those.{has_those, those_same, those_or, those_none}
use Rattle.position_boards.specs.Sound.{of_colour}
use Rattle.position_boards.specs.Boards.{is_byte, coded, stands_on, bitboards_of}
use Rattle.position_planes.specs.Sorted.{table_place, sorted_by}
use Rattle.position_planes.proofs.Places.{by_place, no_piece}
use Rattle.position_boards.specs.PrivateTested.{colour_squares, boards_by}

-- ---- where a byte is sorted, and where it stands
pub on_its_board : (byte board : ℕ) → 2 ≤ board → board < 14 → eqb (table_place byte) board ≡ stands_on byte board
unfolding all_below2 all_below
on_its_board byte board l h =
    by_place (λ b p. eqb p board ≡ stands_on b board)
    (λ b hb. pick b (leb 2 board) (le-leb 2 board l) (all2_at 14 14 (λ c d. not (leb 2 d) || beq (eqb c d) (stands_on c d)) tt b board hb h))
    (λ b hb. ne_eqb 14 board (omega arith) ∙ sym (ap (λ (t : Bool). t && cond (ltb board 2) (eqb (colour_of b) board) (eqb b board)) (no_piece b hb)))
    byte
  where
    pick : (b : ℕ) (t : Bool) → t ≡ true → T (not t || beq (eqb b board) (stands_on b board)) → eqb b board ≡ stands_on b board
    pick b true e t = is_beq (eqb b board) (stands_on b board) t
    pick b false e t = absurd (mathlib.Core.Bool.false≢true e)

pub on_its_colour : (byte colour : ℕ) → colour < 2 → some 6 (λ n. eqb (table_place byte) (2 + 2 * n + colour)) ≡ stands_on byte colour
unfolding all_below2 all_below some
on_its_colour byte colour h =
    by_place (λ b p. some 6 (λ n. eqb p (2 + 2 * n + colour)) ≡ stands_on b colour)
    (λ b hb. table b (omega arith))
    (λ b hb. table 14 (omega arith) ∙ sym (ap (λ (t : Bool). t && cond (ltb colour 2) (eqb (colour_of b) colour) (eqb b colour)) (no_piece b hb)))
    byte
  where
    table : (b : ℕ) → b < 15 → some 6 (λ n. eqb b (2 + 2 * n + colour)) ≡ stands_on b colour
    table b hb =
        is_beq (some 6 (λ n. eqb b (2 + 2 * n + colour))) (stands_on b colour)
        (all2_at 15 2 (λ c d. beq (some 6 (λ n. eqb c (2 + 2 * n + d))) (stands_on c d)) tt b colour hb h)

no_code : (byte : ℕ) → not (eqb (table_place byte) 1 || eqb (table_place byte) 14) ≡ is_byte byte
unfolding all_below
no_code =
    by_place (λ b p. not (eqb p 1 || eqb p 14) ≡ is_byte b)
    (λ b hb. is_beq (not (eqb b 1 || eqb b 14)) (is_byte b) (all_at 14 (λ c. beq (not (eqb c 1 || eqb c 14)) (is_byte c)) tt b hb))
    (λ b hb. sym (ap₂ ◌||◌ (ne_eqb b 0 (omega arith)) (no_piece b hb)))

-- ---- the boards
module _ (bytes : List ℕ) where
  sorted_at : (place : ℕ) → place < 15 → get_or (sorted_by bytes) place 0 ≡ those 64 (λ k. eqb (table_place (get_or bytes k 0)) place)
  unfolding sorted_by
  sorted_at place h = entry 15 (λ place. those 64 (λ k. eqb (table_place (get_or bytes k 0)) place)) 0 place h

  piece_board : (board : ℕ) → 2 ≤ board → board < 14 → get_or (sorted_by bytes) board 0 ≡ those 64 (λ k. stands_on (get_or bytes k 0) board)
  piece_board board l h =
      sorted_at board (omega arith)
      ∙ those_same (λ k. eqb (table_place (get_or bytes k 0)) board) (λ k. stands_on (get_or bytes k 0) board) (λ k hk. on_its_board (get_or bytes k 0) board l h)

  colour_board : (colour : ℕ) → colour < 2 → colour_squares (sorted_by bytes) colour ≡ those 64 (λ k. stands_on (get_or bytes k 0) colour)
  unfolding of_colour
  colour_board colour h =
      those_same (of_colour (sorted_by bytes) colour) (λ k. stands_on (get_or bytes k 0) colour)
      (λ k hk.
      some_same 6 (λ n. has (get_or (sorted_by bytes) (2 + 2 * n + colour) 0) k) (λ n. eqb (table_place (get_or bytes k 0)) (2 + 2 * n + colour))
      (λ n hn. ap (λ (b : ℕ). has b k) (sorted_at (2 + 2 * n + colour) (omega arith))
      ∙ has_those 64 (λ j. eqb (table_place (get_or bytes j 0)) (2 + 2 * n + colour)) k hk)
      ∙ on_its_colour (get_or bytes k 0) colour h)

  each_board : (board : ℕ) → board < 14 → cond (ltb board 2) (colour_squares (sorted_by bytes) board) (get_or (sorted_by bytes) board 0)
      ≡ those 64 (λ k. stands_on (get_or bytes k 0) board)
  each_board board h = go (ltb board 2) refl
    where
      go : (t : Bool) → ltb board 2 ≡ t → cond t (colour_squares (sorted_by bytes) board) (get_or (sorted_by bytes) board 0)
          ≡ those 64 (λ k. stands_on (get_or bytes k 0) board)
      go true e = colour_board board (ltb-true board 2 e)
      go false e = piece_board board (ltb-false board 2 e) h

-- ---- what the code gives
pub made : (bytes squares boards : List ℕ) → squares ≡ sorted_by bytes → boards ≡ boards_by squares → boards ≡ bitboards_of bytes
unfolding boards_by bitboards_of
made bytes squares boards s b =
    b ∙ ap boards_by s
    ∙ tabulate_same 14 (λ board. cond (ltb board 2) (colour_squares (sorted_by bytes) board) (get_or (sorted_by bytes) board 0))
    (λ board. those 64 (λ k. stands_on (get_or bytes k 0) board)) (each_board bytes)

pub strays_seen : (bytes s : List ℕ) → s ≡ sorted_by bytes → eqb (bit_or (get_or s 1 0) (get_or s 14 0)) 0 ≡ coded bytes
unfolding coded
strays_seen bytes s e =
    let at : ℕ → ℕ → Bool = λ place k. eqb (table_place (get_or bytes k 0)) place in
    ap (λ (t : List ℕ). eqb (bit_or (get_or t 1 0) (get_or t 14 0)) 0) e
    ∙ ap₂ (λ (x y : ℕ). eqb (bit_or x y) 0) (sorted_at bytes 1 (omega arith)) (sorted_at bytes 14 (omega arith))
    ∙ ap (λ (x : ℕ). eqb x 0) (those_or (at 1) (at 14))
    ∙ those_none (λ k. at 1 k || at 14 k)
    ∙ all_same 64 (λ k. not (at 1 k || at 14 k)) (λ k. is_byte (get_or bytes k 0)) (λ k h. no_code (get_or bytes k 0))
