-- The bitboards of 64 bytes are consistent with them where every byte is 0 or a piece's code, and no other 14 bitboards are: a consistent
-- position is told by its bytes. Assumes nothing.
use mathlib.Core.Path.{◌≡◌, refl, sym, ap, ap₂, ◌∙◌}
use mathlib.Core.Bool.{Bool, true, false, cond, ◌||◌, ◌&&◌, and-false}
use mathlib.Core.List.{List}
use Prim.Native.Nat.{ℕ, zero, suc, ◌+◌, ◌*◌, ◌^◌, ◌≤◌, ◌<◌}
use native.Mathlib.Omega.{arith}
use lib.Dec.{T, eqb}
use lib.ListN.{get_or, length}
use lib.Seq.{ext_get_or}
use borrow.Author.Tests.{eq-eqb, eqb-true, le-leb, le-ltb}
use Rattle.laws.specs.Tests.{all_below}
use Rattle.laws.proofs.Tables.{entry, tabulate_length}
use Rattle.laws.proofs.Tests.{all_at, all_of}
use Rattle.laws.proofs.Truth.{true_T, T_true, and_i}
use Rattle.chess.specs.Codes.{is_piece, colour_of}
use Rattle.bits.specs.Bitboard.{has, digit, those, how_many}
use Rattle.bits.proofs.Counts.{many_same}
use Rattle.bits.proofs.Some.{some_same}
use Rattle.bits.proofs.Those.{has_those, is_those}
use Rattle.position_boards.specs.Sound.{on, boards_with, apart, of_colour, united}
use Rattle.position_consistent.specs.Consistent.{agrees, consistent}
use Rattle.position_boards.specs.Boards.{is_byte, coded, stands_on, bitboards_of}
use Rattle.position_boards.specs.Promises.{Makes}
use Rattle.position_planes.specs.Sorted.{table_place}
use Rattle.position_boards.specs.declared.Boards.{Boards}
use Rattle.position_planes.proofs.Places.{by_place, no_piece}
use Rattle.position_boards.proofs.Made.{on_its_board, on_its_colour}
use Rattle.position_boards.proofs.Apart.{code_from, code_to, code_is}
use Rattle.position_boards.proofs.United.{united_white, united_black, united_at}
use Rattle.position_consistent.proofs.Parts.{three_consistent, consistent_united, board_by_byte}

-- ---- a byte stands on as many piece boards as it is a piece: one, or none
one_board : (byte : ℕ) → how_many 12 (λ n. eqb (table_place byte) (2 + n)) ≡ digit (is_piece byte)
unfolding all_below how_many
one_board =
    by_place (λ b p. how_many 12 (λ n. eqb p (2 + n)) ≡ digit (is_piece b)) (λ b h. table b (omega arith))
    (λ b h. table 14 (omega arith) ∙ ap digit (sym (no_piece b h)))
  where
    table : (b : ℕ) → b < 15 → how_many 12 (λ n. eqb b (2 + n)) ≡ digit (is_piece b)
    table b h = eqb-true (how_many 12 (λ n. eqb b (2 + n))) (digit (is_piece b))
        (T_true (eqb (how_many 12 (λ n. eqb b (2 + n))) (digit (is_piece b))) (all_at 15 (λ c. eqb (how_many 12 (λ n. eqb c (2 + n))) (digit (is_piece c))) tt b h))

code_stands : (byte board : ℕ) → T (is_piece board) → eqb byte board ≡ stands_on byte board
code_stands byte board p =
    sym (ap (λ (l : Bool). is_piece byte && cond l (eqb (colour_of byte) board) (eqb byte board)) (le-ltb board 2 (code_from board p)) ∙ go (eqb byte board) refl)
  where
    go : (t : Bool) → eqb byte board ≡ t → (is_piece byte && t) ≡ t
    go true q = ap (λ (b : ℕ). is_piece b && true) (eqb-true byte board q) ∙ ap (λ (t : Bool). t && true) (T_true (is_piece board) p)
    go false q = and-false (is_piece byte)

-- a position whose boards hold what stands on them by its bytes, at a square
module _ (bbs bytes : List ℕ) (k : ℕ) (stands : (board : ℕ) → 2 ≤ board → board < 14 → on bbs board k ≡ stands_on (get_or bytes k 0) board) where
  pub boards_with_of : boards_with bbs k ≡ digit (is_piece (get_or bytes k 0))
  unfolding boards_with
  boards_with_of =
      many_same 12 (λ n. on bbs (2 + n) k) (λ n. eqb (table_place (get_or bytes k 0)) (2 + n))
      (λ n h. stands (2 + n) (omega arith) (omega arith) ∙ sym (on_its_board (get_or bytes k 0) (2 + n) (omega arith) (omega arith)))
      ∙ one_board (get_or bytes k 0)

  pub colour_of_holds : (colour : ℕ) → colour < 2 → of_colour bbs colour k ≡ stands_on (get_or bytes k 0) colour
  unfolding of_colour
  colour_of_holds colour h =
      some_same 6 (λ n. on bbs (2 + 2 * n + colour) k) (λ n. eqb (table_place (get_or bytes k 0)) (2 + 2 * n + colour))
      (λ n l. stands (2 + 2 * n + colour) (omega arith) (omega arith) ∙ sym (on_its_board (get_or bytes k 0) (2 + 2 * n + colour) (omega arith) (omega arith)))
      ∙ on_its_colour (get_or bytes k 0) colour h

-- ---- what is made is consistent
module _ (bytes : List ℕ) where
  pub on_made : (k board : ℕ) → k < 64 → board < 14 → on (bitboards_of bytes) board k ≡ stands_on (get_or bytes k 0) board
  unfolding bitboards_of
  on_made k board hk hb =
      ap (λ (b : ℕ). has b k) (entry 14 (λ c. those 64 (λ j. stands_on (get_or bytes j 0) c)) 0 board hb)
      ∙ has_those 64 (λ j. stands_on (get_or bytes j 0) board) k hk

  boards_with_made : (k : ℕ) → k < 64 → boards_with (bitboards_of bytes) k ≡ digit (is_piece (get_or bytes k 0))
  boards_with_made k h = boards_with_of (bitboards_of bytes) bytes k (λ board l u. on_made k board h u)

  apart_made : (k : ℕ) → k < 64 → T (apart (bitboards_of bytes) k)
  apart_made k h = true_T (le-leb (boards_with (bitboards_of bytes) k) 1 (omega (arith, boards_with_made k h, small (is_piece (get_or bytes k 0)))))
    where
      small : (t : Bool) → digit t ≤ 1
      small true = omega arith
      small false = omega arith

  united_made : (k : ℕ) → k < 64 → T (united (bitboards_of bytes) k)
  united_made k h = united_at (bitboards_of bytes) k (colour 0 (omega arith)) (colour 1 (omega arith))
    where
      colour : (c : ℕ) → c < 2 → on (bitboards_of bytes) c k ≡ of_colour (bitboards_of bytes) c k
      colour c l = on_made k c h (omega arith) ∙ sym (colour_of_holds (bitboards_of bytes) bytes k (λ board _ u. on_made k board h u) c l)

  agrees_made : (k : ℕ) → k < 64 → T (is_byte (get_or bytes k 0)) → T (agrees (bitboards_of bytes) bytes k)
  agrees_made k h t = go (eqb (get_or bytes k 0) 0) refl t
    where
      go : (z : Bool) → eqb (get_or bytes k 0) 0 ≡ z → T (z || is_piece (get_or bytes k 0))
          → T (cond z (eqb (boards_with (bitboards_of bytes) k) 0) (is_piece (get_or bytes k 0) && on (bitboards_of bytes) (get_or bytes k 0) k))
      go true e u = true_T (eq-eqb (boards_with (bitboards_of bytes) k) 0
          (boards_with_made k h ∙ ap (λ (b : ℕ). digit (is_piece b)) (eqb-true (get_or bytes k 0) 0 e)))
      go false e u =
          let from = code_from (get_or bytes k 0) u in
          let to = code_to (get_or bytes k 0) u in
          and_i (is_piece (get_or bytes k 0)) (on (bitboards_of bytes) (get_or bytes k 0) k) u
          (true_T
          (on_made k (get_or bytes k 0) h (omega arith)
          ∙ ap₂ (λ (p l : Bool). p && cond l (eqb (colour_of (get_or bytes k 0)) (get_or bytes k 0)) (eqb (get_or bytes k 0) (get_or bytes k 0)))
          (T_true (is_piece (get_or bytes k 0)) u) (le-ltb (get_or bytes k 0) 2 from)
          ∙ eq-eqb (get_or bytes k 0) (get_or bytes k 0) refl))

  pub made_consistent : coded bytes ≡ true → consistent (bitboards_of bytes) bytes ≡ true
  unfolding coded
  made_consistent e =
      three_consistent (bitboards_of bytes) bytes
      (all_of 64 (apart (bitboards_of bytes)) apart_made)
      (all_of 64 (united (bitboards_of bytes)) united_made)
      (all_of 64 (agrees (bitboards_of bytes) bytes) (λ k h. agrees_made k h (all_at 64 (λ j. is_byte (get_or bytes j 0)) (true_T e) k h)))

  pub made_length : length (bitboards_of bytes) ≡ 14
  unfolding bitboards_of
  made_length = tabulate_length 14 (λ c. those 64 (λ j. stands_on (get_or bytes j 0) c))

-- ---- no other bitboards are
module _ (bbs bytes : List ℕ) (e : consistent bbs bytes ≡ true) where
  piece_stands : (k board : ℕ) → k < 64 → 2 ≤ board → board < 14 → on bbs board k ≡ stands_on (get_or bytes k 0) board
  piece_stands k board h l u =
      let p : T (is_piece board) = code_is board l (omega arith) in
      board_by_byte bbs bytes e k h board p ∙ code_stands (get_or bytes k 0) board p

  colour_stands_too : (k colour : ℕ) → k < 64 → colour < 2 → on bbs colour k ≡ of_colour bbs colour k → on bbs colour k ≡ stands_on (get_or bytes k 0) colour
  colour_stands_too k colour h l q = q ∙ colour_of_holds bbs bytes k (λ board f t. piece_stands k board h f t) colour l

  pub every_board : (k board : ℕ) → k < 64 → board < 14 → on bbs board k ≡ stands_on (get_or bytes k 0) board
  every_board k zero h l = colour_stands_too k 0 h (omega arith) (united_white bbs k (all_at 64 (united bbs) (consistent_united bbs bytes e) k h))
  every_board k (suc zero) h l = colour_stands_too k 1 h (omega arith) (united_black bbs k (all_at 64 (united bbs) (consistent_united bbs bytes e) k h))
  every_board k (suc (suc board)) h l = piece_stands k (suc (suc board)) h (omega arith) l

  pub only_made : length bbs ≡ 14 → ((board : ℕ) → get_or bbs board 0 < 2 ^ 64) → bbs ≡ bitboards_of bytes
  unfolding bitboards_of
  only_made n small =
      ext_get_or 0 bbs (bitboards_of bytes) (n ∙ sym (made_length bytes))
      (λ board h.
      let l : board < 14 = omega arith in
      is_those (get_or bbs board 0) (λ k. stands_on (get_or bytes k 0) board) (small board) (λ k hk. every_board k board hk l)
      ∙ sym (entry 14 (λ c. those 64 (λ j. stands_on (get_or bytes j 0) c)) 0 board l))

-- ---- what `bitboards_of` gives, where every byte is 0 or a piece's code
pub made_fits : (bytes : List ℕ) (r : Boards) → Makes bytes r → r.coded ≡ true → consistent r.bitboards bytes ≡ true
made_fits bytes r p e = ap (λ (b : List ℕ). consistent b bytes) p.0 ∙ made_consistent bytes (sym p.1 ∙ e)
