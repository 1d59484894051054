-- The board of eight ranks has 64 bytes, each 0 or a piece's code. Assumes nothing.
use mathlib.Core.Path.{◌≡◌, ◌∙◌}
use mathlib.Core.Bool.{Bool, true, false, cond, ◌&&◌}
use mathlib.Core.List.{List, [], ◌∷◌}
use Prim.Native.Nat.{ℕ, zero, suc, ◌+◌, ◌*◌}
use native.Mathlib.Omega.{arith}
use lib.Dec.{T, eqb, eqb→eq}
use lib.ListN.{length, replicate, length-append}
use Rattle.laws.proofs.Truth.{and_l, and_r, and_i, true_T}
use Rattle.chess.specs.Codes.{is_piece}
use Rattle.text_in.specs.Text.{slash, every, before, after}
use Rattle.text_in.proofs.Every.{every_both, every_run}
use Rattle.line_ranks.specs.Ranks.{piece_of, run_of, is_mark, spelled, is_rank, whole_runs, squares_of, are_ranks, stacked}

-- ---- how many squares
pub rank_eight : (s : List ℕ) → T (is_rank s) → length (squares_of s) ≡ 8
rank_eight s t =
    eqb→eq (length (squares_of s)) 8
    (and_r (whole_runs s) (eqb (length (squares_of s)) 8) (and_r (every is_mark s) (whole_runs s && eqb (length (squares_of s)) 8) t))

pub board_many : (n : ℕ) (s : List ℕ) → T (are_ranks n s) → length (stacked n s) ≡ 8 * n + 8
unfolding are_ranks stacked
board_many zero s t = rank_eight s t
board_many (suc n) s t =
    let top = rank_eight (before slash s) (and_l (is_rank (before slash s)) (are_ranks n (after slash s)) t) in
    let low = board_many n (after slash s) (and_r (is_rank (before slash s)) (are_ranks n (after slash s)) t) in
    length-append (stacked n (after slash s)) (squares_of (before slash s)) ∙ omega arith

pub board_64 : (s : List ℕ) → are_ranks 7 s ≡ true → length (stacked 7 s) ≡ 64
board_64 s e = board_many 7 s (true_T e)

-- ---- what stands on them: a test that 0 and every piece's code pass is passed by each of its bytes
module _ (test : ℕ → Bool) (empty : T (test 0)) (code : (c : ℕ) → T (is_piece c) → T (test c)) where
  either : (t : Bool) (x y : ℕ) → T (test x) → T (test y) → T (test (cond t x y))
  either true x y p q = p
  either false x y p q = q

  piece_passes : (b : ℕ) → T (test (piece_of b))
  unfolding piece_of
  piece_passes b =
      either (eqb b 80) 2 _ (code 2 tt) (either (eqb b 112) 3 _ (code 3 tt) (either (eqb b 78) 4 _ (code 4 tt) (either (eqb b 110) 5 _ (code 5 tt)
      (either (eqb b 66) 8 _ (code 8 tt) (either (eqb b 98) 9 _ (code 9 tt) (either (eqb b 82) 10 _ (code 10 tt) (either (eqb b 114) 11 _ (code 11 tt)
      (either (eqb b 81) 12 _ (code 12 tt) (either (eqb b 113) 13 _ (code 13 tt)
      (either (eqb b 75) 6 _ (code 6 tt) (either (eqb b 107) 7 0 (code 7 tt) empty)))))))))))

  spelled_passes : (b : ℕ) → T (every test (spelled b))
  unfolding every
  spelled_passes b = go (eqb (run_of b) 0)
    where
      go : (t : Bool) → T (every test (cond t (piece_of b ∷ []) (replicate (run_of b) 0)))
      go true = and_i (test (piece_of b)) true (piece_passes b) tt
      go false = every_run test (run_of b) 0 empty

  squares_pass : (s : List ℕ) → T (every test (squares_of s))
  unfolding squares_of every
  squares_pass [] = tt
  squares_pass (b ∷ s) = every_both test (spelled b) (squares_of s) (spelled_passes b) (squares_pass s)

  pub board_passes : (n : ℕ) (s : List ℕ) → T (every test (stacked n s))
  unfolding stacked
  board_passes zero s = squares_pass s
  board_passes (suc n) s = every_both test (stacked n (after slash s)) (squares_of (before slash s)) (board_passes n (after slash s))
      (squares_pass (before slash s))
