-- The row of a piece has at most 32 bytes. Assumes nothing.
use mathlib.Core.Path.{◌≡◌, sym}
use mathlib.Core.List.{List}
use Prim.Native.Nat.{ℕ, ◌≤◌, ◌<◌}
use native.Mathlib.Omega.{arith}
use lib.Dec.{eqb, ltb}
use lib.ListN.{length}
use Rattle.laws.specs.Tests.{all_below}
use Rattle.refusal.specs.Answer.{refused}
use Rattle.refusal.specs.declared.Refusal.TheVariants as R
use Rattle.refusal.proofs.Answers.{given_not}
use Rattle.position_odds.specs.Named.{lowest_wrong}
use Rattle.ledger_row.specs.Row.{row_of}
use Rattle.ledger_row.proofs.Lengths.{test_small, answer_32}
use Rattle.store_record.specs.Record.{board_in, side_in, half_in, is_code, record_says, piece_says}
use Rattle.store_same.proofs.Trips.{halves_back}

piece_small : (piece : List ℕ) (n : ℕ) (v : List ℕ) → refused n v ≡ piece_says piece → n < 100
unfolding piece_says record_says
piece_small piece n v =
    test_small (eqb (length piece) 34) R.Length n v _
    (test_small (all_below 64 (is_code (board_in piece))) (R.Code (lowest_wrong (is_code (board_in piece)))) n v _
    (test_small (ltb (side_in piece) 2) R.Side n v _ (test_small (ltb (half_in piece) 3) R.Result n v _ (λ e. given_not (sym e)))))

pub piece_32 : (number : ℕ) (piece : List ℕ) → length (row_of number (piece_says piece)) ≤ 32
piece_32 number piece =
    answer_32 number (piece_says piece) (piece_small piece) (λ l e. let s = halves_back piece l (sym e) in omega (arith, s.half, s.half_3))
