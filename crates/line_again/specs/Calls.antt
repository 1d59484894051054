-- The same of the calls, by what they promise and by nothing else. Definitions only.
use Rattle.std.specs.Prelude.{◌≡◌, List, ◌++◌, ℕ, ◌^◌, ◌≤◌, ◌<◌, length, take, drop, get_or, Result, Ok, Some}
use Rattle.position.specs.declared.State.{State}
use Rattle.line.specs.Promises.{ReadsLine}
use Rattle.line_write.specs.Promises.{WritesLine}
use Rattle.line_again.specs.Again.{tidied}
use Rattle.refusal.specs.declared.Refusal.{Refusal}

-- what `write_line` wrote with a result `read_line` reads as the same state, half points, bitboards and board
pub record CallAgain (bitboards board : List ℕ) (state : State) (half : ℕ) (old new : List ℕ) (n : ℕ) : Type 0 where
  pub reads : ((b : ℕ) → get_or bitboards b 0 < 2 ^ 64) → WritesLine bitboards board state (Some half) old new (Ok n)
      → (bbs bytes : List ℕ) (r : Result (State × ℕ) Refusal) (bbs' bytes' : List ℕ) → length bbs ≡ 14 → length bytes ≡ 64 → ReadsLine (take n new) bbs bytes r bbs' bytes'
      → (r ≡ Ok (state, half)) × (bbs' ≡ bitboards) × (bytes' ≡ board)

-- what `read_line` read of a line so written, `write_line` writes at the front of any buffer that is long enough, byte for byte
pub record CallBack (line : List ℕ) (state : State) (half : ℕ) (bbs bytes bbs' bytes' old new : List ℕ) (r : Result ℕ Refusal) : Type 0 where
  pub writes : line ≡ tidied line → length line ≤ length old → ReadsLine line bbs bytes (Ok (state, half)) bbs' bytes'
      → WritesLine bbs' bytes' state (Some half) old new r
      → (r ≡ Ok (length line)) × (new ≡ line ++ drop (length line) old)
