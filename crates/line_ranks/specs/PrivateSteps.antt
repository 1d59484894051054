-- One byte of the ranks as the code reads it, from the left: `rank` ranks are to come below this one, and `file` squares of it are
-- passed; `digit` says that the byte before was a digit of this rank. Definitions only.
use Rattle.std.specs.Prelude.{Bool, cond, ℕ, ◌+◌, eqb, leb, ltb}
use Rattle.text_in.specs.Text.{slash}
use Rattle.line_ranks.specs.Ranks.{piece_of, run_of}
use Rattle.line_ranks.specs.declared.inner.Next.{Next}
use Rattle.line_ranks.specs.declared.inner.Next.TheVariants.{Below, Piece, Empty, Wrong}

abbrev pub step_of : ℕ → ℕ → Bool → ℕ → Next
step_of rank file digit b =
    cond (eqb b slash) (cond (eqb rank 0) Wrong (cond (eqb file 8) Below Wrong))
    (cond (eqb (run_of b) 0)
    (cond (eqb (piece_of b) 0) Wrong (cond (ltb file 8) (Piece (piece_of b)) Wrong))
    (cond digit Wrong (cond (leb (file + run_of b) 8) (Empty (run_of b)) Wrong)))
