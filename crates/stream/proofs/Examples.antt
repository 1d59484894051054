-- Worked examples of the definitions, by computation: what the archive's loader took for the end, and what is. Assumes nothing.
use mathlib.Core.Path.{◌≡◌, refl}
use mathlib.Core.List.{[], ◌∷◌}
use lib.IntN.{pos, negsuc}
use Rattle.stream.specs.Calls.{came_of_read, came_of_write}
use Rattle.stream.specs.declared.Read.TheVariants as R
use Rattle.stream.specs.declared.Write.TheVariants as W

-- 21 bytes of a slow pipe, a full buffer, the end; a directory (EISDIR, 21), a signal (EINTR, 4); no room
reads :
    came_of_read (pos 21) (pos 0) 4096 ∷ came_of_read (pos 4096) (pos 0) 4096 ∷ came_of_read (pos 0) (pos 0) 4096 ∷ came_of_read (negsuc 0) (pos 21) 4096
    ∷ came_of_read (negsuc 0) (pos 4) 4096 ∷ came_of_read (pos 0) (pos 0) 0 ∷ []
    ≡ R.Bytes 21 ∷ R.Bytes 4096 ∷ R.End ∷ R.Failed ∷ R.Again ∷ R.NoRoom ∷ []
reads = refl

-- of 20 bytes with 3 written: 5 more, all, a full disk (ENOSPC, 28), a signal, nothing at all
writes :
    came_of_write (pos 5) (pos 0) 20 3 ∷ came_of_write (pos 17) (pos 0) 20 3 ∷ came_of_write (negsuc 0) (pos 28) 20 3 ∷ came_of_write (negsuc 0) (pos 4) 20 3
    ∷ came_of_write (pos 0) (pos 0) 20 3 ∷ []
    ≡ W.To 8 ∷ W.To 20 ∷ W.Failed ∷ W.To 3 ∷ W.Nothing ∷ []
writes = refl
