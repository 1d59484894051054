-- The public function is determined by its promise: two answers, and two buffers, that it allows are equal. Assumes nothing.
use mathlib.Core.Path.{◌≡◌}
use mathlib.Core.List.{List}
use Prim.Native.Nat.{ℕ}
use Rattle.ledger_row.specs.Row.{row_of}
use Rattle.ledger_row.specs.declared.Row.{Row}
use Rattle.ledger_row.proofs.Determined.{puts_row}
use Rattle.line_profile.specs.Under.{said_under}
use Rattle.line_profile.specs.declared.Profile.{Profile}
use Rattle.ledger_close.specs.Ended.{Closes}

pub close : (profile : Profile) (old new new' : List ℕ) (at number : ℕ) (line : List ℕ) (size : ℕ) (r s : Row)
    → Closes profile old new at number line size r → Closes profile old new' at number line size s → (r ≡ s) × (new ≡ new')
close profile old new new' at number line size r s = puts_row old new new' at (said_under profile line size) (row_of number (said_under profile line size)) r s
