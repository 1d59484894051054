-- Each public function is determined by its promise: two answers, and two buffers, that it allows are equal. Assumes nothing.
use mathlib.Core.Path.{◌≡◌}
use mathlib.Core.List.{List}
use Prim.Native.Nat.{ℕ}
use Rattle.text_out.proofs.Determined.{put}
use Rattle.ledger_totals.specs.Totals.{last_row, PutsLast}
use Rattle.ledger_totals.specs.Error.{error_row, PutsError}
use Rattle.std.specs.Prelude.{Option}

pub last : (old new new' : List ℕ) (at lines loaded others : ℕ) (r s : Option ℕ)
    → PutsLast old new at lines loaded others r → PutsLast old new' at lines loaded others s → (r ≡ s) × (new ≡ new')
last old new new' at lines loaded others r s = put old new new' at (last_row lines loaded others) r s

pub error : (old new new' : List ℕ) (at scored apart others sum : ℕ) (r s : Option ℕ)
    → PutsError old new at scored apart others sum r → PutsError old new' at scored apart others sum s → (r ≡ s) × (new ≡ new')
error old new new' at scored apart others sum r s = put old new new' at (error_row scored apart others sum) r s
