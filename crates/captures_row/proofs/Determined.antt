-- Each public function is determined by its promise: two results, and two buffers, that it allows are equal. Assumes nothing.
use mathlib.Core.Path.{◌≡◌}
use mathlib.Core.List.{List}
use Prim.Native.Nat.{ℕ}
use lib.IntN.{ℤ}
use Rattle.text_out.proofs.Determined.{put}
use Rattle.exchange_value.specs.Answers.{stopped}
use Rattle.captures_row.specs.Rows.{capture_row, stop_row, counts_row}
use Rattle.captures_row.specs.Promises.{PutsCapture, PutsStop, PutsCounts}
use Rattle.std.specs.Prelude.{Option}

pub inner_capture : (old new new' : List ℕ) (at number from kind taken : ℕ) (r s : Option ℕ)
    → PutsCapture old new at number from kind taken r → PutsCapture old new' at number from kind taken s → (r ≡ s) × (new ≡ new')
inner_capture old new new' at number from kind taken r s = put old new new' at (capture_row number from kind taken) r s

pub inner_stop : (old new new' : List ℕ) (at number : ℕ) (stop : Option ℕ) (worth : ℤ) (r s : Option ℕ)
    → PutsStop old new at number stop worth r → PutsStop old new' at number stop worth s → (r ≡ s) × (new ≡ new')
inner_stop old new new' at number stop worth r s = put old new new' at (stop_row number (stopped stop) worth) r s

pub inner_counts : (old new new' : List ℕ) (at lines told others : ℕ) (r s : Option ℕ)
    → PutsCounts old new at lines told others r → PutsCounts old new' at lines told others s → (r ≡ s) × (new ≡ new')
inner_counts old new new' at lines told others r s = put old new new' at (counts_row lines told others) r s
