-- The public function is determined by its promise: two answers that it allows are equal. Assumes nothing.
use mathlib.Core.Path.{◌≡◌}
use mathlib.Core.List.{List}
use Prim.Native.Nat.{ℕ}
use Rattle.refusal.proofs.Paper.{one}
use Rattle.captures_asked.specs.Called.{AsksMode}
use Rattle.std.specs.Prelude.{Option}
use Rattle.exchange_start.specs.declared.Mode.{Mode}

pub read_call : (count : ℕ) (option : List ℕ) (r s : Option Mode) → AsksMode count option r → AsksMode count option s → r ≡ s
read_call count option r s p q = one p q
