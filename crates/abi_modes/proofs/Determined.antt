-- The public function is determined by its promise: two answers that it allows are equal. Assumes nothing.
use mathlib.Core.Path.{◌≡◌}
use Prim.Native.Nat.{ℕ}
use Rattle.refusal.proofs.Paper.{answered_one}
use Rattle.abi_modes.specs.Modes.{NamesMode}
use Rattle.std.specs.Prelude.{Result}
use Rattle.refusal.specs.declared.Refusal.{Refusal}
use Rattle.exchange_start.specs.declared.Mode.{Mode}

-- answers that read the same are one
pub mode_of : (number : ℕ) (r s : Result Mode Refusal) → NamesMode number r → NamesMode number s → r ≡ s
mode_of number r s p q = answered_one p q
