-- The public function is determined by its promise: two answers that it allows are equal. Assumes nothing.
use mathlib.Core.Path.{◌≡◌}
use mathlib.Core.List.{List}
use Prim.Native.Nat.{ℕ}
use Rattle.refusal.proofs.Paper.{one}
use Rattle.ledger_asked.specs.Called.{AsksFor}
use Rattle.std.specs.Prelude.{Option}
use Rattle.line_profile.specs.declared.Profile.{Profile}

pub read_call : (first second : List ℕ) (r s : Option (Profile × ℕ)) → AsksFor first second r → AsksFor first second s → r ≡ s
read_call first second r s p q = one p q
