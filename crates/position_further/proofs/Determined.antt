-- Each public function is determined by its promise: two results that it allows are equal. Assumes nothing.
use mathlib.Core.Path.{◌≡◌}
use mathlib.Core.Bool.{Bool}
use mathlib.Core.List.{List}
use Prim.Native.Nat.{ℕ}
use Rattle.refusal.proofs.Paper.{one}
use Rattle.position_further.specs.Promises.{AtHome, JustPassed, CountersFit}
use Rattle.position_further.specs.declared.Rights.{Rights}
use Rattle.std.specs.Prelude.{Option}

pub at_home : (board : List ℕ) (rights : Rights) (r s : Bool) → AtHome board rights r → AtHome board rights s → r ≡ s
at_home board rights r s = one

pub just_passed_holds : (board : List ℕ) (side : ℕ) (passant : Option ℕ) (r s : Bool) → JustPassed board side passant r → JustPassed board side passant s → r ≡ s
just_passed_holds board side passant r s = one

pub counters_fit_holds : (halfmoves moves : ℕ) (r s : Bool) → CountersFit halfmoves moves r → CountersFit halfmoves moves s → r ≡ s
counters_fit_holds halfmoves moves r s = one
