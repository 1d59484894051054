-- Each public function is determined by its promise: two results that it allows are equal. Assumes nothing.
use mathlib.Core.Path.{◌≡◌}
use mathlib.Core.Bool.{Bool}
use mathlib.Core.List.{List}
use Prim.Native.Nat.{ℕ}
use Rattle.refusal.proofs.Paper.{one}
use Rattle.exchange_order.specs.Promises.{EachOnce, GivesOrder}

pub each_once_holds : (kinds : List ℕ) (r s : Bool) → EachOnce kinds r → EachOnce kinds s → r ≡ s
each_once_holds kinds r s = one

pub gives_order : (r s : List ℕ) → GivesOrder r → GivesOrder s → r ≡ s
gives_order r s = one
