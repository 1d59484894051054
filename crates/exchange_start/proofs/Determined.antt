-- Each public function is determined by its promise: two results that it allows are equal. Assumes nothing.
use mathlib.Core.Path.{◌≡◌}
use mathlib.Core.Bool.{Bool}
use mathlib.Core.List.{List}
use Prim.Native.Nat.{ℕ}
use Rattle.refusal.proofs.Paper.{one, answered_same}
use Rattle.position.specs.declared.State.{State}
use Rattle.exchange_start.specs.Promises.{KindOn, TakesPassing, MayCapture, Uncrowded, BeginsExchange}
use Rattle.exchange_start.specs.declared.Mode.{Mode}
use Rattle.std.specs.Prelude.{Result}
use Rattle.refusal.specs.declared.Refusal.{Refusal}

pub kind_on_holds : (board : List ℕ) (square r s : ℕ) → KindOn board square r → KindOn board square s → r ≡ s
kind_on_holds board square r s = one

pub takes_passing_holds : (mode : Mode) (board : List ℕ) (state : State) (from to : ℕ) (r s : Bool)
    → TakesPassing mode board state from to r → TakesPassing mode board state from to s → r ≡ s
takes_passing_holds mode board state from to r s = one

pub may_capture_holds : (mode : Mode) (bitboards board : List ℕ) (state : State) (from to : ℕ) (r s : Bool)
    → MayCapture mode bitboards board state from to r → MayCapture mode bitboards board state from to s → r ≡ s
may_capture_holds mode bitboards board state from to r s = one

pub is_uncrowded : (bitboards : List ℕ) (r s : Bool) → Uncrowded bitboards r → Uncrowded bitboards s → r ≡ s
is_uncrowded bitboards r s = one

pub begins : (mode : Mode) (kinds bitboards board : List ℕ) (state : State) (from to : ℕ) (r s : Result Unit Refusal)
    → BeginsExchange mode kinds bitboards board state from to r → BeginsExchange mode kinds bitboards board state from to s → r ≡ s
begins mode kinds bitboards board state from to r s p q = answered_same r s (one p q)
