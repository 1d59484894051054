-- Each public function is determined by its promise: two results that it allows are equal. Assumes nothing.
use mathlib.Core.Path.{◌≡◌, ap₂}
use mathlib.Core.Bool.{Bool}
use mathlib.Core.List.{List}
use Prim.Native.Nat.{ℕ}
use Rattle.refusal.proofs.Paper.{one}
use Rattle.position_boards.specs.Promises.{TestsBoards, Overlaps, Splits, Makes}
use Rattle.position_boards.specs.declared.Boards.{Boards}

pub sound : (bitboards : List ℕ) (r s : Bool) → TestsBoards bitboards r → TestsBoards bitboards s → r ≡ s
sound bitboards r s p q = one p q

pub overlap : (bitboards : List ℕ) (r s : ℕ) → Overlaps bitboards r → Overlaps bitboards s → r ≡ s
overlap bitboards r s p q = one p q

pub split : (bitboards : List ℕ) (r s : ℕ) → Splits bitboards r → Splits bitboards s → r ≡ s
split bitboards r s p q = one p q

abbrev boards : List ℕ → Bool → Boards
boards b c = record { bitboards = b; coded = c }

pub bitboards_of_holds : (board : List ℕ) (r s : Boards) → Makes board r → Makes board s → r ≡ s
bitboards_of_holds board r s p q = ap₂ boards (one p.0 q.0) (one p.1 q.1)
