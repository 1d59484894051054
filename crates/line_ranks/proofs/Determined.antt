-- The public function is determined by its promise: two results that it allows are equal. Assumes nothing.
use mathlib.Core.Path.{◌≡◌, ap₂}
use mathlib.Core.Bool.{Bool}
use mathlib.Core.List.{List}
use Prim.Native.Nat.{ℕ}
use Rattle.refusal.proofs.Paper.{one}
use Rattle.line_ranks.specs.Promises.{Places}
use Rattle.line_ranks.specs.declared.inner.Placed.{Placed}

abbrev placed : Bool → List ℕ → Placed
placed ok board = record { ok = ok; board = board }

pub place : (s : List ℕ) (r q : Placed) → Places s r → Places s q → r ≡ q
place s r q p o = ap₂ placed (one p.ok o.ok) (one p.board o.board)
