-- Each public function is determined by its promise: two results that it allows are equal. Assumes nothing.
use mathlib.Core.Path.{◌≡◌}
use mathlib.Core.List.{List}
use Prim.Native.Nat.{ℕ}
use lib.IntN.{ℤ}
use Rattle.refusal.proofs.Paper.{one}
use Rattle.score_pst.specs.Promises.{MakesTable, PlacesWeight, Weighs}

pub table : (r s : List ℤ) → MakesTable r → MakesTable s → r ≡ s
table r s = one

pub place : (code square phase r s : ℕ) → PlacesWeight code square phase r → PlacesWeight code square phase s → r ≡ s
place code square phase r s = one

pub weight : (pst : List ℤ) (code square phase : ℕ) (r s : ℤ) → Weighs pst code square phase r → Weighs pst code square phase s → r ≡ s
weight pst code square phase r s = one
