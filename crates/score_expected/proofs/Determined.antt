-- Each public function is determined by its promise: two results that it allows are equal. Assumes nothing.
use mathlib.Core.Path.{◌≡◌}
use mathlib.Core.List.{List}
use Prim.Native.Nat.{ℕ}
use lib.IntN.{ℤ}
use Rattle.refusal.proofs.Paper.{one}
use Rattle.score_expected.specs.Promises.{Expects, MakesExpected, PlacesScore, ReadsExpected}

pub expected : (score : ℤ) (r s : ℕ) → Expects score r → Expects score s → r ≡ s
expected score r s = one

pub table : (r s : List ℕ) → MakesExpected r → MakesExpected s → r ≡ s
table r s = one

pub place : (score : ℤ) (r s : ℕ) → PlacesScore score r → PlacesScore score s → r ≡ s
place score r s = one

pub entry : (t : List ℕ) (score : ℤ) (r s : ℕ) → ReadsExpected t score r → ReadsExpected t score s → r ≡ s
entry t score r s = one
