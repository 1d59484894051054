-- Each public function is determined by its promise: two results that it allows are equal. Assumes nothing.
use mathlib.Core.Path.{◌≡◌}
use mathlib.Core.List.{List}
use Prim.Native.Nat.{ℕ}
use Rattle.refusal.proofs.Paper.{one, answered_one}
use Rattle.score.specs.declared.Scored.{Scored}
use Rattle.score_errors.specs.Promises.{StartsTotals, AddsLine, AddsWith}
use Rattle.score_errors.specs.declared.Totals.{Totals}
use Rattle.std.specs.Prelude.{Result}
use Rattle.refusal.specs.declared.Refusal.{Refusal}

pub start : (r s : Totals) → StartsTotals r → StartsTotals s → r ≡ s
start r s = one

pub add : (totals : Totals) (side : ℕ) (answer : Result Scored Refusal) (half : ℕ) (r s : Result Totals Refusal) → AddsLine totals side answer half r
    → AddsLine totals side answer half s → r ≡ s
add totals side answer half r s p q = answered_one p q

pub add_with : (t : List ℕ) (totals : Totals) (side : ℕ) (answer : Result Scored Refusal) (half : ℕ) (r s : Result Totals Refusal) → AddsWith t totals side answer half r
    → AddsWith t totals side answer half s → r ≡ s
add_with t totals side answer half r s p q = answered_one p q
