-- The public function is determined by its promise: two results that it allows are equal. Assumes nothing.
use mathlib.Core.Path.{◌≡◌}
use mathlib.Core.List.{List}
use Prim.Native.Nat.{ℕ}
use Rattle.refusal.proofs.Paper.{one}
use Rattle.score_tally.specs.Promises.{Tallies}
use Rattle.score_tally.specs.declared.Sides.{Sides}

pub inner_tally : (bitboards : List ℕ) (r s : Sides) → Tallies bitboards r → Tallies bitboards s → r ≡ s
inner_tally bitboards r s = one
