-- Each public function is determined by its promise: two results and memories that it allows are equal, two NaNs being one. Assumes nothing.
use mathlib.Core.Path.{◌≡◌}
use mathlib.Core.List.{List}
use Prim.Native.Nat.{ℕ}
use lib.IntN.{ℤ}
use lib.Ieee.{Float}
use Rattle.refusal.proofs.Paper.{one, answered_same}
use Rattle.trace_counts.specs.declared.Trace.{Trace}
use Rattle.fit_gradient.specs.Promises.{AddsTrace}
use Rattle.fit_gradient.specs.Lists.{AddsList}
use Rattle.std.specs.Prelude.{Result}
use Rattle.refusal.specs.declared.Refusal.{Refusal}

pub add : (t : Trace) (entries : List ℤ) (c : Float) (before : List Float) (r s : Result Unit Refusal) (after last : List Float) → AddsTrace t entries c before r after
    → AddsTrace t entries c before s last → (r ≡ s) × (after ≡ last)
add t entries c before r s after last p q = (answered_same r s (one p.answer q.answer), one p.lent q.lent)

pub add_list : (t : Trace) (used : ℕ) (bytes : List ℕ) (c : Float) (before : List Float) (r s : Result Unit Refusal) (after last : List Float)
    → AddsList t used bytes c before r after
    → AddsList t used bytes c before s last → (r ≡ s) × (after ≡ last)
add_list t used bytes c before r s after last p q = (answered_same r s (one p.answer q.answer), one p.lent q.lent)
