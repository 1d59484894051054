-- Each public function is determined by its promise: two results that it allows are equal. Assumes nothing.
use mathlib.Core.Path.{◌≡◌}
use mathlib.Core.Bool.{Bool}
use mathlib.Core.List.{List}
use lib.IntN.{ℤ}
use Rattle.refusal.proofs.Paper.{one}
use Rattle.trace_counts.specs.Promises.{TestsTrace, TestsEntries}
use Rattle.trace_counts.specs.declared.Trace.{Trace}

pub in_ranges_holds : (t : Trace) (r s : Bool) → TestsTrace t r → TestsTrace t s → r ≡ s
in_ranges_holds t r s p q = one p q

pub are_entries_holds : (entries : List ℤ) (r s : Bool) → TestsEntries entries r → TestsEntries entries s → r ≡ s
are_entries_holds entries r s p q = one p q
