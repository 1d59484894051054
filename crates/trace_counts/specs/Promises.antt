-- What each public function promises, for all inputs. Definitions only.
use Rattle.std.specs.Prelude.{◌≡◌, Bool, List, ℤ}
use Rattle.trace_counts.specs.Ranges.{in_ranges, are_entries}
use Rattle.trace_counts.specs.declared.Trace.{Trace}

abbrev pub TestsTrace : Trace → Bool → Type 0
TestsTrace t r = r ≡ in_ranges t

abbrev pub TestsEntries : List ℤ → Bool → Type 0
TestsEntries entries r = r ≡ are_entries entries
