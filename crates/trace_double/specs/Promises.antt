-- What `Trace::eval` answers and promises, for all inputs. There is one `nan`, so two doubles that are equal here have the same bits or
-- are both NaN: "A result that isn't NaN equals the Rust's bits; a NaN is a NaN". Definitions only.
use Rattle.std.specs.Prelude.{◌≡◌, ◌&&◌, List, eqb, ℤ, length, Float, Result}
use Rattle.refusal.specs.Answer.{Answer, given, or_refuse, answered}
use Rattle.refusal.specs.declared.Refusal.TheVariants as R
use Rattle.trace_counts.specs.Ranges.{in_ranges, are_entries}
use Rattle.trace_double.specs.Double.{double}
use Rattle.trace_counts.specs.declared.Weights.{Weights}
use Rattle.trace_counts.specs.declared.Trace.{Trace}
use Rattle.refusal.specs.declared.Refusal.{Refusal}

-- "Trace double: 1, 7": SHAPE if "not .. 768 weights or 768 trace entries", then TRACE
abbrev pub double_of : Trace → List ℤ → Weights → List Float → Answer Float
double_of t entries w squares =
    or_refuse (eqb (length entries) 768 && eqb (length squares) 768) R.Shape
    (or_refuse (in_ranges t && are_entries entries) R.Trace (given (double t entries w squares)))

abbrev pub Doubles : Trace → List ℤ → Weights → List Float → Result Float Refusal → Type 0
Doubles t entries w squares r = answered r ≡ double_of t entries w squares
