-- The double of a trace from its list, by document 02, W-208: "the double from the list is the same bits as from the flat form, or both are
-- NaN": what is promised is the flat form's double. Definitions only.
use Rattle.std.specs.Prelude.{◌≡◌, List, ℕ, eqb, pos, length, Float, Result}
use Rattle.refusal.specs.Answer.{Answer, given, or_refuse, answered}
use Rattle.refusal.specs.declared.Refusal.TheVariants as R
use Rattle.trace_counts.specs.Ranges.{in_ranges}
use Rattle.trace_counts.specs.declared.Weights.{Weights}
use Rattle.trace_counts.specs.declared.Trace.{Trace}
use Rattle.trace_double.specs.Double.{entry_added, double}
use Rattle.trace_list.specs.Form.{is_list, list_places, flat_of}
use Rattle.refusal.specs.declared.Refusal.{Refusal}

-- one entry of the list, weighed
abbrev pub weighed : List Float → Float → Float → ℕ → Float
weighed squares x score k = entry_added squares x score k (pos 1)

-- SHAPE if "not .. 768 weights", then TRACE for what stands beside the entries, then "21 ENTRY, after TRACE"
abbrev pub list_double_of : Trace → ℕ → List ℕ → Weights → List Float → Answer Float
list_double_of t used bytes w squares =
    or_refuse (eqb (length squares) 768) R.Shape
    (or_refuse (in_ranges t) R.Trace (or_refuse (is_list used bytes) R.Entry (given (double t (flat_of (list_places bytes used)) w squares))))

abbrev pub DoublesList : Trace → ℕ → List ℕ → Weights → List Float → Result Float Refusal → Type 0
DoublesList t used bytes w squares r = answered r ≡ list_double_of t used bytes w squares
