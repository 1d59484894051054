-- What `add_list` answers and promises, for all inputs: a line of W-211 from W-208's list is the flat form's. Definitions only.
use Rattle.std.specs.Prelude.{◌≡◌, List, ℕ, eqb, pos, length, Float, Result}
use Rattle.refusal.specs.Answer.{Answer, given, or_refuse, answered}
use Rattle.refusal.specs.declared.Refusal.TheVariants as R
use Rattle.trace_counts.specs.Ranges.{in_ranges}
use Rattle.trace_counts.specs.declared.Trace.{Trace}
use Rattle.trace_list.specs.Form.{is_list, list_places, flat_of}
use Rattle.fit_gradient.specs.Gradient.{line_added}
use Rattle.fit_gradient.specs.Marks.{marked_by}
use Rattle.fit_gradient.specs.Promises.{added_by_value, gradient_after}
use Rattle.fit_gradient.specs.declared.Parts.{Parts}
use Rattle.refusal.specs.declared.Refusal.{Refusal}

-- one entry of a list: no promise reaches this
abbrev pub mark_one : Parts → List Float → ℕ → List Float
mark_one p g k = marked_by p g k (pos 1)

-- SHAPE "for gradient .. not 779 long", TRACE for what stands beside the entries, "21 ENTRY, after TRACE"
abbrev pub list_added_of : Trace → ℕ → List ℕ → Float → List Float → Answer (List Float)
list_added_of t used bytes c g =
    or_refuse (eqb (length g) 779) R.Shape
    (or_refuse (in_ranges t) R.Trace (or_refuse (is_list used bytes) R.Entry (given (line_added t (flat_of (list_places bytes used)) c g))))

pub record AddsList (t : Trace) (used : ℕ) (bytes : List ℕ) (c : Float) (before : List Float) (r : Result Unit Refusal) (after : List Float) : Type 0 where
  pub answer : answered r ≡ added_by_value (list_added_of t used bytes c before)
  pub lent : after ≡ gradient_after (list_added_of t used bytes c before) before
