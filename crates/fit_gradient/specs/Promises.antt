-- What `add` answers and promises, for all inputs. Definitions only.
use Rattle.std.specs.Prelude.{◌≡◌, ◌&&◌, List, eqb, ℤ, length, Float, Result}
use Rattle.refusal.specs.Answer.{Answer, given, refused, or_refuse, answered}
use Rattle.refusal.specs.declared.Refusal.TheVariants as R
use Rattle.trace_counts.specs.Ranges.{in_ranges, are_entries}
use Rattle.trace_counts.specs.declared.Trace.{Trace}
use Rattle.fit_gradient.specs.Gradient.{line_added}
use Rattle.refusal.specs.declared.Refusal.{Refusal}

-- "SHAPE as in 01 and for gradient .. not 779 long, TRACE": the gradient with the line in it
abbrev pub added_of : Trace → List ℤ → Float → List Float → Answer (List Float)
added_of t entries c g =
    or_refuse (eqb (length entries) 768 && eqb (length g) 779) R.Shape
    (or_refuse (in_ranges t && are_entries entries) R.Trace (given (line_added t entries c g)))

abbrev pub added_by_value : Answer (List Float) → Answer Unit
added_by_value (given g) = given tt
added_by_value (refused n l) = refused n l

-- "Every refusal .. changes no lent byte"
abbrev pub gradient_after : Answer (List Float) → List Float → List Float
gradient_after (given g) old = g
gradient_after (refused n l) old = old

pub record AddsTrace (t : Trace) (entries : List ℤ) (c : Float) (before : List Float) (r : Result Unit Refusal) (after : List Float) : Type 0 where
  pub answer : answered r ≡ added_by_value (added_of t entries c before)
  pub lent : after ≡ gradient_after (added_of t entries c before) before
