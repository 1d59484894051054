-- What each function answers and promises, for all inputs. Definitions only.
use Rattle.std.specs.Prelude.{◌≡◌, cond, List, eqb, Float, length, Result}
use Rattle.refusal.specs.Answer.{Answer, given, or_refuse, answered}
use Rattle.refusal.specs.declared.Refusal.TheVariants as R
use Rattle.trace_counts.specs.declared.Weights.{Weights}
use Rattle.trace_shipped.specs.Weights.{shipped, shipped_squares}
use Rattle.refusal.specs.declared.Refusal.{Refusal}

abbrev pub Ships : Weights → Type 0
Ships r = r ≡ shipped

-- SHAPE: "not .. 768 weights"
abbrev pub written_answer : List Float → Answer Unit
written_answer squares = or_refuse (eqb (length squares) 768) R.Shape (given tt)

abbrev pub squares_after : List Float → List Float
squares_after squares = cond (eqb (length squares) 768) shipped_squares squares

abbrev pub ShipsSquares : List Float → Result Unit Refusal → List Float → Type 0
ShipsSquares before r after = (answered r ≡ written_answer before) × (after ≡ squares_after before)
