-- The gradient of a collection, by document 02, W-211: "The gradient is summed in line order". Definitions only.
use Rattle.std.specs.Prelude.{◌≡◌, true, ◌&&◌, List, [], ◌∷◌, ℤ, length, Float}
use Rattle.trace_counts.specs.Ranges.{in_ranges, are_entries}
use Rattle.trace_counts.specs.declared.Trace.{Trace}
use Rattle.fit_gradient.specs.Gradient.{line_added}
use Rattle.fit_gradient.specs.Promises.{added_of, gradient_after}

-- a line's trace, its entries, and the coefficient that the caller supplies
pub record FitLine : Type 0 where
  pub trace : Trace
  pub entries : List ℤ
  pub coefficient : Float

-- lines that are not refused
pub record Good (l : FitLine) : Type 0 where
  pub shaped : length l.entries ≡ 768
  pub traced : (in_ranges l.trace && are_entries l.entries) ≡ true

pub data AllGood : List FitLine → Type 0 where
  none : AllGood []
  more : {l : FitLine} {ls : List FitLine} → Good l → AllGood ls → AllGood (l ∷ ls)

-- what calls of `add` leave, one for each line, in order
unfoldable pub gradient_fed : List Float → List FitLine → List Float
gradient_fed g [] = g
gradient_fed g (l ∷ ls) = gradient_fed (gradient_after (added_of l.trace l.entries l.coefficient g) g) ls

-- the sum in line order
unfoldable pub gradient_summed : List Float → List FitLine → List Float
unfolding line_added
gradient_summed g [] = g
gradient_summed g (l ∷ ls) = gradient_summed (line_added l.trace l.entries l.coefficient g) ls
