-- White's part and Black's side by side: the one that stands at an entry's colour is the one of its colour. Assumes nothing.
use mathlib.Core.Path.{◌≡◌, refl, ap₂, ◌∙◌}
use mathlib.Core.Bool.{cond}
use mathlib.Core.List.{List}
use Prim.Native.Nat.{ℕ, zero, suc, ◌%◌, ◌<◌}
use native.Mathlib.Omega.{arith}
use lib.Dec.{eqb}
use lib.ListN.{get_or}
use lib.Ieee.{Float, nan}
use Rattle.fit_gradient.specs.Marks.{both_raised, colour_part, marked_by}
use Rattle.fit_gradient.specs.Lists.{mark_one}
use Rattle.fit_gradient.specs.declared.Parts.{Parts}

abbrev pub pairs : List Float → List Float → Parts
pairs opening ending = record {
  white_opening = get_or opening 0 nan;
  white_ending = get_or ending 0 nan;
  black_opening = get_or opening 1 nan;
  black_ending = get_or ending 1 nan;
}

at_colour : (l : List Float) (c : ℕ) → c < 2 → get_or l c nan ≡ cond (eqb c 0) (get_or l 0 nan) (get_or l 1 nan)
at_colour l zero h = refl
at_colour l (suc zero) h = refl
at_colour l (suc (suc c)) h = absurd (omega arith)

picked : (l : List Float) (k : ℕ) → get_or l (k % 2) nan ≡ colour_part k (get_or l 0 nan) (get_or l 1 nan)
picked l k = at_colour l (k % 2) (omega arith)

-- one entry, as the code raises it
pub paired : (opening ending g r : List Float) (k : ℕ) → r ≡ both_raised g k (get_or opening (k % 2) nan) (get_or ending (k % 2) nan)
    → r ≡ mark_one (pairs opening ending) g k
unfolding marked_by
paired opening ending g r k e = e ∙ ap₂ (both_raised g k) (picked opening k) (picked ending k)
