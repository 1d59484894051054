-- `trace_double::entry_added` meets its contract. Assumes nothing.
use mathlib.Core.Path.{◌≡◌, ap₂, ◌∙◌}
use mathlib.Core.List.{List}
use Prim.Native.Nat.{ℕ, ◌+◌, ◌*◌, ◌/◌, ◌%◌}
use mathlib.Core.Bool.{Bool}
use borrow.Author.Tests.{eq-eqb, ne_eqb}
use lib.IntN.{ℤ, pos}
use lib.ListN.{get_or}
use lib.Ieee.{Float, nan}
use lib.Signed.{lt_z}
use mir.Syntax.{w32}
use mir.Val.{SFits}
use mir.ValLaws.{to_z-of_z}
use Rattle.laws.proofs.Words.{held}
use native.Mathlib.Omega.{arith}
use Rattle.places.specs.Places.{weight_place, kind_at, square_at}
use Rattle.trace_double.specs.Double.{weight_at, between, entry_added}
use Rattle.trace_double.proofs.entry_added.Goals as goal

-- the two weights stand where 01 says
places : (squares : List Float) (x r : Float) (k : ℕ) → r ≡ between (get_or squares (k / 128 * 128 + k % 128 / 2) nan)
    (get_or squares (k / 128 * 128 + k % 128 / 2 + 64) nan) x
    → r ≡ between (weight_at squares 0 k) (weight_at squares 1 k) x
places squares x r k e =
    let opening : k / 128 * 128 + k % 128 / 2 ≡ weight_place (kind_at k) 0 (square_at k) = omega arith in
    let ending : k / 128 * 128 + k % 128 / 2 + 64 ≡ weight_place (kind_at k) 1 (square_at k) = omega arith in
    e ∙ ap₂ (λ (i j : ℕ). between (get_or squares i nan) (get_or squares j nan) x) opening ending

-- a test of what the machine reads back from the entry's bits is a test of the entry
test : {z : ℤ} {t : Bool} → SFits w32 z → lt_z (pos 0) (held w32 z) ≡ t → lt_z (pos 0) z ≡ t
test {z} f e = rw (to_z-of_z w32 z f) at e

pub returns-then-k-eq0 : goal.returns-then-k-eq0
unfolding entry_added
returns-then-k-eq0 c =
    let v = places c.args.squares.now c.args.x c.interpolated.result c.args.k c.interpolated.ensures in
    simp (test c.ranges.entry c.if-entry-gt0.true, eq-eqb _ _ c.if-k-eq0.true, v, to_z-of_z w32 c.args.entry c.ranges.entry)

pub returns-else-k-eq0 : goal.returns-else-k-eq0
unfolding entry_added
returns-else-k-eq0 c =
    let v = places c.args.squares.now c.args.x c.interpolated.result c.args.k c.interpolated.ensures in
    simp (test c.ranges.entry c.if-entry-gt0.true, ne_eqb _ _ c.if-k-eq0.false, v, to_z-of_z w32 c.args.entry c.ranges.entry)

pub returns-else-entry-gt0 : goal.returns-else-entry-gt0
unfolding entry_added
returns-else-entry-gt0 c = simp (test c.ranges.entry c.if-entry-gt0.false)
