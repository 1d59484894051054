-- `trace_counts::all_within` meets its contract. The loop's invariant: `good` says it of the numbers passed. Assumes nothing.
use mathlib.Core.Path.{◌≡◌, refl}
use mathlib.Core.Bool.{Bool, ◌&&◌}
use mathlib.Core.List.{List}
use Prim.Native.Nat.{ℕ, ◌+◌}
use native.Mathlib.Numerals.{add-one}
use lib.IntN.{ℤ, pos}
use lib.ListN.{get_or}
use borrow.Author.Rules.{rules}
use mir.Syntax.{w32}
use mir.Val.{SFits}
use mir.ValLaws.{to_z-of_z}
use Rattle.laws.specs.Tests.{all_below}
use Rattle.laws.proofs.Words.{held}
use Rattle.trace_counts.specs.Ranges.{within}
use Rattle.trace_counts.proofs.all_within.Goals as goal

-- one number more; the bound and the number are what the machine reads back from their bits
more : (bound : ℤ) (zs : List ℤ) (i : ℕ) (good passed : Bool) → SFits w32 (get_or zs i (pos 0))
    → good ≡ all_below i (λ k. within bound (get_or zs k (pos 0)))
    → passed ≡ within bound (held w32 (get_or zs i (pos 0))) → (passed && good) ≡ all_below (i + 1) (λ k. within bound (get_or zs k (pos 0)))
unfolding all_below
more bound zs i good passed f e p = rw (add-one, p, e, to_z-of_z w32 (get_or zs i (pos 0)) f)

pub loop-number-init : goal.loop-number-init
unfolding all_below
loop-number-init c = refl

pub loop-number-preserved : goal.loop-number-preserved
loop-number-preserved c =
    let l = c.loop-number in
    let f : SFits w32 (get_or c.args.numbers.now l.number-index (pos 0)) = search rules in
    more (held w32 c.args.most) c.args.numbers.now l.number-index l.good c.is_within-good.result f l.invariant c.is_within-good.ensures
