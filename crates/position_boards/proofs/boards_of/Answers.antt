-- `position_boards::boards_of` meets its contract: it has the boards below `code`. Assumes nothing.
use mathlib.Core.Path.{ap₂, ◌∙◌}
use mathlib.Core.List.{[], ◌∷◌}
use Prim.Native.Nat.{ℕ}
use native.Mathlib.Numerals.{add-one}
use native.Mathlib.Omega.{arith}
use Rattle.laws.specs.Tables.{tabulate}
use Rattle.position_boards.proofs.Copied.{boards_more, boards_all}
use Rattle.position_boards.proofs.boards_of.Goals as goal

pub loop-code-init : goal.loop-code-init
unfolding tabulate
loop-code-init c = ap₂ (λ (white black : ℕ). white ∷ black ∷ 0 ∷ 0 ∷ 0 ∷ 0 ∷ 0 ∷ 0 ∷ 0 ∷ 0 ∷ 0 ∷ 0 ∷ 0 ∷ 0 ∷ []) c.unite.ensures c.unite-2.ensures

pub loop-code-preserved : goal.loop-code-preserved
loop-code-preserved c =
    let l = c.loop-code in
    rw (l.invariant, add-one) (boards_more c.args.squares.now l.code l.auto.code c.loop-code-test.true)

pub returns : goal.returns
returns c =
    let l = c.loop-code in
    l.invariant ∙ boards_all c.args.squares.now l.code (omega arith)
