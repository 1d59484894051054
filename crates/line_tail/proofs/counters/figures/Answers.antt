-- `counters::figures` meets its contract. Assumes nothing.
use mathlib.Core.Path.{ap}
use Prim.Native.Nat.{ℕ, ◌+◌, ◌*◌}
use native.Mathlib.Omega.{arith}
use borrow.Author.Rules.{rules}
use Rattle.line_tail.proofs.Laws.{read_stop, read_more, read_end, low_figure, high_figure}
use Rattle.line_tail.proofs.counters.figures.Goals as goal

pub returns-then-b-lt48 : goal.returns-then-b-lt48
returns-then-b-lt48 c =
    let l = c.loop-b in
    read_stop c.args.s.now l.n l.b-index l.invariant (search rules) (low_figure _ c.if-b-lt48.true)

pub returns-then-b-gt57 : goal.returns-then-b-gt57
returns-then-b-gt57 c =
    let l = c.loop-b in
    read_stop c.args.s.now l.n l.b-index l.invariant (search rules)
    (high_figure _ c.if-b-lt48.false c.if-b-gt57.true)

pub loop-b-preserved : goal.loop-b-preserved
loop-b-preserved c =
    let l = c.loop-b in
    read_more c.args.s.now l.n l.b-index l.invariant (search rules)
    c.if-b-lt48.false c.if-b-gt57.false _ (ap (λ (d : ℕ). 10 * l.n + d) c.wide.ensures)

pub returns : goal.returns
returns c =
    let l = c.loop-b in
    read_end c.args.s.now l.n l.b-index l.invariant (omega arith)
