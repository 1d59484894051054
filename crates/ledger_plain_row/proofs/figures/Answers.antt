-- `ledger_plain_row::figures` meets its contract. Assumes nothing.
use mathlib.Core.Path.{◌≡◌, sym, ap, ◌∙◌}
use Prim.Native.Nat.{ℕ, ◌+◌, ◌*◌}
use native.Mathlib.Omega.{arith}
use lib.ListN.{length, get_or}
use borrow.Author.Tests.{not-true, not-false}
use Rattle.ledger_plain_row.proofs.Laws.{run_fits, run_full, run_stop, run_more, run_end, figure_most}
use Rattle.ledger_plain_row.proofs.figures.Goals as goal

pub returns-then-i-eq-FIGURES : goal.returns-then-i-eq-FIGURES
returns-then-i-eq-FIGURES c = let loop = c.loop-i in
    run_full c.args.s.now loop.n loop.i loop.invariant c.if-i-eq-FIGURES.true

pub returns-then-not-is_figure : goal.returns-then-not-is_figure
returns-then-not-is_figure c = let loop = c.loop-i in
    let args = c.args in
    run_stop args.s.now loop.n loop.i loop.invariant (omega arith) c.if-i-eq-FIGURES.false
    (sym c.is_figure.ensures ∙ not-true _ c.if-not-is_figure.true-raw)

pub overflow_mul-n : goal.overflow_mul-n
overflow_mul-n c = let loop = c.loop-i in
    record {
      fits = omega (arith, run_fits loop.n loop.i loop.invariant.small (omega (arith, loop.invariant.few, c.if-i-eq-FIGURES.false)));
    }

pub overflow_add-n : goal.overflow_add-n
overflow_add-n c = let if1 = c.if-i-eq-FIGURES in
    let loop = c.loop-i in
    let args = c.args in
    record {
      fits = omega (
        arith,
        run_fits loop.n loop.i loop.invariant.small (omega (arith, loop.invariant.few, if1.false)),
        c.digit.ensures,
        figure_most
            (get_or args.s.now loop.i 0) (sym c.is_figure.ensures ∙ not-false _ c.if-not-is_figure.false-raw),
      );
    }

pub loop-i-preserved : goal.loop-i-preserved
loop-i-preserved c = let if1 = c.if-i-eq-FIGURES in
    let loop = c.loop-i in
    let args = c.args in
    run_more args.s.now loop.n loop.i loop.invariant (omega arith) if1.false
    (sym c.is_figure.ensures ∙ not-false _ c.if-not-is_figure.false-raw) _
    (ap (λ (d : ℕ). 10 * loop.n + d) c.digit.ensures)

pub returns : goal.returns
returns c =
    let s = c.args.s.now in
    let l = c.loop-i in
    let whole : length s ≡ l.i = omega arith in
    ap (λ (k : ℕ). record { size = k; value = l.n }) whole ∙ run_end s l.n l.i l.invariant (omega arith)
