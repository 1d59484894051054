-- `counters::counter` meets its contract. Assumes nothing.
use native.Mathlib.Omega.{arith}
use Rattle.line_tail.proofs.Laws.{counter_none, counter_long, counter_one, counter_zero, counter_first}
use Rattle.line_tail.proofs.counters.counter.Goals as goal

pub returns-then-s-eq0 : goal.returns-then-s-eq0
returns-then-s-eq0 c = counter_none c.args.s.now c.if-s-eq0.true

pub returns-then-s-gt-FIGURES : goal.returns-then-s-gt-FIGURES
returns-then-s-gt-FIGURES c = counter_long c.args.s.now c.if-s-eq0.false c.if-s-gt-FIGURES.true

pub returns-then-s-eq1 : goal.returns-then-s-eq1
returns-then-s-eq1 c = let args = c.args in
    counter_one args.s.now c.if-s-eq0.false c.if-s-gt-FIGURES.false (omega (arith, c.if-s-eq1.true))
    c.figures.result c.figures.ensures

pub returns-then-s-eq48 : goal.returns-then-s-eq48
returns-then-s-eq48 c = let args = c.args in
    counter_zero args.s.now c.if-s-eq0.false c.if-s-gt-FIGURES.false (omega arith) c.if-s-eq48.true

pub returns : goal.returns
returns c = let if1 = c.if-s-eq0 in
    let args = c.args in
    counter_first args.s.now if1.false c.if-s-gt-FIGURES.false (omega arith) c.if-s-eq48.false
    c.figures-2.result c.figures-2.ensures
