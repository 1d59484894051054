-- `ledger_plain_row::tell` meets its contract. Assumes nothing.
use mathlib.Core.Path.{sym, ◌∙◌}
use native.Mathlib.Omega.{arith}
use borrow.Author.Tests.{not-true, not-false}
use Rattle.ledger_plain_row.proofs.Laws.{tell_fits, tell_other, tell_bare, tell_room, tell_none, tell_row}
use Rattle.ledger_plain_row.proofs.tell.Goals as goal

pub returns-then-not-is_own : goal.returns-then-not-is_own
returns-then-not-is_own c = let read = c.read-own in
    let args = c.args in
    c.none.ensures ∙ tell_other args.number args.s.now read.result read.ensures
    (sym c.is_own.ensures ∙ not-true _ c.if-not-is_own.true-raw)

pub slice_bounds-said-count : goal.slice_bounds-said-count
slice_bounds-said-count c = let args = c.args in
    tell_fits args.number args.s.now c.read-own.result c.read-own.ensures

pub slice_bounds-said-start : goal.slice_bounds-said-start
slice_bounds-said-start c = let args = c.args in
    tell_fits args.number args.s.now c.read-own.result c.read-own.ensures

pub returns-then-not-half : goal.returns-then-not-half
returns-then-not-half c = let is-own = c.is_own in
    let read = c.read-own in
    let args = c.args in
    c.none-then-not-half.ensures ∙ tell_bare args.number args.s.now read.result read.ensures
    (sym is-own.ensures ∙ not-false _ c.if-not-is_own.false-raw)
    (sym c.half.ensures ∙ not-true _ c.if-not-half.true-raw)

pub returns-then-shown-eq0 : goal.returns-then-shown-eq0
returns-then-shown-eq0 c = let half = c.half in
    let if1 = c.if-not-is_own in
    let is-own = c.is_own in
    let read = c.read-own in
    let args = c.args in
    c.none-then-shown-eq0.ensures ∙ tell_none args.number args.s.now read.result read.ensures (sym is-own.ensures ∙ not-false _ if1.false-raw)
    (sym half.ensures ∙ not-false _ c.if-not-half.false-raw) c.score-shown.result
    c.score-shown.ensures c.if-shown-eq0.true

pub overflow_add-result-2 : goal.overflow_add-result-2
overflow_add-result-2 c = let if1 = c.if-not-is_own in
    let is-own = c.is_own in
    let read = c.read-own in
    let args = c.args in
    record {
      fits = omega (
        arith,
        tell_room args.number args.s.now read.result read.ensures (sym is-own.ensures ∙ not-false _ if1.false-raw)
            (sym c.half.ensures ∙ not-false _ c.if-not-half.false-raw) c.score-shown.result
            c.score-shown.ensures,
      );
    }

pub returns : goal.returns
returns c = let if1 = c.if-not-is_own in
    let is-own = c.is_own in
    let read = c.read-own in
    let args = c.args in
    tell_row args.number args.s.now read.result read.ensures (sym is-own.ensures ∙ not-false _ if1.false-raw)
    (sym c.half.ensures ∙ not-false _ c.if-not-half.false-raw) c.score-shown.result
    c.score-shown.ensures c.if-shown-eq0.false
