-- `inner::just_passed` meets its contract. Assumes nothing.
use mathlib.Core.Path.{◌∙◌}
use borrow.Author.Tests.{not-true, not-false}
use Rattle.position_further.proofs.Laws.{nowhere, not_empty, not_sixth, on_sixth, not_third, on_third}
use Rattle.position_further.proofs.inner.just_passed.Goals as goal

pub returns-in_default : goal.returns-in_default
returns-in_default c =
    let a = c.args in
    nowhere a.board.now a.side a.passant c.in_default.is

pub returns-then-not-stands : goal.returns-then-not-stands
returns-then-not-stands c =
    let s = c in
    let p = s in
    let a = p.args in
    not_empty a.board.now a.side a.passant p.in-Some.square p.in-Some.is s.stands.result s.stands.ensures
    (not-true _ c.if-not-stands.true-raw)

pub returns-then-square-ne-SIXTH : goal.returns-then-square-ne-SIXTH
returns-then-square-ne-SIXTH c =
    let e = c in
    let s = e in
    let p = s in
    let a = p.args in
    not_sixth a.board.now a.side a.passant p.in-Some.square p.in-Some.is s.stands.result s.stands.ensures
    (not-false _ e.if-not-stands.false-raw) c.if-side-eq-WHITE.true c.if-square-ne-SIXTH.true

pub returns-then-side-eq-WHITE : goal.returns-then-side-eq-WHITE
returns-then-side-eq-WHITE c =
    let w = c in
    let s = w in
    let p = s in
    let a = p.args in
    c.stands-then-side-eq-WHITE.ensures
    ∙ on_sixth a.board.now a.side a.passant p.in-Some.square p.in-Some.is s.stands.result s.stands.ensures
    (not-false _ w.if-not-stands.false-raw) w.if-side-eq-WHITE.true c.if-square-ne-SIXTH.false

pub returns-then-square-ne-THIRD : goal.returns-then-square-ne-THIRD
returns-then-square-ne-THIRD c =
    let e = c in
    let s = e in
    let p = s in
    let a = p.args in
    not_third a.board.now a.side a.passant p.in-Some.square p.in-Some.is s.stands.result s.stands.ensures
    (not-false _ e.if-not-stands.false-raw) c.if-side-eq-WHITE.false c.if-square-ne-THIRD.true

pub returns : goal.returns
returns c =
    let w = c in
    let s = w in
    let p = s in
    let a = p.args in
    c.stands-2.ensures
    ∙ on_third a.board.now a.side a.passant p.in-Some.square p.in-Some.is s.stands.result s.stands.ensures
    (not-false _ w.if-not-stands.false-raw) w.if-side-eq-WHITE.false c.if-square-ne-THIRD.false
