-- `line_parse::read_fields` meets its contract. Assumes nothing.
use mathlib.Core.Path.{sym, ap, ◌∙◌}
use borrow.Author.Tests.{not-true, not-false}
use lib.Seq.{length-take-le}
use Rattle.text_in.specs.Text.{space, place_in}
use Rattle.text_in.proofs.Parts.{before_found}
use Rattle.line_parse.specs.Line.{sides}
use Rattle.line_parse.proofs.Words.{rest_is, side_is, placed_ok, placed_board}
use Rattle.line_parse.proofs.Answers.{bad_place, bad_side, bad_rest, good_rest}
use Rattle.line_parse.proofs.read_fields.Goals as goal

pub slice_bounds-place-end : goal.slice_bounds-place-end
slice_bounds-place-end c =
    let field = c.args.field.now in
    sym (length-take-le c.find-end.result field (before_found space field c.find-end.ensures))

pub returns-then-not-placed : goal.returns-then-not-placed
returns-then-not-placed c =
    let a = c.args in
    bad_place a.field.now a.res.now c.refused.result c.refused.ensures
    (placed_ok a.field.now c.find-end.result c.find-end.ensures c.place-placed.result c.place-placed.ensures (not-true _ c.if-not-placed.true))

pub slice_bounds-rest-count : goal.slice_bounds-rest-count
slice_bounds-rest-count c =
    before_found space c.args.field.now c.find-end.ensures

pub slice_bounds-rest-start : goal.slice_bounds-rest-start
slice_bounds-rest-start c =
    before_found space c.args.field.now c.find-end.ensures

pub returns-then-side-ge-NO_SIDE : goal.returns-then-side-ge-NO_SIDE
returns-then-side-ge-NO_SIDE c =
    let a = c.args in
    bad_side a.field.now a.res.now
    (placed_ok a.field.now c.find-end.result c.find-end.ensures c.place-placed.result c.place-placed.ensures (not-false _ c.if-not-placed.false))
    c.side-side.result (c.side-side.ensures ∙ ap (place_in sides) (side_is a.field.now c.find-end.result c.find-end.ensures))
    c.refused-then-side-ge-NO_SIDE.result c.refused-then-side-ge-NO_SIDE.ensures c.if-side-ge-NO_SIDE.true

pub returns-in-Err : goal.returns-in-Err
returns-in-Err c =
    let p = c in
    let f = p in
    let a = f.args in
    bad_rest a.field.now a.res.now
    (placed_ok a.field.now f.find-end.result f.find-end.ensures p.place-placed.result p.place-placed.ensures (not-false _ c.if-not-placed.false))
    c.side-side.result (c.side-side.ensures ∙ ap (place_in sides) (side_is a.field.now f.find-end.result f.find-end.ensures)) c.if-side-ge-NO_SIDE.false
    p.place-placed.result.board
    (placed_board a.field.now f.find-end.result f.find-end.ensures p.place-placed.result p.place-placed.ensures (not-false _ c.if-not-placed.false))
    _ (rest_is a.field.now f.find-end.result f.find-end.ensures) c.read-told.result c.read-told.ensures
    c.in-Err.refusal c.in-Err.is c.refused-in-Err.result c.refused-in-Err.ensures

pub returns-in-Ok : goal.returns-in-Ok
returns-in-Ok c =
    let p = c in
    let f = p in
    let a = f.args in
    good_rest a.field.now a.res.now
    (placed_ok a.field.now f.find-end.result f.find-end.ensures p.place-placed.result p.place-placed.ensures (not-false _ c.if-not-placed.false))
    c.side-side.result (c.side-side.ensures ∙ ap (place_in sides) (side_is a.field.now f.find-end.result f.find-end.ensures)) c.if-side-ge-NO_SIDE.false
    p.place-placed.result.board
    (placed_board a.field.now f.find-end.result f.find-end.ensures p.place-placed.result p.place-placed.ensures (not-false _ c.if-not-placed.false))
    _ (rest_is a.field.now f.find-end.result f.find-end.ensures) c.read-told.result c.read-told.ensures
    c.in-Ok.state c.in-Ok.is c.with_result.result c.with_result.ensures
