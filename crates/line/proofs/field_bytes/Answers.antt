-- `line::field_bytes` meets its contract. Assumes nothing.
use mathlib.Core.Path.{sym, ◌∙◌}
use lib.Seq.{length-take-le}
use Rattle.text_in.specs.Text.{semicolon}
use Rattle.text_in.proofs.Parts.{before_found}
use Rattle.line_parse.specs.Line.{line_of, position_field}
use Rattle.line.specs.Field.{field_of}
use Rattle.line_parse.proofs.Words.{field_is}
use Rattle.line.proofs.Memory.{kept_field, over_field}
use Rattle.line.proofs.field_bytes.Goals as goal

pub returns-in-Err : goal.returns-in-Err
unfolding field_of
returns-in-Err c =
    let line = c.args.line.now in
    kept_field (line_of line) c.parse-said.result.answer c.parse-said.ensures.answer _ c.in-Err.is (position_field line)

pub slice_bounds-trim-end : goal.slice_bounds-trim-end
slice_bounds-trim-end c =
    let line = c.args.line.now in
    sym (length-take-le c.find-end.result line (before_found semicolon line c.find-end.ensures))

pub returns : goal.returns
unfolding field_of
returns c =
    let line = c.args.line.now in
    field_is line c.find-end.result c.find-end.ensures c.trim.result.now c.trim.ensures
    ∙ over_field (line_of line) c.parse-said.result.answer c.parse-said.ensures.answer _ _ c.in_default.is (position_field line)
