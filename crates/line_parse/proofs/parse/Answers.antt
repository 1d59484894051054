-- `line_parse::parse` meets its contract. Assumes nothing.
use mathlib.Core.Path.{sym, subst₂, ◌∙◌}
use mathlib.Core.List.{List}
use Prim.Native.Nat.{ℕ, ◌≤◌, ◌<◌}
use native.Mathlib.Omega.{arith}
use borrow.Author.Tests.{not-true, not-false}
use lib.ListN.{length}
use lib.Seq.{length-take-le}
use Rattle.text_in.specs.Text.{semicolon}
use Rattle.text_in.proofs.Parts.{before_found}
use Rattle.line_parse.specs.Line.{fields_say}
use Rattle.line_parse.specs.Promises.{Says}
use Rattle.line_parse.proofs.Words.{field_is, result_is}
use Rattle.line_parse.proofs.Answers.{too_long, bad_byte, no_field, two_fields}
use Rattle.line_parse.proofs.parse.Goals as goal

pub returns-then-line-gt-LINE : goal.returns-then-line-gt-LINE
returns-then-line-gt-LINE c = too_long c.args.line.now c.refused.result c.refused.ensures c.if-line-gt-LINE.true

pub returns-then-not-is_text : goal.returns-then-not-is_text
returns-then-not-is_text c =
    bad_byte c.args.line.now c.if-line-gt-LINE.false c.refused-then-not-is_text.result c.refused-then-not-is_text.ensures
    (sym c.is_text.ensures ∙ not-true _ c.if-not-is_text.true-raw)

pub returns-then-end-line : goal.returns-then-end-line
returns-then-end-line c =
    no_field c.args.line.now c.if-line-gt-LINE.false
    (sym c.is_text.ensures ∙ not-false _ c.if-not-is_text.false-raw) c.find-end.result c.find-end.ensures
    c.refused-then-end-line.result c.refused-then-end-line.ensures c.if-end-line.true

pub overflow_add-rest : goal.overflow_add-rest
overflow_add-rest c =
    let inside : c.find-end.result < length c.args.line.now = let args = c.args in
    let h : c.find-end.result ≤ length args.line.now = before_found semicolon args.line.now c.find-end.ensures in
    let n = c.if-end-line.false in
    omega arith in
    record { fits = omega (arith, inside) }

pub slice_bounds-rest-count : goal.slice_bounds-rest-count
slice_bounds-rest-count c =
    let inside : c.find-end.result < length c.args.line.now = let args = c.args in
    let h : c.find-end.result ≤ length args.line.now = before_found semicolon args.line.now c.find-end.ensures in
    let n = c.if-end-line.false in
    omega arith in
    omega (arith, inside)

pub slice_bounds-rest-start : goal.slice_bounds-rest-start
slice_bounds-rest-start c =
    let inside : c.find-end.result < length c.args.line.now = let args = c.args in
    let h : c.find-end.result ≤ length args.line.now = before_found semicolon args.line.now c.find-end.ensures in
    let n = c.if-end-line.false in
    omega arith in
    omega (arith, inside)

pub slice_bounds-trim-end : goal.slice_bounds-trim-end
slice_bounds-trim-end c =
    let line = c.args.line.now in
    sym (length-take-le c.find-end.result line (before_found semicolon line c.find-end.ensures))

pub slice_bounds-trim-end-2 : goal.slice_bounds-trim-end-2
slice_bounds-trim-end-2 c =
    sym (length-take-le c.find-next.result _ (before_found semicolon _ c.find-next.ensures))

pub returns : goal.returns
returns c =
    let f = c in
    let t = f in
    let line = t.args.line.now in
    two_fields line t.if-line-gt-LINE.false (sym t.is_text.ensures ∙ not-false _ f.if-not-is_text.false-raw) f.find-end.result f.find-end.ensures
    c.read_fields.result c.if-end-line.false
    (subst₂ (λ (x y : List ℕ). Says (fields_say x y) c.read_fields.result)
    (field_is line f.find-end.result f.find-end.ensures c.trim.result.now c.trim.ensures)
    (result_is line f.find-end.result f.find-end.ensures c.find-next.result c.find-next.ensures c.trim-2.result.now c.trim-2.ensures)
    c.read_fields.ensures)
