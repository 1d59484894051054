-- `captures_row::inner::write_capture` meets its contract. Assumes nothing.
use native.Mathlib.Omega.{arith}
use Rattle.text_in.specs.Text.{text}
use Rattle.text_out.proofs.Added.{adds_4}
use Rattle.ledger_row.proofs.Fits.{length_spaced}
use Rattle.captures_row.specs.Rows.{capture_row}
use Rattle.captures_row.proofs.Fits.{left, length_kind, length_after}
use Rattle.captures_row.proofs.inner.write_capture.Goals as goal

pub followed-requires : goal.followed-requires
followed-requires c =
    let a = c.args in
    left c.kind_word-c.ensures 7 21 28 (length_kind a.kind) (omega arith)
    (left c.square-b.ensures 3 28 31 (omega arith) (omega arith)
    (left c.followed-a.ensures 21 31 52
    (length_spaced a.line) (omega arith)
    (omega (arith, c.requires))))

pub returns : goal.returns
unfolding capture_row
returns c =
    let a = c.args in
    adds_4 c.followed-a.ensures c.square-b.ensures
    c.kind_word-c.ensures c.followed.ensures
    (omega (
      arith,
      length_spaced a.line,
      length_kind a.kind,
      length_after a.taken (text "\n"),
      c.requires,
    ))
