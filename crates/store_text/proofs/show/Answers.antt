-- `store_text::show` meets its contract. Assumes nothing.
use Rattle.store_text.proofs.Doors.{row_shown, page_shown}
use Rattle.store_text.proofs.show.Goals as goal

pub returns-then-first-ne0 : goal.returns-then-first-ne0
returns-then-first-ne0 c =
    let a = c.args in
    row_shown a.form a.first a.summary.now a.out.now c.if-summary-ne-SUMMARY.false
    c.if-out-lt-ROOM.false c.if-first-ne0.true
    c.write_row.result c.write_row.new.out c.write_row.ensures

pub returns : goal.returns
returns c =
    let a = c.args in
    page_shown a.form a.first a.summary.now a.out.now c.if-summary-ne-SUMMARY.false
    c.if-out-lt-ROOM.false c.if-first-ne0.false
    c.page.result c.page.new.out c.page.ensures
