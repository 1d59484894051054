-- `captures_feed::last_rows` meets its contract: the rows of a last question, and the counts. Assumes nothing.
use Prim.Native.Nat.{◌+◌}
use Rattle.text_out.proofs.Added.{adds_or}
use Rattle.captures_row.specs.Rows.{counts_row}
use Rattle.captures_feed.proofs.Turn.{last_adds}
use Rattle.captures_feed.proofs.last_rows.Goals as goal

pub returns : goal.returns
returns c =
    let a = c.args in
    let k = c.counted-all in
    let p = c.counts in
    let w = k.result in
    last_adds a.mode a.state a.line.now a.out.now k.new.out p.new.out w c.unwrap_or.result
    c.requires.0 k.ensures
    (adds_or k.new.out w.wrote (counts_row (w.loaded + w.refused) w.loaded w.refused) p.new.out p.result
    c.unwrap_or.result p.ensures c.unwrap_or.ensures)
