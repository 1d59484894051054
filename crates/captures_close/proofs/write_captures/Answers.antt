-- `captures_close::write_captures` meets its contract: after i turns the rows of the first i captures are written. Assumes nothing.
use native.Mathlib.Omega.{arith}
use lib.ListN.{get_or}
use Rattle.text_out.proofs.Added.{adds_or}
use Rattle.captures_row.specs.Rows.{capture_row}
use Rattle.captures_close.proofs.Columns.{none_yet, one_row}
use Rattle.captures_close.proofs.write_captures.Goals as goal

pub loop-i-init : goal.loop-i-init
loop-i-init c =
    let a = c.args in
    none_yet a.line a.from.now a.kind.now a.taken.now a.out.now a.n

pub loop-i-preserved : goal.loop-i-preserved
loop-i-preserved c = let pre = c.requires in
    let a = c.args in
    let l = c.loop-i in
    let p = c.capture in
    one_row a.line a.from.now a.kind.now a.taken.now a.out.now l.out a.n l.i l.at pre.most pre.room l.invariant
    (omega arith) p.new.out c.unwrap_or-at.result (adds_or l.out l.at
    (capture_row a.line (get_or a.from.now l.i 0) (get_or a.kind.now l.i 0) (get_or a.taken.now l.i 0)) p.new.out
    p.result c.unwrap_or-at.result p.ensures c.unwrap_or-at.ensures)
