-- `captures_feed::finish` meets its contract: the last rows are made, and then put. Assumes nothing.
use mathlib.Core.Path.{sym, ap, ◌∙◌}
use Prim.Native.Nat.{ℕ, ◌+◌, ◌^◌}
use lib.Dec.{ltb}
use lib.ListN.{take}
use borrow.Author.Tests.{not-false}
use Rattle.text_out.proofs.Added.{adds_front}
use Rattle.captures_feed.proofs.Doors.{finish_rows}
use Rattle.captures_feed.proofs.Turn.{finished_2132}
use Rattle.captures_feed.proofs.finish.Goals as goal

pub returns-in-Some : goal.returns-in-Some
returns-in-Some c =
    let a = c.args in
    let w = c.last_rows-end in
    let p = c.put-placed in
    finish_rows a.mode a.state a.line.now a.out.now
    c.if-line-ne-LINE.false
    (ap (λ (k : ℕ). ltb (a.state.loaded + a.state.refused + k) (2 ^ 64))
    (sym c.unfinished.ensures)
    ∙ sym c.countable.ensures
    ∙ not-false _ c.if-not-countable.false-raw)
    (take w.result w.new.out) (adds_front w.ensures (finished_2132 a.mode a.state a.line.now)) p.new.out p.result
    p.ensures
    c.in-Some.wrote c.in-Some.is
