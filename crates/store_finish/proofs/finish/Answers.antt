-- `store_finish::finish` meets its contract: the last rows are made, and then put. Assumes nothing.
use mathlib.Core.Path.{sym, ap, ◌∙◌}
use Prim.Native.Nat.{ℕ, ◌+◌, ◌^◌}
use lib.Dec.{ltb}
use lib.ListN.{take}
use borrow.Author.Tests.{not-false}
use Rattle.text_out.proofs.Added.{adds_front}
use Rattle.store_finish.proofs.Doors.{finish_rows, finished_116}
use Rattle.store_finish.proofs.finish.Goals as goal

pub returns-in-Some : goal.returns-in-Some
returns-in-Some c =
    let a = c.args in
    let w = c.last_rows-end in
    let p = c.put-placed in
    finish_rows a.state a.out.now
    c.if-state-ge-RECORD.false
    (ap (λ (k : ℕ). ltb (a.state.loaded + a.state.refused + k) (2 ^ 64))
    (sym c.unfinished.ensures)
    ∙ sym c.countable.ensures
    ∙ not-false _ c.if-not-countable.false-raw)
    (take w.result w.new.out) (adds_front w.ensures (finished_116 a.state)) p.new.out p.result p.ensures
    c.in-Some.wrote c.in-Some.is
