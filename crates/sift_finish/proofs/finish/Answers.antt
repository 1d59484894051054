-- `sift_finish::finish` meets its contract. Assumes nothing.
use mathlib.Core.Path.{sym, ap, subst, ◌∙◌}
use Prim.Native.Nat.{ℕ, ◌+◌, ◌/◌, ◌^◌, ◌≤◌}
use lib.Dec.{ltb}
use lib.ListN.{length}
use borrow.Author.Tests.{not-false}
use Rattle.sift_form.specs.Forms.{room_of}
use Rattle.sift_finish.proofs.Doors.{finish_rows}
use Rattle.sift_finish.proofs.finish.Goals as goal

pub returns : goal.returns
returns c = let unfinished = c.unfinished-lines in
    let a = c.args in
    let e = unfinished.ensures in
    let m = c.room.ensures in
    let t = c.last in
    finish_rows a.state a.form a.line.now a.made.now a.rows.now
    c.if-line-ne-LINE.false
    (ap (λ (k : ℕ). ltb (a.state.loaded + a.state.refused + k) (2 ^ 64)) (sym unfinished.ensures) ∙ sym
    c.countable.ensures ∙ not-false _
    c.if-not-countable.false-raw)
    (subst (λ (n : ℕ). n ≤ length a.made.now / room_of a.form) e
    (subst (λ (n : ℕ). unfinished.result ≤ length a.made.now / n) m
    c.if-made-room.false))
    c.if-rows-lt-ROWS.false t.result t.new.made t.new.rows t.ensures
