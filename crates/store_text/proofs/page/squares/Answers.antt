-- `store_text::page::squares` meets its contract. Assumes nothing.
use Rattle.std.proofs.Common.{ℕ, ap, ◌∙◌, arith}
use Rattle.store_text.specs.Board.{count_on}
use Rattle.store_text.specs.Page.{square_shown, squares_shown}
use Rattle.store_text.proofs.Laid.{by_text, laying_none, laying_room, laying_more}
use Rattle.store_text.proofs.Fits.{length_squares}
use Rattle.store_text.proofs.page.squares.Goals as goal

pub loop-i-init : goal.loop-i-init
loop-i-init c =
    let a = c.args in
    laying_none 64 (squares_shown a.form a.summary.now a.piece a.most) a.out.now a.at (omega (arith, c.requires.room))

pub square-end-requires : goal.square-end-requires
square-end-requires c =
    let a = c.args in
    let l = c.loop-i in
    record {
      within = c.loop-i-test.true;
      room =
          laying_room 64 260 (squares_shown a.form a.summary.now a.piece a.most)
          (length_squares a.form a.summary.now a.piece a.most) a.out.now a.at l.out l.end l.i l.invariant
          (omega (arith, c.requires.room, c.loop-i-test.true));
    }

pub loop-i-preserved : goal.loop-i-preserved
loop-i-preserved c =
    let a = c.args in
    let l = c.loop-i in
    let e = c.count_on-n.ensures ∙ ap (count_on a.summary.now a.piece) c.drawn.ensures in
    laying_more 64 260 (squares_shown a.form a.summary.now a.piece a.most)
    (length_squares a.form a.summary.now a.piece a.most) a.out.now a.at l.out l.end l.i l.invariant
    (omega (arith, c.requires.room, c.loop-i-test.true)) c.loop-i-test.true
    c.square-end.new.out c.square-end.result
    (by_text (ap (λ (n : ℕ). square_shown a.form a.most n l.i) e) c.square-end.ensures)
