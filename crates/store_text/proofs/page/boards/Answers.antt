-- `store_text::page::boards` meets its contract. Assumes nothing.
use Rattle.std.proofs.Common.{arith}
use Rattle.store_text.specs.Page.{board_text}
use Rattle.store_text.proofs.Laid.{laying_none, laying_room, laying_more}
use Rattle.store_text.proofs.Fits.{length_board}
use Rattle.store_text.proofs.page.boards.Goals as goal

pub loop-piece-init : goal.loop-piece-init
loop-piece-init c =
    let a = c.args in
    laying_none 12 (board_text a.form a.summary.now) a.out.now a.at (omega (arith, c.requires.1))

pub board-end-requires : goal.board-end-requires
board-end-requires c =
    let a = c.args in
    let l = c.loop-piece in
    record {
      numbers = c.requires.0;
      one = c.loop-piece-test.true;
      room =
          laying_room 12 17074 (board_text a.form a.summary.now) (length_board a.form a.summary.now) a.out.now a.at l.out
          l.end l.piece l.invariant (omega (arith, c.requires.1, c.loop-piece-test.true));
    }

pub loop-piece-preserved : goal.loop-piece-preserved
loop-piece-preserved c =
    let a = c.args in
    let l = c.loop-piece in
    laying_more 12 17074 (board_text a.form a.summary.now) (length_board a.form a.summary.now) a.out.now a.at l.out l.end
    l.piece l.invariant (omega (arith, c.requires.1, c.loop-piece-test.true)) c.loop-piece-test.true
    c.board-end.new.out c.board-end.result c.board-end.ensures
