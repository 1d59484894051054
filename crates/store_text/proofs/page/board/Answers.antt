-- `store_text::page::board` meets its contract. Assumes nothing.
use Rattle.std.proofs.Common.{ℕ, ap, arith}
use Rattle.ledger_totals.proofs.Point.{after_room}
use Rattle.store_text.specs.Board.{total_of, most_of, laid}
use Rattle.store_text.specs.Page.{board_head, squares_shown, board_end, board_text}
use Rattle.store_text.specs.declared.page.Sums.{Sums}
use Rattle.text_out.proofs.Added.{adds_3}
use Rattle.store_text.proofs.Laid.{by_text, length_laid}
use Rattle.store_text.proofs.Fits.{length_head, length_squares, length_board_end}
use Rattle.store_text.proofs.page.board.Goals as goal

pub squares-b-requires : goal.squares-b-requires
squares-b-requires c =
    let a = c.args in
    let p = after_room 134 16940 c.board_head-a.ensures
    (length_head a.form a.piece c.add_up-sums.result.total)
    c.requires.room in
    record {
      numbers = c.requires.numbers;
      one =
          c.requires.one;
      room = omega (arith, p);
    }

pub board_end-requires : goal.board_end-requires
board_end-requires c =
    let a = c.args in
    let p = after_room 134 16940 c.board_head-a.ensures
    (length_head a.form a.piece c.add_up-sums.result.total)
    c.requires.room in
    let f = squares_shown a.form a.summary.now a.piece
    c.add_up-sums.result.most in
    after_room 16640 300 c.squares-b.ensures
    (length_laid 64 260 f (length_squares a.form a.summary.now a.piece
    c.add_up-sums.result.most)) p

pub returns : goal.returns
unfolding board_text
returns c =
    let a = c.args in
    let s = a.summary.now in
    let e = c.add_up-sums.ensures in
    let t = ap (λ (x : Sums). x.total) e in
    let m = ap (λ (x : Sums). x.most) e in
    let f = squares_shown a.form s a.piece (most_of s a.piece) in
    adds_3 (by_text (ap (board_head a.form a.piece) t)
    c.board_head-a.ensures)
    (by_text (ap (λ (k : ℕ). laid 64 (squares_shown a.form s a.piece k)) m)
    c.squares-b.ensures) (by_text (ap (board_end a.form) m) c.board_end.ensures)
    (omega (
      arith,
      length_head a.form a.piece (total_of s a.piece),
      length_laid 64 260 f (length_squares a.form s a.piece (most_of s a.piece)),
      length_board_end a.form (most_of s a.piece),
      c.requires.room,
    ))
