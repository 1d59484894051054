-- `store_text::page::board_head` meets its contract. Assumes nothing.
use Rattle.std.proofs.Common.{arith}
use Rattle.text_out.proofs.Added.{adds_4, length_20}
use Rattle.store_text.specs.Page.{board_head}
use Rattle.store_text.proofs.Fits.{length_board_begin, length_piece, length_words}
use Rattle.store_text.proofs.page.board_head.Goals as goal

pub returns : goal.returns
unfolding board_head
returns c =
    let a = c.args in
    adds_4 c.board_begin-a.ensures
    c.piece_words-b.ensures
    c.number-c.ensures c.words_end.ensures
    (omega (
      arith,
      length_board_begin a.form a.piece,
      length_piece a.piece,
      length_20 a.total,
      length_words a.form,
      c.requires.1,
    ))
