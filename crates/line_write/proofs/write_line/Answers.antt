-- `line_write::write_line` meets its contract. Assumes nothing.
use Rattle.refusal.proofs.Paper.{error_is}
use Rattle.line_write.proofs.Answers.{unfit, fit}
use Rattle.line_write.proofs.write_line.Goals as goal

pub returns-in_err-check : goal.returns-in_err-check
returns-in_err-check c =
    let a = c.args in
    let k = c.check in
    unfit a.bitboards.now a.board.now a.state k.result k.ensures a.wanted a.out.now _ c.in_err-check.was
    c.from_residual.result (error_is _ _ c.from_residual.ensures)

pub returns : goal.returns
returns c =
    let a = c.args in
    let k = c.check in
    let w = c.write_text in
    fit a.bitboards.now a.board.now a.state k.result k.ensures a.wanted a.out.now w.new.out w.result
    c.in_ok-check.was w.ensures
