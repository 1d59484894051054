-- `line_spell::spell::line` meets its contract. Assumes nothing.
use native.Mathlib.Omega.{arith}
use Rattle.line_text.proofs.Lengths.{position_length, result_length}
use Rattle.text_out.proofs.Added.{adds_3}
use Rattle.line_spell.proofs.spell.line.Goals as goal

pub returns : goal.returns
returns c =
    let a = c.args in
    adds_3 c.position-end.ensures
    c.put-result.ensures c.put_result.ensures
    (omega (
      arith,
      c.requires,
      position_length a.board.now a.state,
      result_length a.half,
    ))
