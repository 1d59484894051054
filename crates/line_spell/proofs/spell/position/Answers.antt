-- `line_spell::spell::position` meets its contract. Assumes nothing.
use native.Mathlib.Omega.{arith}
use Rattle.text_out.proofs.Added.{adds_then}
use Rattle.line_text.proofs.Lengths.{ranks_length, state_length}
use Rattle.line_spell.proofs.Behind.{room_behind}
use Rattle.line_spell.proofs.spell.position.Goals as goal

pub put_state-requires : goal.put_state-requires
put_state-requires c = let args = c.args in
    let pre = c.requires in
    room_behind c.put_ranks-ranks.ensures 20 (omega (arith, pre, ranks_length 7 args.board.now))

pub returns : goal.returns
returns c =
    let a = c.args in
    adds_then c.put_ranks-ranks.ensures c.put_state.ensures
    (omega (
      arith,
      c.requires,
      ranks_length 7 a.board.now,
      state_length a.state,
    ))
