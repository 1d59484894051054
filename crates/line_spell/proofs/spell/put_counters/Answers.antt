-- `line_spell::spell::put_counters` meets its contract. Assumes nothing.
use native.Mathlib.Omega.{arith}
use Rattle.text_out.proofs.Added.{adds_then}
use Rattle.line_text.proofs.Lengths.{counter_length}
use Rattle.line_spell.proofs.Behind.{room_behind}
use Rattle.line_spell.proofs.spell.put_counters.Goals as goal

pub put_counter-requires : goal.put_counter-requires
put_counter-requires c =
    let a = c.args in
    room_behind c.put_counter-second.ensures 5 (omega
    (arith, c.requires, counter_length a.halfmoves, counter_length a.moves))

pub returns : goal.returns
returns c =
    let a = c.args in
    adds_then c.put_counter-second.ensures c.put_counter.ensures
    (omega (arith, c.requires, counter_length a.halfmoves, counter_length a.moves))
