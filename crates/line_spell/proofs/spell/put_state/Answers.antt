-- `line_spell::spell::put_state` meets its contract. Assumes nothing.
use native.Mathlib.Omega.{arith}
use Rattle.text_out.proofs.Added.{adds_4}
use Rattle.line_text.proofs.Lengths.{side_length, rights_length, passant_length, counters_length}
use Rattle.line_spell.proofs.spell.put_state.Goals as goal

pub returns : goal.returns
returns c =
    let s = c.args.state in
    adds_4 c.put_side-rights.ensures
    c.put_rights-square.ensures
    c.put_passant-counters.ensures c.put_counters.ensures
    (omega (
      arith,
      c.requires,
      side_length s.side,
      rights_length s.rights,
      passant_length s.passant,
      counters_length s.halfmoves s.moves,
    ))
