-- `line_spell::spell::put_letters` meets its contract. Assumes nothing.
use native.Mathlib.Omega.{arith}
use Rattle.text_out.proofs.Added.{adds_4}
use Rattle.line_text.proofs.Lengths.{letter_length}
use Rattle.line_spell.proofs.spell.put_letters.Goals as goal

pub returns : goal.returns
returns c =
    let r = c.args.rights in
    adds_4 c.put_letter-second.ensures
    c.put_letter-third.ensures
    c.put_letter-fourth.ensures c.put_letter.ensures
    (omega (
      arith,
      c.requires,
      letter_length r.white_short 75,
      letter_length r.white_long 81,
      letter_length r.black_short 107,
      letter_length r.black_long 113,
    ))
