-- `line_spell::spell::put_rights` meets its contract. Assumes nothing.
use Rattle.line_text.proofs.Lengths.{letters_length}
use Rattle.line_spell.proofs.Behind.{letters_put, dash_put}
use Rattle.line_spell.proofs.spell.put_rights.Goals as goal

pub returns-then-end-begin : goal.returns-then-end-begin
returns-then-end-begin c = let put = c.put-begin in
    let args = c.args in
    let pre = c.requires in
    letters_put put.ensures c.put_letters-end.ensures (letters_length args.rights) pre c.if-end-begin.true

pub returns : goal.returns
returns c = let if1 = c.if-end-begin in
    let put-letters = c.put_letters-end in
    let put = c.put-begin in
    let args = c.args in
    let pre = c.requires in
    dash_put put.ensures put-letters.ensures (letters_length args.rights) pre if1.false c.put.ensures
