-- `line_spell::spell::put_counter` meets its contract. Assumes nothing.
use Rattle.text_out.proofs.Added.{adds_or}
use Rattle.text_out.specs.Text.{decimal_of}
use Rattle.line_spell.proofs.Behind.{counter_put}
use Rattle.line_spell.proofs.spell.put_counter.Goals as goal

pub returns : goal.returns
returns c =
    let a = c.args in
    let p = c.put-begin in
    let d = c.decimal in
    counter_put a.n p.ensures c.if-n-gt-MOST.false
    c.requires
    (adds_or p.new.out p.result (decimal_of a.n) d.new.out d.result c.unwrap_or.result d.ensures c.unwrap_or.ensures)
