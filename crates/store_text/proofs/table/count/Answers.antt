-- `store_text::table::count` meets its contract. Assumes nothing.
use Rattle.std.proofs.Common.{◌+◌, ◌≤◌, Bool, cond, length, replicate, sym, ap, ◌∙◌, arith, ne_eqb}
use Rattle.text_in.specs.Text.{text}
use Rattle.text_out.specs.Text.{decimal_of}
use Rattle.text_out.proofs.Added.{adds_or, adds_front, length_20}
use Rattle.store_text.specs.Table.{in_column}
use Rattle.store_text.proofs.Laid.{by_text}
use Rattle.store_text.proofs.table.count.Goals as goal

pub returns : goal.returns
returns c =
    let a = c.args in
    let short = length_20 a.n in
    let room : 0 + length (decimal_of a.n) ≤ 20 = omega arith in
    let d = adds_or (replicate 20 0) (0) (decimal_of a.n) c.decimal.new.out
    c.decimal.result c.unwrap_or-k.result
    c.decimal.ensures c.unwrap_or-k.ensures in
    by_text (ap (in_column a.width) (adds_front d room) ∙ ap (λ (t : Bool). in_column a.width (cond t (text ".") (decimal_of a.n)))
    (sym (ne_eqb a.n 0 c.if-n-eq0.false))) c.column-2.ensures
