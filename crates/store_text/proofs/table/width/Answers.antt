-- `store_text::table::width` meets its contract. Assumes nothing.
use Rattle.std.proofs.Common.{◌+◌, ◌≤◌, length, replicate, ◌∙◌, zero-add, arith}
use Rattle.text_out.specs.Text.{decimal_of}
use Rattle.text_out.proofs.Added.{adds_or, adds_to, length_20}
use Rattle.store_text.proofs.table.width.Goals as goal

pub returns : goal.returns
returns c =
    let a = c.args in
    let short = length_20 a.most in
    let room : 0 + length (decimal_of a.most) ≤ 20 = omega arith in
    adds_to (adds_or (replicate 20 0) (0) (decimal_of a.most) c.decimal.new.out c.decimal.result
    c.unwrap_or.result c.decimal.ensures c.unwrap_or.ensures) room ∙ zero-add (length (decimal_of a.most))
