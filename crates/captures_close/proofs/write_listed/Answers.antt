-- `captures_close::write_listed` meets its contract: the captures' rows, and then the stopping point's. Assumes nothing.
use mathlib.Core.Path.{subst, ◌∙◌}
use lib.IntN.{ℤ}
use lib.ListN.{take}
use mir.Syntax.{w32}
use mir.Facts.{to_z-of_z}
use borrow.Author.Rules.{sfits_of}
use Rattle.text_out.specs.Text.{Puts}
use Rattle.text_out.proofs.Added.{adds_or}
use Rattle.exchange_value.specs.Settled.{settled}
use Rattle.exchange_value.specs.Answers.{stopped}
use Rattle.captures_row.specs.Rows.{stop_row}
use Rattle.captures_close.proofs.Columns.{then_stop}
use Rattle.captures_close.proofs.write_listed.Goals as goal

pub returns : goal.returns
returns c =
    let pre = c.requires in
    let a = c.args in
    let w = c.write_captures-end in
    let z = c.settle in
    let s = c.stop in
    let worth = to_z-of_z {w = w32} {z = z.result} (sfits_of z.type_inv) ∙ z.ensures in
    let put = subst (λ (v : ℤ). Puts w.new.out s.new.out w.result (stop_row a.line (stopped a.stop) v) s.result) worth
    s.ensures in
    then_stop a.line a.listed a.stop a.out.now w.new.out s.new.out w.result c.unwrap_or.result pre.0 pre.1.most
    w.ensures (adds_or w.new.out w.result (stop_row a.line (stopped a.stop) (settled (take a.listed.count a.listed.taken)))
    s.new.out s.result c.unwrap_or.result put c.unwrap_or.ensures)
