-- `text_in::inner::is_text` meets its contract. Assumes nothing.
use native.Mathlib.Omega.{arith}
use Rattle.text_in.specs.Text.{is_text}
use Rattle.text_in.proofs.Texts.{every_more, every_end}
use Rattle.text_in.proofs.inner.is_text.Goals as goal

pub loop-b-preserved : goal.loop-b-preserved
loop-b-preserved c =
    let s = c.args.s.now in
    let l = c.loop-b in
    every_more is_text s l.b-index l.all l.invariant (omega arith) c.plain-all.result c.plain-all.ensures

pub returns : goal.returns
returns c =
    let s = c.args.s.now in
    let l = c.loop-b in
    every_end is_text s l.b-index l.all l.invariant (omega arith)
