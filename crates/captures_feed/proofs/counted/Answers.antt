-- `captures_feed::counted` meets its contract. Assumes nothing.
use Prim.Native.Nat.{◌+◌}
use borrow.Author.Tests.{not-false}
use Rattle.text_out.proofs.Added.{adds_or}
use Rattle.captures_close.specs.Answered.{answer_rows, held_answer}
use Rattle.captures_feed.proofs.Turn.{count_line}
use Rattle.captures_feed.proofs.counted.Goals as goal

pub returns : goal.returns
returns c =
    let a = c.args in
    let k = c.close-row in
    let o = c.unwrap_or-wrote in
    let w = a.written in
    count_line a.mode w a.line.now a.ended a.size a.out.now
    c.requires
    (not-false _ c.if-not-ended.false-raw) k.new.out o.result
    (adds_or a.out.now w.wrote (answer_rows (w.loaded + w.refused + 1) (held_answer a.mode a.line.now a.size))
    k.new.out k.result.placed o.result k.ensures.puts o.ensures)
    k.result.loaded k.ensures.loaded c.tally.result c.tally-2.result c.tally.ensures c.tally-2.ensures
