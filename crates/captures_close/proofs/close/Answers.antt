-- `captures_close::close` meets its contract: LONG or a refusal of the line, or what the exchange tells. Assumes nothing.
use Rattle.captures_close.proofs.Held.{filled, line_told}
use Rattle.captures_close.proofs.close.Goals as goal

pub put_told-requires : goal.put_told-requires
put_told-requires c =
    let a = c.args in
    let r = c.read-read.result in
    let q = c.read-asked.result in
    let g = c.in-Ok in
    let t = c.captures-told in
    filled a.mode q.order r.bitboards r.board g.state q.from q.to t.result t.ensures

pub returns-in-Ok : goal.returns-in-Ok
returns-in-Ok c =
    let a = c.args in
    let r = c.read-read in
    let g = c.in-Ok in
    let q = c.read-asked in
    let t = c.captures-told in
    let p = c.put_told in
    line_told a.mode a.line.now a.size r.result r.ensures g.state g.field-0-1 g.is q.result q.ensures t.result
    t.ensures a.out.now p.new.out a.at a.number p.result p.ensures
