-- `ledger_totals::places` meets its contract. Assumes nothing.
use Prim.Native.Nat.{◌+◌, ◌/◌, ◌%◌}
use Rattle.text_out.specs.Text.{decimal_of}
use Rattle.text_out.proofs.Added.{adds_or}
use Rattle.ledger_totals.proofs.Point.{places_adds}
use Rattle.ledger_totals.proofs.places.Goals as goal

pub returns : goal.returns
returns c = let or2 = c.unwrap_or-end in
    let unwrap_or = c.unwrap_or-whole in
    let a = c.args in
    let x = c.decimal in
    let y = c.decimal-2 in
    let p = c.put in
    places_adds a.n c.requires (adds_or a.out.now a.at (decimal_of (a.n / 1000000000000)) x.new.out x.result unwrap_or.result x.ensures unwrap_or.ensures)
    (adds_or x.new.out unwrap_or.result (decimal_of (1000000000000 + a.n % 1000000000000)) y.new.out y.result or2.result y.ensures
    or2.ensures) p.result p.ensures
