-- `ledger_totals::write_error` meets its contract: piece after piece has room. Assumes nothing.
use native.Mathlib.Omega.{arith}
use Rattle.text_in.specs.Text.{text}
use Rattle.text_out.proofs.Added.{adds_or}
use Rattle.ledger_totals.proofs.Fits.{length_named}
use Rattle.ledger_totals.proofs.Point.{after_room, error_adds}
use Rattle.ledger_totals.proofs.write_error.Goals as goal

pub named-b-requires : goal.named-b-requires
named-b-requires c =
    let a = c.args in
    let r1 = after_room 27 137 c.named-a.ensures (length_named (text "scored ") a.scored)
    (omega (arith, c.requires)) in
    omega (arith, r1)

pub named-c-requires : goal.named-c-requires
named-c-requires c =
    let a = c.args in
    let r1 = after_room 27 137 c.named-a.ensures
    (length_named (text "scored ") a.scored)
    (omega (arith, c.requires)) in
    let r2 = after_room 27 110 c.named-b.ensures (length_named (text " apart ") a.apart) r1 in
    omega (arith, r2)

pub named-d-requires : goal.named-d-requires
named-d-requires c =
    let a = c.args in
    let r1 = after_room 27 137 c.named-a.ensures (length_named (text "scored ") a.scored) (omega (
      arith,
      c.requires,
    )) in
    let r2 = after_room 27 110 c.named-b.ensures
    (length_named (text " apart ") a.apart) r1 in
    let r3 = after_room 29 81 c.named-c.ensures (length_named (text " refused ") a.refused) r2 in
    omega (arith, r3)

pub mean-e-requires : goal.mean-e-requires
mean-e-requires c =
    let a = c.args in
    let r1 = after_room 27 137 c.named-a.ensures (length_named (text "scored ") a.scored)
    (omega (
      arith,
      c.requires,
    )) in
    let r2 = after_room 27 110 c.named-b.ensures (length_named (text " apart ") a.apart) r1 in
    let r3 = after_room 29 81 c.named-c.ensures
    (length_named (text " refused ") a.refused) r2 in
    let r4 = after_room 25 56 c.named-d.ensures (length_named (text " sum ") a.sum) r3 in
    omega (arith, r4)

pub returns : goal.returns
returns c =
    let a = c.args in
    let p = c.put in
    let m = c.mean-e in
    error_adds a.scored a.apart a.refused a.sum
    c.requires
    c.named-a.ensures
    c.named-b.ensures
    c.named-c.ensures c.named-d.ensures m.ensures
    (adds_or m.new.out m.result (text "\n") p.new.out p.result c.unwrap_or.result p.ensures c.unwrap_or.ensures)
