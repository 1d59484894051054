-- `ledger_join::take_byte` meets its contract. Assumes nothing.
use native.Mathlib.Omega.{arith}
use Rattle.ledger_join.proofs.Bytes.{byte_stopped, byte_ended, byte_long, byte_held_holds}
use Rattle.ledger_join.proofs.take_byte.Goals as goal

pub returns-then-s : goal.returns-then-s
returns-then-s c = let a = c.args in byte_stopped a.s a.row.now a.out.now a.byte a.at
    c.if-s.true (omega (arith, c.requires.0.room)) c.stay.result c.stay.ensures

pub returns-then-s-2 : goal.returns-then-s-2
returns-then-s-2 c = let a = c.args in
    byte_ended a.s a.row.now a.out.now a.byte a.at c.if-s.false c.if-s-2.true
    (omega (arith, c.requires.0.room)) c.halted.result c.halted.ensures
    c.stay-then-s-2.result c.stay-then-s-2.ensures

pub returns-then-s-ge-ROW : goal.returns-then-s-ge-ROW
returns-then-s-ge-ROW c = let a = c.args in
    byte_long a.s a.row.now a.out.now a.byte a.at c.if-s.false
    c.if-s-2.false (omega (arith, c.if-s-ge-ROW.true))
    (omega (arith, c.requires.0.room)) c.halted-then-s-ge-ROW.result
    c.halted-then-s-ge-ROW.ensures c.stay-then-s-ge-ROW.result c.stay-then-s-ge-ROW.ensures

pub returns : goal.returns
returns c = let a = c.args in let k =
    c.byte_held in byte_held_holds a.s a.row.now a.out.now a.byte a.at
    c.if-s.false
    c.if-s-2.false
    (omega (arith, c.if-s-ge-ROW.false)) k.result k.new.row k.new.out k.ensures
