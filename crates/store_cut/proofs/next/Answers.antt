-- `store_cut::next` meets its contract: the loop's invariant is `Turn`. Assumes nothing.
use mathlib.Core.Path.{◌≡◌, subst}
use mathlib.Core.Bool.{false}
use Prim.Native.Nat.{ℕ}
use native.Mathlib.Omega.{arith}
use lib.ListN.{length, drop}
use Rattle.store_cut.specs.Cut.{find_piece}
use Rattle.store_cut.specs.Promises.{holding_piece, MakesCut}
use Rattle.store_cut.proofs.Turn.{turn_fill, turn_close, turn_end}
use Rattle.store_cut.proofs.next.Goals as goal

pub returns-then-held-ge-BEFORE_LAST : goal.returns-then-held-ge-BEFORE_LAST
returns-then-held-ge-BEFORE_LAST c =
    let l = c.loop-i in
    let a = c.args in
    let r =
    turn_close (find_piece (holding_piece a.piece.now a.held) (drop a.from a.chunk.now)) a.from (length a.piece.now)
    a.chunk.now l.piece l.held l.i l.invariant.1
    (omega arith) c.keep_byte.new.piece c.keep_byte.ensures (omega arith) c.found.result c.found.ensures in
    record { answer = r.0; kept = r.1 }

pub loop-i-preserved : goal.loop-i-preserved
loop-i-preserved c =
    let l = c.loop-i in
    let a = c.args in (
      omega arith,
      turn_fill (find_piece (holding_piece a.piece.now a.held) (drop a.from a.chunk.now)) a.from (length a.piece.now)
          a.chunk.now l.piece l.held l.i l.invariant.1
          (omega arith) c.keep_byte.new.piece c.keep_byte.ensures (omega arith),
    )

pub returns : goal.returns
returns c =
    let l = c.loop-i in
    let a = c.args in
    let there : c.max.result ≡ l.i = omega (arith, c.max.ensures) in
    let r =
    turn_end (find_piece (holding_piece a.piece.now a.held) (drop a.from a.chunk.now)) a.from (length a.piece.now)
    a.chunk.now l.piece l.held l.i l.invariant.1
    (omega arith) c.found-2.result (subst (λ (k : ℕ). MakesCut k l.held false c.found-2.result) there c.found-2.ensures) in
    record { answer = r.0; kept = r.1 }
