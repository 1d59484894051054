-- `line_cut::next` meets its contract: the loop's invariant is `Turn`. Assumes nothing.
use mathlib.Core.Path.{◌≡◌, ap, ◌∙◌}
use mathlib.Core.Bool.{false}
use Prim.Native.Nat.{ℕ}
use native.Mathlib.Omega.{arith}
use lib.ListN.{length, drop}
use Rattle.line_cut.specs.Cut.{find_of}
use Rattle.line_cut.specs.declared.Cut.{Cut}
use Rattle.line_cut.proofs.Turn.{holding, turn_push, turn_close, turn_end}
use Rattle.line_cut.proofs.next.Goals as goal

pub returns-then-byte-eq10 : goal.returns-then-byte-eq10
returns-then-byte-eq10 c =
    let a = c.args in
    let l = c.loop-i in
    let r =
    turn_close (find_of (holding a.line.now a.begun.held a.begun.cr) (drop a.from a.chunk.now)) a.from (length a.line.now)
    a.chunk.now l.line l.held l.cr l.i l.invariant.1
    (omega arith) c.if-byte-eq10.true c.bare.result c.bare.ensures c.found.result c.found.ensures in
    record { answer = r.0; kept = r.1 }

pub loop-i-preserved : goal.loop-i-preserved
loop-i-preserved c =
    let e = c in
    let a = e.args in
    let l = e.loop-i in (
      omega arith,
      turn_push (find_of (holding a.line.now a.begun.held a.begun.cr) (drop a.from a.chunk.now)) a.from (length a.line.now)
          a.chunk.now l.line l.held l.cr l.i l.invariant.1
          (omega arith) e.if-byte-eq10.false c.keep_byte.new.line c.one_more-held.result c.keep_byte.ensures
          c.one_more-held.ensures,
    )

pub returns : goal.returns
returns c =
    let a = c.args in
    let l = c.loop-i in
    let ending : ℕ → Cut = λ k. record { at = k; begun = record { held = l.held; cr = l.cr }; ended = false; size = 0 } in
    let there : c.max.result ≡ l.i = omega (arith, c.max.ensures) in
    let r =
    turn_end (find_of (holding a.line.now a.begun.held a.begun.cr) (drop a.from a.chunk.now)) a.from (length a.line.now)
    a.chunk.now l.line l.held l.cr l.i l.invariant.1
    (omega arith) c.found-2.result (c.found-2.ensures ∙ ap ending there) in
    record { answer = r.0; kept = r.1 }
