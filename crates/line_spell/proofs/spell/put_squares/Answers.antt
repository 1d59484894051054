-- `line_spell::spell::put_squares` meets its contract: `Turn` says what each square leaves true. Assumes nothing.
use mathlib.Core.Path.{refl}
use native.Mathlib.Omega.{arith}
use lib.ListN.{get_or}
use Rattle.line_spell.proofs.Turns.{turn_empty, letter_room, both_room', turn_letter, turn_both, ends, end_room, ends_run}
use Rattle.line_spell.proofs.spell.put_squares.Goals as goal
use Rattle.line_spell.proofs.spell.put_squares.Goals.{then-code-eq0, else-code-eq0+then-run-eq0, else-code-eq0+else-run-eq0}

pub bounds-line-end : goal.bounds-line-end
bounds-line-end c =
    let a = c.args in
    let p = c.requires in
    let l = c.loop-code in
    letter_room a.squares.now p.few a.line.now l.line a.at l.end l.run l.code-index p.rest l.invariant (omega arith)
    (get_or a.squares.now l.code-index 0) refl c.if-code-eq0.false

pub bounds-line-end-else-run-eq0 : goal.bounds-line-end-else-run-eq0
bounds-line-end-else-run-eq0 c =
    let a = c.args in
    let p = c.requires in
    let l = c.loop-code in
    letter_room a.squares.now p.few a.line.now l.line a.at l.end l.run l.code-index p.rest l.invariant (omega arith)
    (get_or a.squares.now l.code-index 0) refl c.if-code-eq0.false

pub bounds-line-end-else-run-eq0-2 : goal.bounds-line-end-else-run-eq0-2
bounds-line-end-else-run-eq0-2 c =
    let a = c.args in
    let p = c.requires in
    let l = c.loop-code in
    both_room' a.squares.now p.few a.line.now l.line a.at l.end l.run l.code-index p.rest l.invariant (omega arith)
    (get_or a.squares.now l.code-index 0) refl c.if-code-eq0.false c.if-run-eq0.false

pub loop-code-preserved : goal.loop-code-preserved
loop-code-preserved c =
    let a = c.args in
    let p = c.requires in
    let l = c.loop-code in
    elim c.if-code-eq0.branch [
      | then-code-eq0 w ↦ rw (w.line-is, w.end-is, w.run-is) (turn_empty a.squares.now p.few a.line.now l.line a.at l.end l.run l.code-index p.rest l.invariant (omega arith)
          (get_or a.squares.now l.code-index 0) refl w.if-code-eq0.true)
      | else-code-eq0+then-run-eq0 w ↦ rw (w.line-is, w.end-is, w.run-is) (turn_letter a.squares.now p.few a.line.now l.line a.at l.end l.run l.code-index p.rest l.invariant (omega arith)
          (get_or a.squares.now l.code-index 0) refl
          w.if-code-eq0.false w.if-run-eq0.true w.letter.result w.letter.ensures)
      | else-code-eq0+else-run-eq0 w ↦ rw (w.line-is, w.end-is, w.run-is) (turn_both a.squares.now p.few a.line.now l.line a.at l.end l.run l.code-index p.rest l.invariant (omega arith)
          (get_or a.squares.now l.code-index 0) refl
          w.if-code-eq0.false w.if-run-eq0.false w.letter-else-run-eq0.result w.letter-else-run-eq0.ensures)
    ]

pub returns-then-run-eq0-2 : goal.returns-then-run-eq0-2
returns-then-run-eq0-2 c =
    let a = c.args in
    let p = c.requires in
    let l = c.loop-code in
    ends a.squares.now p.few a.line.now l.line a.at l.end l.run l.code-index p.rest l.invariant (omega arith) c.if-run-eq0-2.true

pub bounds-line-end-2 : goal.bounds-line-end-2
bounds-line-end-2 c =
    let a = c.args in
    let p = c.requires in
    let l = c.loop-code in
    end_room a.squares.now p.few a.line.now l.line a.at l.end l.run l.code-index p.rest l.invariant (omega arith) c.if-run-eq0-2.false

pub returns : goal.returns
returns c =
    let a = c.args in
    let p = c.requires in
    let l = c.loop-code in
    ends_run a.squares.now p.few a.line.now l.line a.at l.end l.run l.code-index p.rest l.invariant (omega arith) c.if-run-eq0-2.false
