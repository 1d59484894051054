-- `line_ranks::inner::place` meets its contract: `turn` says what each byte leaves true. Assumes nothing.
use native.Mathlib.Omega.{arith}
use Rattle.line_ranks.proofs.Placing.{turn_first, turn, refused, too_few, too_short, complete}
use Rattle.line_ranks.proofs.inner.place.Goals as goal
use Rattle.line_ranks.proofs.inner.place.Goals.{in-Below, in-Piece, in-Empty}

pub loop-b-init : goal.loop-b-init
loop-b-init c = turn_first c.args.s.now

pub loop-b-preserved : goal.loop-b-preserved
loop-b-preserved c =
    let s = c.args.s.now in
    let l = c.loop-b in
    elim c.match-step.branch [
      | in-Below w ↦ rw (w.board-is, w.rank-is, w.file-is, w.digit-is) (turn s l.board l.b-index (omega arith) l.rank l.file l.digit l.invariant c.step.ensures w.in-Below.is).1
      | in-Piece w ↦ rw (w.board-is, w.rank-is, w.file-is, w.digit-is) (turn s l.board l.b-index (omega arith) l.rank l.file l.digit l.invariant c.step.ensures w.in-Piece.is).1
      | in-Empty w ↦ rw (w.board-is, w.rank-is, w.file-is, w.digit-is) (turn s l.board l.b-index (omega arith) l.rank l.file l.digit l.invariant c.step.ensures w.in-Empty.is)
    ]

pub returns-in-Wrong : goal.returns-in-Wrong
returns-in-Wrong c =
    let s = c.args.s.now in
    let l = c.loop-b in
    refused s c.nothing.result c.nothing.ensures
    (turn s l.board l.b-index (omega arith) l.rank l.file l.digit l.invariant c.step.ensures
    c.in-Wrong.is)

pub returns-then-rank-ne0 : goal.returns-then-rank-ne0
returns-then-rank-ne0 c =
    let s = c.args.s.now in
    let l = c.loop-b in
    refused s c.nothing-then-rank-ne0.result c.nothing-then-rank-ne0.ensures (too_few s l.board l.file l.digit l.b-index (omega arith) l.rank l.invariant
    c.if-rank-ne0.true)

pub returns-then-file-lt-FILES : goal.returns-then-file-lt-FILES
returns-then-file-lt-FILES c =
    let s = c.args.s.now in
    let l = c.loop-b in
    refused s c.nothing-then-file-lt-FILES.result c.nothing-then-file-lt-FILES.ensures (too_short s l.board l.file l.digit l.b-index (omega arith) l.rank l.invariant
    c.if-rank-ne0.false c.if-file-lt-FILES.true)

pub returns : goal.returns
returns c =
    let s = c.args.s.now in
    let l = c.loop-b in
    complete s l.board l.file l.digit l.b-index (omega arith) l.rank l.invariant c.if-rank-ne0.false c.if-file-lt-FILES.false
