-- `line_ranks::inner::run` meets its contract. Assumes nothing.
use borrow.Author.Tests.{lt-leb, le-leb}
use Rattle.line_ranks.specs.Ranks.{run_of}
use Rattle.line_ranks.proofs.inner.run.Goals as goal

pub returns-then-b-lt49 : goal.returns-then-b-lt49
unfolding run_of
returns-then-b-lt49 c = simp (lt-leb _ _ c.if-b-lt49.true)

pub returns-then-b-gt56 : goal.returns-then-b-gt56
unfolding run_of
returns-then-b-gt56 c = simp (le-leb _ _ c.if-b-lt49.false, lt-leb _ _ c.if-b-gt56.true)

pub returns : goal.returns
unfolding run_of
returns c = simp (le-leb _ _ c.if-b-lt49.false, le-leb _ _ c.if-b-gt56.false)
