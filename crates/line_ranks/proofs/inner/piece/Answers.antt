-- `line_ranks::inner::piece` meets its contract. Assumes nothing.
use native.Mathlib.Omega.{arith}
use Rattle.line_ranks.proofs.Letters.{before_letters, after_letters, past_r, no_piece, a_piece}
use Rattle.line_ranks.proofs.inner.piece.Goals as goal

pub returns-then-b-lt66 : goal.returns-then-b-lt66
returns-then-b-lt66 c = let a = c in before_letters a.args.b a.ranges.b.fits (omega arith)

pub returns-then-b-gt114 : goal.returns-then-b-gt114
returns-then-b-gt114 c = let a = c in after_letters a.args.b a.ranges.b.fits (omega arith) (omega arith)

pub returns-then-letter-gt18 : goal.returns-then-letter-gt18
returns-then-letter-gt18 c = let a = c in past_r a.args.b a.ranges.b.fits (omega arith) (omega arith) (omega arith)

pub returns-then-half-eq0 : goal.returns-then-half-eq0
returns-then-half-eq0 c =
    let a = c in
    no_piece a.args.b a.ranges.b.fits (omega arith) (omega arith) (omega arith) (omega arith)

pub returns : goal.returns
returns c =
    let a = c in
    a_piece a.args.b a.ranges.b.fits (omega arith) (omega arith) (omega arith) (λ e. omega (arith, e))
