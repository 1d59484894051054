-- `ledger_joined_row::comes_to` meets its contract. Assumes nothing.
use mathlib.Core.Path.{ap, ◌∙◌}
use Prim.Native.Nat.{ℕ, ◌+◌}
use native.Mathlib.Omega.{arith}
use lib.ListN.{drop}
use Rattle.ledger_joined_row.specs.Rows.{comes_to}
use Rattle.ledger_joined_row.proofs.Numbers.{comes_turn, comes_end}
use Rattle.ledger_joined_row.proofs.comes_to.Goals as goal

pub loop-b-preserved : goal.loop-b-preserved
loop-b-preserved c =
    let s = c.args.s.now in
    let l = c.loop-b in
    ap (λ (k : ℕ). comes_to k (drop (l.b-index + 1) s)) c.with_digit-n.ensures ∙ comes_turn s l.n l.b-index (omega arith) l.invariant

pub returns : goal.returns
returns c = let l = c.loop-b in comes_end c.args.s.now l.n l.b-index (omega arith) l.invariant
