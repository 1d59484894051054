use Prim.Native.Nat.{◌-◌, ◌≤◌}
use Rattle.line_spell.proofs.Joined.{Down}
use Rattle.line_spell.proofs.spell.put_ranks.Given as goal

abbrev pub invariant-loop-rank : goal.invariant-loop-rank
invariant-loop-rank l = (1 ≤ l.rank) × Down l.board l.initial.line l.line l.end (l.rank - 1)
