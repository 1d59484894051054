use Rattle.line_spell.proofs.Turns.{Turn}
use Rattle.line_spell.proofs.spell.put_squares.Given as goal

abbrev pub invariant-loop-code : goal.invariant-loop-code
invariant-loop-code l = Turn l.squares l.initial.line l.line l.at l.end l.run l.code-index
