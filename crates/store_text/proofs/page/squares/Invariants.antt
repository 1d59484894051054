use Rattle.store_text.specs.Page.{squares_shown}
use Rattle.store_text.proofs.Laid.{Laying}
use Rattle.store_text.proofs.page.squares.Given as goal

abbrev pub invariant-loop-i : goal.invariant-loop-i
invariant-loop-i l = Laying 64 (squares_shown l.form l.summary l.piece l.most) l.initial.out l.at l.out l.end l.i
