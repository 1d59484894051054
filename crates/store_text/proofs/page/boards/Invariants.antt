use Rattle.store_text.specs.Page.{board_text}
use Rattle.store_text.proofs.Laid.{Laying}
use Rattle.store_text.proofs.page.boards.Given as goal

abbrev pub invariant-loop-piece : goal.invariant-loop-piece
invariant-loop-piece l = Laying 12 (board_text l.form l.summary) l.initial.out l.at l.out l.end l.piece
