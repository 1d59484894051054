-- `line_held::long` meets its contract. Assumes nothing.
use mathlib.Core.Path.{refl}
use Rattle.line_held.proofs.Said.{bare_boards}
use Rattle.line_held.proofs.long.Goals as goal

pub returns : goal.returns
returns c = record { answer = refl; boards = bare_boards; bytes = refl }
