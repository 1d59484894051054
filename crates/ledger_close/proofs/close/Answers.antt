-- `ledger_close::close` meets its contract: the row of what was read and judged is the row of what the line says under the profile. Assumes nothing.
use mathlib.Core.Path.{ap, ◌∙◌}
use Rattle.line_profile.specs.Promises.{judged_read}
use Rattle.line_profile.proofs.Judged.{judged_value}
use Rattle.line_held.specs.Held.{said_of}
use Rattle.position_boards.specs.Boards.{bitboards_of}
use Rattle.line_ranks.specs.Promises.{empty_board}
use Rattle.ledger_close.proofs.Closed.{row_judged}
use Rattle.ledger_close.proofs.close.Goals as goal

pub returns : goal.returns
returns c =
    let a = c.args in
    let said = said_of a.line.now a.size in
    row_judged a.profile a.number said a.out.now c.row.new.out a.at c.under-judged.result c.read-read.result.bitboards
    c.row.result
    (c.under-judged.ensures ∙ ap (judged_read a.profile c.read-read.result.bitboards) c.read-read.ensures.answer
    ∙ judged_value a.profile said c.read-read.result.bitboards (bitboards_of empty_board) c.read-read.ensures.boards)
    c.read-read.ensures.boards c.row.ensures
