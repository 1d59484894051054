-- Worked examples of the definitions, by computation: the rows of stores. Assumes nothing.
use mathlib.Core.Path.{◌≡◌, refl}
use mathlib.Core.List.{List, [], ◌∷◌, ◌++◌}
use Prim.Native.Nat.{ℕ}
use lib.ListN.{replicate}
use Rattle.laws.specs.Tests.{all_below}
use Rattle.laws.specs.Tables.{tabulate}
use Rattle.text_in.specs.Text.{text}
use Rattle.bits.specs.Bitboard.{first_from}
use Rattle.position_boards.specs.Boards.{bitboards_of}
use Rattle.position_odds.specs.Named.{lowest_wrong}
use Rattle.score.specs.Score.{score_of}
use Rattle.text_out.specs.Text.{digits_up_to}
use Rattle.ledger_row.specs.Row.{loaded_row, refused_row}
use Rattle.ledger_totals.specs.Totals.{last_row}
use Rattle.line_cut.specs.Lines.{fold_lines}
use Rattle.store_record.specs.Record.{board_in, record_says, piece_says}
use Rattle.store_cut.specs.Pieces.{records_from}
use Rattle.store_rows.specs.Rows.{ledger_by, store_ledger_of}

written : List ℕ → List ℕ
unfolding ledger_by fold_lines records_from piece_says record_says board_in tabulate all_below lowest_wrong first_from score_of bitboards_of loaded_row refused_row
    last_row digits_up_to
written store = store_ledger_of store

-- a bare board that White lost, code 15 on a1, and a short last piece, which is a line and refused; an empty store
stores :
    written (replicate 34 0 ++ (15 ∷ (replicate 33 0 ++ replicate 33 0))) ∷ written [] ∷ []
    ≡ text "1 0 lost\n2 refused 19\n3 refused 18\nlines 3 loaded 1 refused 2\n" ∷ text "lines 0 loaded 0 refused 0\n" ∷ []
unfolding written
stores = refl
