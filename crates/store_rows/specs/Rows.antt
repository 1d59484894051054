-- The ledger's rows for a store (document 02, W-205): "A program prints the ledger's rows for a store on standard input, a short last piece as a
-- refused row, 18." Definitions only.
use Rattle.std.specs.Prelude.{List, ℕ}
use Rattle.refusal.specs.Answer.{Answer}
use Rattle.line_parse.specs.Line.{Line}
use Rattle.line_cut.specs.Lines.{fold_lines}
use Rattle.ledger_feed.specs.Machine.{Kept, no_rows, with_totals, row_more}
use Rattle.store_record.specs.Record.{piece_says}
use Rattle.store_cut.specs.Pieces.{pieces_of}

-- a ledger by what each piece says, one after another: its row, numbered from 1, and one more loaded or refused
unfoldable pub ledger_by : (List ℕ → Answer Line) → List (List ℕ) → List ℕ
ledger_by says pieces = with_totals (fold_lines (λ (k : Kept) (piece : List ℕ). row_more k (says piece)) no_rows pieces)

-- THE ROWS OF A STORE
abbrev pub store_ledger_of : List ℕ → List ℕ
store_ledger_of input = ledger_by piece_says (pieces_of input)
