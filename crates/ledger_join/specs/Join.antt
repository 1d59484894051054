-- Ledgers of parts of a collection, joined: what is asked of each text, and what comes of them. Definitions only.
use Rattle.std.specs.Prelude.{Bool, true, false, not, cond, ◌&&◌, List, [], ◌∷◌, ◌++◌, ℕ, ◌+◌}
use Rattle.laws.specs.Tests.{same}
use Rattle.ledger_row.specs.Row.{spaced}
use Rattle.ledger_totals.specs.Totals.{last_row}
use Rattle.ledger_feed.specs.Machine.{tally}
use Rattle.ledger_whole.specs.Whole.{pieces_from}
use Rattle.ledger_joined_row.specs.Rows.{behind_number, after_number, says_refused, is_row}

-- what is no ledger is refused with the part's and the row's number, both from 1
pub data Checked (A : Type 0) : Type 0 where
  no_ledger : ℕ → ℕ → Checked A
  checked : A → Checked A

-- ---- a part: its rows, numbered on from the lines before it, and its counts
pub record JoinedPart : Type 0 where
  pub rows : List ℕ
  pub loaded : ℕ
  pub refused : ℕ

abbrev pub with_row : List ℕ → Checked JoinedPart → Checked JoinedPart
with_row row (no_ledger part number) = no_ledger part number
with_row row (checked p) = checked (record { rows = row ++ p.rows; loaded = p.loaded; refused = p.refused })

abbrev pub is_none : List (List ℕ) → Bool
is_none [] = true
is_none (row ∷ rows) = false

-- the rows of a part, after so many loaded and refused ones; what is no row must be the totals of the rows before it, to the byte, and nothing
-- may follow them
unfoldable pub part_from : ℕ → ℕ → ℕ → ℕ → List (List ℕ) → Checked JoinedPart
part_from part before loaded others [] = no_ledger part (loaded + others + 1)
part_from part before loaded others (row ∷ rows) =
    let number : ℕ = loaded + others + 1 in
    let turned : Bool = says_refused (after_number number row) in
    let onward : Checked JoinedPart = part_from part before (tally loaded (not turned)) (tally others turned) rows in
    let ended : Checked JoinedPart = checked (record { rows = []; loaded = loaded; refused = others }) in
    cond (is_row number row) (with_row (spaced (before + number) ++ behind_number number row) onward)
    (cond (same row (last_row (loaded + others) loaded others) && is_none rows) ended (no_ledger part number))

-- a text cut after each LF
abbrev pub part_in : ℕ → ℕ → List ℕ → Checked JoinedPart
part_in part before t = part_from part before 0 0 (pieces_from [] t)

-- ---- all parts
abbrev pub with_rows : List ℕ → Checked (List ℕ) → Checked (List ℕ)
with_rows rows (no_ledger part number) = no_ledger part number
with_rows rows (checked t) = checked (rows ++ t)

abbrev pub and_then : Checked JoinedPart → (JoinedPart → Checked (List ℕ)) → Checked (List ℕ)
and_then (no_ledger part number) on = no_ledger part number
and_then (checked p) on = with_rows p.rows (on p)

-- after so many loaded and refused lines of the parts before
unfoldable pub join_from : ℕ → ℕ → ℕ → List (List ℕ) → Checked (List ℕ)
join_from part loaded others [] = checked (last_row (loaded + others) loaded others)
join_from part loaded others (t ∷ ts) =
    and_then (part_in part (loaded + others) t) (λ (p : JoinedPart). join_from (part + 1) (loaded + p.loaded) (others + p.refused) ts)

-- THE JOIN: of texts that are each a whole ledger; or the first part and row that are not one's
abbrev pub join_of : List (List ℕ) → Checked (List ℕ)
join_of texts = join_from 1 0 0 texts
