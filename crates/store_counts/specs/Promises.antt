-- What each function promises, for all inputs (document 02, W-214). Definitions only.
use Rattle.std.specs.Prelude.{◌≡◌, ℕ, ◌<◌, ◌≤◌, cond, ◌&&◌, List, length, ◌==◌}
use Rattle.store_counts.specs.Summary.{summary_more, summary_less}

-- a summary is 770 numbers and a record 34 bytes: where one is not, the summary is left alone
abbrev pub if_sized : List ℕ → List ℕ → List ℕ → List ℕ
if_sized summary bytes moved = cond (length summary == 770 && length bytes == 34) moved summary

-- one record more
abbrev pub CountsRecord : List ℕ → List ℕ → List ℕ → Type 0
CountsRecord summary bytes summary' = summary' ≡ if_sized summary bytes (summary_more summary bytes)

-- one record less
abbrev pub UncountsRecord : List ℕ → List ℕ → List ℕ → Type 0
UncountsRecord summary bytes summary' = summary' ≡ if_sized summary bytes (summary_less summary bytes)

-- ---- private functions
-- a piece's code, and a square
pub record IsCounted (code square : ℕ) : Type 0 where
  pub first : 2 ≤ code
  pub last : code ≤ 13
  pub within : square < 64

-- a summary and a record of their sizes
abbrev pub Sized : List ℕ → List ℕ → Type 0
Sized summary bytes = (length summary ≡ 770) × (length bytes ≡ 34)

-- a record, and a square of it
abbrev pub OnBoard : List ℕ → ℕ → Type 0
OnBoard bytes k = (length bytes ≡ 34) × (k < 64)
