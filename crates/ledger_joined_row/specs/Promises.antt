-- What each function promises, for all inputs. Definitions only.
use Rattle.std.specs.Prelude.{◌≡◌, Bool, true, false, cond, ◌&&◌, ◌||◌, List, [], ◌++◌, ℕ, ◌-◌, leb, length, drop}
use Rattle.laws.specs.Tests.{same}
use Rattle.text_out.specs.Text.{Puts}
use Rattle.ledger_row.specs.Row.{spaced}
use Rattle.ledger_totals.specs.Totals.{last_row}
use Rattle.ledger_whole.specs.Whole.{ends_in_lf}
use Rattle.ledger_joined_row.specs.Rows.{begins_with, behind_number, says_refused, says_loaded, after_number, is_row}
use Rattle.ledger_joined_row.specs.declared.TakenRow.{TakenRow}
use Rattle.ledger_joined_row.specs.declared.Kind.{Kind}
use Rattle.ledger_joined_row.specs.declared.Kind.TheVariants as K

-- what a row is in its place: the row of a line by its number, or the totals of the rows before it, or neither
unfoldable pub row_is_rule : ℕ → ℕ → ℕ → List ℕ → Kind
row_is_rule number loaded others row =
    cond (is_row number row) (cond (says_refused (after_number number row)) K.Refused K.Loaded)
    (cond (same row (last_row (number - 1) loaded others)) K.Totals K.Neither)

-- the row of a line
abbrev pub is_line : Kind → Bool
is_line K.Loaded = true
is_line K.Refused = true
is_line K.Totals = false
is_line K.Neither = false

-- what is written of a row: with its number in the whole where it is the row of a line, else nothing
unfoldable pub text_of : ℕ → ℕ → List ℕ → List ℕ
text_of number whole row = cond (is_row number row) (spaced whole ++ behind_number number row) []

pub record TakesRow (old new : List ℕ) (at number whole loaded others : ℕ) (row : List ℕ) (r : TakenRow) : Type 0 where
  pub kind : r.kind ≡ row_is_rule number loaded others row
  pub text : Puts old new at (text_of number whole row) r.placed

-- ---- private functions
abbrev pub one_of_three : Bool → Bool → Bool → Bool
one_of_three a b c = a || (b || c)

abbrev pub one_of_two : Bool → Bool → Bool
one_of_two a b = a || b

abbrev pub front_of : ℕ → List ℕ → ℕ
front_of number row = cond (begins_with (spaced number) row) (length (spaced number)) 0

-- the row with another number in the place of its own
abbrev pub renumbered : ℕ → ℕ → List ℕ → List ℕ
renumbered whole number row = spaced whole ++ drop (front_of number row) row

abbrev pub rest_kind : List ℕ → Kind
rest_kind rest = cond (says_refused rest) K.Refused (cond (says_loaded rest) K.Loaded K.Neither)

unfoldable pub row_kind : ℕ → List ℕ → Kind
row_kind number row = cond (leb (length row) 32 && (ends_in_lf row && begins_with (spaced number) row)) (rest_kind (after_number number row)) K.Neither

abbrev pub IsTotals : ℕ → ℕ → ℕ → List ℕ → Bool → Type 0
IsTotals lines loaded others row r = r ≡ same row (last_row lines loaded others)
