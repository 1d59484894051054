-- What is claimed of the ledger, under which room and length. Definitions only.
use Rattle.std.specs.Prelude.{◌≡◌, Bool, false, cond, List, [], ◌∷◌, ◌++◌, map, ℕ, ◌+◌, ◌-◌, ◌^◌, ◌<◌, eqb, length, take, get_or}
use Rattle.line_profile.specs.Under.{line_under}
use Rattle.line_profile.specs.declared.Profile.{Profile}
use Rattle.ledger_row.specs.Row.{row_of}
use Rattle.line_cut.specs.Lines.{lf, without_cr, at_end, lines_of}
use Rattle.ledger_whole.specs.Ledger.{loaded_in, refused_in, ledger_of, totals_of}
use Rattle.ledger_whole.specs.Calls.{Call, Last, CallsMade, Roomy, all_written, input, fresh}

-- THE LEDGER, under every profile: for every way the input is cut into chunks, whatever the line buffer held, all that is written is the ledger of the whole
-- input; wherever there is room for the rows and the input has fewer than 2^64 lines
pub record Whole (profile : Profile) (line : List ℕ) (calls : List Call) (last : Last) : Type 0 where
  pub ledger : length line ≡ 256 → Roomy calls last → length (lines_of (input calls)) < 2 ^ 64 → CallsMade profile fresh line calls last
      → all_written calls last ≡ ledger_of profile (input calls)

-- the rows of a ledger, one for each line, numbered from 1 in the lines' order
unfoldable pub row_list : Profile → ℕ → List (List ℕ) → List (List ℕ)
row_list profile number [] = []
row_list profile number (l ∷ ls) = row_of number (line_under profile l) ∷ row_list profile (number + 1) ls

unfoldable pub joined : List (List ℕ) → List ℕ
joined [] = []
joined (t ∷ ts) = t ++ joined ts

-- the input cut after each LF: a line with what ends it, of which the first one begins with a text that was read before
unfoldable pub pieces_from : List ℕ → List ℕ → List (List ℕ)
pieces_from begun [] = at_end begun
pieces_from begun (b ∷ s) =
    let next : List (List ℕ) = pieces_from [] s in
    let longer : List (List ℕ) = pieces_from (begun ++ (b ∷ [])) s in
    cond (eqb b lf) ((begun ++ (lf ∷ [])) ∷ next) longer

unfoldable pub ends_in_lf : List ℕ → Bool
ends_in_lf [] = false
ends_in_lf (b ∷ []) = eqb b lf
ends_in_lf (b ∷ (c ∷ s)) = ends_in_lf (c ∷ s)

-- a piece without its LF, and without one CR before that
abbrev pub line_in : List ℕ → List ℕ
line_in piece = cond (ends_in_lf piece) (without_cr (take (length piece - 1) piece)) piece

-- each line appears once, in order: row k is line k's, and there is no other row but the totals
pub record Once (profile : Profile) (text : List ℕ) : Type 0 where
  -- the pieces are the input, and the lines are theirs: no byte is lost, none is read twice
  pub pieces : joined (pieces_from [] text) ≡ text
  pub lines : lines_of text ≡ map line_in (pieces_from [] text)
  pub rows : ledger_of profile text ≡ joined (row_list profile 1 (lines_of text)) ++ totals_of profile (lines_of text)
  pub many : length (row_list profile 1 (lines_of text)) ≡ length (lines_of text)
  pub each : (k : ℕ) → k < length (lines_of text) → get_or (row_list profile 1 (lines_of text)) k [] ≡ row_of (1 + k) (line_under profile (get_or (lines_of text) k []))
  -- loaded + refused = lines
  pub counts : loaded_in profile (lines_of text) + refused_in profile (lines_of text) ≡ length (lines_of text)
