-- What the function promises, for all inputs, and what its private ones ask for. Definitions only.
use Rattle.std.specs.Prelude.{◌≡◌, ℕ, ◌+◌, ◌<◌, ◌≤◌, Bool, true, false, cond, List, length, ◌==◌, nat_le, nat_lt, Result}
use Rattle.laws.specs.Tests.{same}
use Rattle.refusal.specs.Answer.{Answer, given, refused, or_refuse, answered_by}
use Rattle.refusal.specs.declared.Refusal.{Refusal}
use Rattle.refusal.specs.declared.Refusal.TheVariants as R
use Rattle.text_in.specs.Text.{text}
use Rattle.text_out.specs.Text.{written_of}
use Rattle.ledger_row.specs.Row.{refused_row}
use Rattle.store_gather.specs.declared.First.{First}
use Rattle.store_text.specs.Board.{total_of, most_of}
use Rattle.store_text.specs.Page.{page_of}
use Rattle.store_text.specs.declared.Form.{Form}
use Rattle.store_text.specs.declared.Form.TheVariants as F
use Rattle.store_text.specs.declared.Call.{Call}
use Rattle.store_text.specs.declared.Call.TheVariants as C
use Rattle.store_text.specs.declared.Shown.{Shown}
use Rattle.store_text.specs.declared.Shown.TheVariants as S
use Rattle.store_text.specs.declared.page.Sums.{Sums}

-- no record is refused
abbrev pub is_whole : First → Bool
is_whole first = first.number == 0

-- the text of the summary; where a record is refused, the row of the first, "the line number, `refused` and the refusal's number"
abbrev pub shown_text : Form → First → List ℕ → List ℕ
shown_text form first summary = cond (is_whole first) (page_of form summary) (refused_row first.number first.refusal)

-- SHAPE for a summary that has not 770 numbers, ROOM for a buffer of fewer than 262,144 bytes, which are enough for every summary
abbrev pub show_of : Form → First → List ℕ → List ℕ → Answer (List ℕ)
show_of form first summary out =
    or_refuse (length summary == 770) R.Shape (or_refuse (nat_le 262144 (length out)) R.Room (given (shown_text form first summary)))

-- the answer: whether it is the summary's text, and how many bytes were written
abbrev pub shown_as : Shown → Bool × ℕ
shown_as (S.Page n) = (true, n)
shown_as (S.Row n) = (false, n)

abbrev pub shown_paper : Result Shown Refusal → Answer (Bool × ℕ)
shown_paper = answered_by shown_as

abbrev pub shown_length : Bool → Answer (List ℕ) → Answer (Bool × ℕ)
shown_length page (given t) = given (page, length t)
shown_length page (refused n beside) = refused n beside

-- "It writes at the front of a lent buffer"; of a refusal nothing is written
abbrev pub shown_buffer : Answer (List ℕ) → List ℕ → List ℕ
shown_buffer (given t) old = written_of old 0 t
shown_buffer (refused n beside) old = old

-- how many bytes of the buffer an answer speaks of
abbrev pub shown_count : Answer (Bool × ℕ) → ℕ
shown_count (given p) = p.1
shown_count (refused n beside) = 0

pub record ShowsSummary (form : Form) (first : First) (summary out : List ℕ) (r : Result Shown Refusal) (out' : List ℕ) : Type 0 where
  pub answer : shown_paper r ≡ shown_length (is_whole first) (show_of form first summary out)
  pub text : out' ≡ shown_buffer (show_of form first summary out) out
  -- follows from the others, for who takes the text out
  pub within : shown_count (shown_paper r) ≤ length out

-- ---- what a call of the program asks for
-- one store: on standard input, or in the file that the argument at this place names
abbrev pub store_named : Form → ℕ → ℕ → Call
store_named form file count = cond (nat_lt file count) (cond (count == file + 1) (C.File form file) C.TooMany) (C.Input form)

-- "`--svg`", and then the store; else the store alone. The program's own name is an argument too
abbrev pub call_of : List ℕ → ℕ → Call
call_of first count = cond (same first (text "--svg")) (store_named F.Picture 2 count) (store_named F.Table 1 count)

abbrev pub ReadsCall : List ℕ → ℕ → Call → Type 0
ReadsCall first count r = r ≡ call_of first count

-- ---- private functions
-- a summary and one of the twelve pieces
pub record OnePiece (summary : List ℕ) (piece : ℕ) : Type 0 where
  pub numbers : length summary ≡ 770
  pub one : piece < 12

-- and room for so many bytes from a place on
pub record BoardRoom (n : ℕ) (summary : List ℕ) (piece : ℕ) (out : List ℕ) (at : ℕ) : Type 0 where
  pub numbers : length summary ≡ 770
  pub one : piece < 12
  pub room : at + n ≤ length out

-- a square of a board as it is drawn, and room
pub record SquareRoom (n i : ℕ) (out : List ℕ) (at : ℕ) : Type 0 where
  pub within : i < 64
  pub room : at + n ≤ length out

-- and columns of no more than 20 digits
pub record Columns (n width : ℕ) (out : List ℕ) (at : ℕ) : Type 0 where
  pub narrow : width ≤ 20
  pub room : at + n ≤ length out

abbrev pub AddsUp : List ℕ → ℕ → Sums → Type 0
AddsUp summary piece r = r ≡ record { total = total_of summary piece; most = most_of summary piece }
