-- All rows of small inputs, by computation: what docs/CAPTURES.md shows. Assumes nothing.
use mathlib.Core.Path.{◌≡◌, refl}
use mathlib.Core.List.{List}
use Prim.Native.Nat.{ℕ}
use Prim.Native.String.{String}
use Rattle.laws.specs.Tests.{all_below}
use Rattle.laws.specs.Tables.{tabulate}
use Rattle.bits.specs.Bitboard.{has, those, some, how_many}
use Rattle.position_boards.specs.Boards.{bitboards_of}
use Rattle.position_boards.specs.Sound.{boards_with, of_colour}
use Rattle.position_odds.specs.Odds.{or_odds}
use Rattle.position_further.specs.Rule.{home, at_home, just_passed}
use Rattle.position.specs.Checked.{checked}
use Rattle.text_in.specs.Text.{text, every, holds, before, after, without, without_last, trim, place_in}
use Rattle.text_out.specs.Text.{digits_up_to}
use Rattle.line_ranks.specs.Ranks.{are_ranks, stacked}
use Rattle.line_tail.specs.Words.{nth_word}
use Rattle.line_tail.specs.Tail.{rights_fit, passant_fits, counters_fit_fields, state_said}
use Rattle.line_parse.specs.Line.{fields_say, line_of}
use Rattle.line_cut.specs.Lines.{lines_from, ends_in_cr}
use Rattle.exchange_order.specs.Orders.{each_once}
use Rattle.exchange_start.specs.Capture.{may_capture, uncrowded}
use Rattle.exchange_start.specs.declared.Mode.{Mode}
use Rattle.exchange_start.specs.declared.Mode.TheVariants.{First, Second}
use Rattle.exchange_value.specs.Settled.{settled}
use Rattle.exchange_value.specs.Stop.{stop_of}
use Rattle.exchange.specs.Exchange.{captures_of}
use Rattle.exchange_told.specs.Told.{told_of}
use Rattle.ledger_row.specs.Row.{refused_row}
use Rattle.captures_row.specs.Rows.{capture_row, stop_row, counts_row}
use Rattle.captures_close.specs.Answered.{capture_rows}
use Rattle.captures_whole.specs.Questions.{answers_from, told_in, untold_in, answers_of}

unfoldable rows_in : Mode → String → List ℕ
unfolding answers_of answers_from told_in untold_in counts_row capture_rows capture_row stop_row refused_row digits_up_to lines_from ends_in_cr told_of line_of
    fields_say every holds before after without without_last trim place_in are_ranks stacked nth_word rights_fit passant_fits counters_fit_fields state_said
    tabulate bitboards_of those has some how_many all_below boards_with of_colour or_odds home at_home just_passed checked each_once may_capture uncrowded
    captures_of stop_of settled
rows_in mode s = answers_of mode (text s)

-- in the first mode
unfoldable rows : String → List ℕ
unfolding rows_in
rows = rows_in First

-- rooks e1, e2 against rook e8, e2 takes pawn e5: it stops at once after the first, where S is 0; CR LF
rooks : rows "4r3/8/8/4p3/8/8/4R3/4R3 w;1-0;e2e5\r\n" ≡ text "1 e2 rook 100\n1 e8 rook 487\n1 e1 rook 487\n1 stop 1 worth 100\nlines 1 told 1 refused 0\n"
unfolding rows
rooks = refl

-- the queen by both orders, both played out; the last line has no LF
queen : rows "6k1/1b6/5n2/3p4/4P3/8/8/3Q2K1 w;1-0; d1d5\n6k1/1b6/5n2/3p4/4P3/8/8/3Q2K1 w;1-0;d1d5;pbnrqk"
    ≡ text "1 d1 queen 100\n1 f6 knight 1013\n1 e4 pawn 304\n1 b7 bishop 100\n1 played out worth -709\n2 d1 queen 100\n2 b7 bishop 1013\n2 e4 pawn 292\n2 f6 knight 100\n2 played out worth -721\nlines 2 told 2 refused 0\n"
unfolding rows
queen = refl

-- no result, no move, five letters, nothing on d1, an empty line; and nothing at all
refusals : rows "6k1/8/8/8/8/8/8/6K1 w\n6k1/8/8/8/8/8/8/6K1 w;1-0\n6k1/8/8/8/8/8/8/6K1 w;1-0;d1d5;pnbrq\n6k1/8/8/8/8/8/8/6K1 w;1-0;d1d5;\n\n"
    ≡ text "1 refused 10\n2 refused 4\n3 refused 20\n4 refused 5\n5 refused 10\nlines 5 told 0 refused 5\n"
unfolding rows
refusals = refl

nothing : rows "" ≡ text "lines 0 told 0 refused 0\n"
unfolding rows
nothing = refl

-- ---- in both modes (document 02, W-213): en passant, and a later capture that promotes
abbrev passing : String
passing = "4k3/2p5/8/3pP3/8/8/8/3RK3 w - d6 0 1;1-0;e5d6\n1n1r3k/P7/8/8/8/8/8/1Q2K3 w - - 0 1;1-0;b1b8\n"

second : rows_in Second passing
    ≡ text "1 e5 pawn 100\n1 c7 pawn 100\n1 d1 rook 100\n1 stop 1 worth 100\n2 b1 queen 304\n2 d8 rook 1013\n2 a7 pawn 1400\n2 stop 1 worth 304\nlines 2 told 2 refused 0\n"
unfolding rows_in
second = refl

first : rows passing ≡ text "1 refused 5\n2 b1 queen 304\n2 d8 rook 1013\n2 a7 pawn 487\n2 played out worth -222\nlines 2 told 1 refused 1\n"
unfolding rows
first = refl
