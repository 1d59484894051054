-- Worked examples of the definitions, by computation: document 01's collection, the ends of lines. Assumes nothing.
use mathlib.Core.Path.{◌≡◌, refl}
use mathlib.Core.List.{List, [], ◌∷◌, map}
use Prim.Native.Nat.{ℕ}
use Prim.Native.String.{String}
use Rattle.laws.specs.Tables.{tabulate}
use Rattle.text_in.specs.Text.{text, every, holds, before, after, without, without_last, trim, place_in}
use Rattle.line_ranks.specs.Ranks.{are_ranks, stacked}
use Rattle.line_tail.specs.Words.{nth_word}
use Rattle.line_tail.specs.Tail.{rights_fit, passant_fits, counters_fit_fields, state_said}
use Rattle.line_parse.specs.Line.{fields_say, line_of}
use Rattle.line_cut.specs.Lines.{ends_in_cr, lines_from, lines_of}
use Rattle.position_boards.specs.Boards.{bitboards_of}
use Rattle.score.specs.Score.{score_of}
use Rattle.text_out.specs.Text.{digits_up_to}
use Rattle.ledger_row.specs.Row.{loaded_row, refused_row}
use Rattle.ledger_totals.specs.Totals.{last_row}
use Rattle.line_profile.specs.declared.Profile.TheVariants as P
use Rattle.ledger_whole.specs.Ledger.{rows_from, loaded_in, refused_in, ledger_of}

-- ---- document 01's collection and its whole output
ledger : List ℕ → List ℕ
unfolding ledger_of lines_from ends_in_cr rows_from loaded_in refused_in line_of fields_say every holds before after without without_last trim place_in are_ranks
    stacked nth_word rights_fit passant_fits counters_fit_fields state_said score_of tabulate bitboards_of loaded_row refused_row last_row digits_up_to
ledger input = ledger_of P.Any input

paper :
    ledger (text "4k3/8/8/8/8/8/4P3/4K3 w - - 0 1;1-0\n8/8/8/8/8/8/8/8 w;1/2-1/2\n4k3/8/8/8/8/8/4P3/4K3 b;1/2\n")
    ≡ text "1 2 117\n2 1 lost\n3 refused 13\nlines 3 loaded 2 refused 1\n"
unfolding ledger
paper = refl

-- "Empty input prints only .."
empty : ledger [] ≡ text "lines 0 loaded 0 refused 0\n"
unfolding ledger
empty = refl

-- ---- the ends of lines: one CR before an LF is dropped, a CR before the end of input is kept, a final LF starts no further line
lines : List String → List (List (List ℕ))
unfolding lines_from ends_in_cr
lines inputs = map (λ s. lines_of (text s)) inputs

ends_of_lines :
    lines ("" ∷ "\n" ∷ "\r\n" ∷ "a\r\r\nb" ∷ "a\rb\nc\r" ∷ "\n\na" ∷ [])
    ≡ [] ∷ ([] ∷ []) ∷ ([] ∷ []) ∷ (text "a\r" ∷ text "b" ∷ []) ∷ (text "a\rb" ∷ text "c\r" ∷ []) ∷ ([] ∷ [] ∷ text "a" ∷ []) ∷ []
unfolding lines
ends_of_lines = refl
