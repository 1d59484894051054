-- Worked examples of the definitions, by computation: a collection of three lines, the second refused and the last with no LF. Assumes nothing.
use mathlib.Core.Path.{◌≡◌, refl}
use mathlib.Core.List.{List, [], ◌∷◌}
use Prim.Native.Nat.{ℕ}
use Rattle.text_in.specs.Text.{text, every, holds, before, after, without, without_last, trim, place_in}
use Rattle.line_ranks.specs.Ranks.{are_ranks, stacked}
use Rattle.line_tail.specs.Words.{nth_word}
use Rattle.line_tail.specs.Tail.{rights_fit, passant_fits, counters_fit_fields, state_said}
use Rattle.line_parse.specs.Line.{Line, fields_say, line_of}
use Rattle.line_cut.specs.Lines.{ends_in_cr, lines_from}
use Rattle.text_out.specs.Text.{digits_up_to}
use Rattle.ledger_row.specs.Row.{refused_row}
use Rattle.ledger_totals.specs.Totals.{last_row}
use Rattle.ledger_whole.specs.Ledger.{loaded_in, refused_in}
use Rattle.sift_whole.specs.Sifted.{made_in, refused_rows_from, made_of_all, rows_of_all}

three : List ℕ
three = text "8/8/8/8/8/8/8/8 b;1/2-1/2\nx\n4k3/8/8/8/8/8/4P3/4K3 w;1-0"

-- what is made of a line here: its half points and its side
halves : List ℕ → List ℕ
unfolding lines_from ends_in_cr made_in line_of fields_say every holds before after without without_last trim place_in are_ranks stacked nth_word rights_fit
    passant_fits counters_fit_fields state_said
halves input = made_of_all (λ (l : Line). l.half ∷ l.state.side ∷ []) input

made : halves three ≡ 1 ∷ 1 ∷ 2 ∷ 0 ∷ []
unfolding three halves
made = refl

row_text : List ℕ → List ℕ
unfolding lines_from ends_in_cr refused_rows_from loaded_in refused_in line_of fields_say every holds before after without without_last trim place_in are_ranks
    stacked nth_word rights_fit passant_fits counters_fit_fields state_said refused_row last_row digits_up_to
row_text input = rows_of_all input

rows : row_text three ≡ text "2 refused 10\nlines 3 loaded 2 refused 1\n"
unfolding three row_text
rows = refl
