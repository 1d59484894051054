-- Worked examples of the definitions, by computation: files with a final LF, with none, with a CR, and with nothing in them. Assumes nothing.
use mathlib.Core.Path.{◌≡◌, refl}
use mathlib.Core.List.{List, [], ◌∷◌}
use Prim.Native.Nat.{ℕ}
use Rattle.text_in.specs.Text.{text}
use Rattle.line_cut.specs.Lines.{ends_in_cr, lines_from}
use Rattle.ledger_files.specs.Files.{unfinished_from, fed_of, lines_of_all}

four : List (List ℕ)
four = text "a\nb" ∷ (text "c\r" ∷ ([] ∷ (text "d\n" ∷ [])))

fed : fed_of four ≡ text "a\nb\nc\r\r\nd\n"
unfolding four fed_of unfinished_from ends_in_cr
fed = refl

lines : lines_of_all four ≡ text "a" ∷ (text "b" ∷ (text "c\r" ∷ (text "d" ∷ [])))
unfolding four lines_of_all lines_from ends_in_cr
lines = refl
