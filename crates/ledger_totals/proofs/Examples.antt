-- Worked example of the definition, by computation: the last row of document 01's collection. Assumes nothing.
use mathlib.Core.Path.{◌≡◌, refl}
use Rattle.text_in.specs.Text.{text}
use Rattle.text_out.specs.Text.{digits_up_to}
use mathlib.Core.List.{[], ◌∷◌}
use Rattle.ledger_totals.specs.Totals.{last_row}
use Rattle.ledger_totals.specs.Error.{places_of, error_row}

totals : last_row 3 2 1 ≡ text "lines 3 loaded 2 refused 1\n"
unfolding last_row digits_up_to
totals = refl

-- a mean with zeros behind the point; none; and one of more than a point, which no collection has
errors : error_row 2 1 1 131662932545 ∷ error_row 0 0 3 0 ∷ error_row 1 0 0 12000000000005 ∷ []
    ≡ text "scored 2 apart 1 refused 1 sum 131662932545 mean 0.065831466272\n" ∷ text "scored 0 apart 0 refused 3 sum 0 mean none\n"
    ∷ text "scored 1 apart 0 refused 0 sum 12000000000005 mean 12.000000000005\n" ∷ []
unfolding error_row places_of digits_up_to
errors = refl
