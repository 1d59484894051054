-- Worked example of the definitions, by computation: the row of totals in a buffer with room for it, and in one with a byte too little. Assumes nothing.
use mathlib.Core.Path.{◌≡◌, refl}
use mathlib.Core.List.{List, [], ◌∷◌}
use Prim.Native.Nat.{ℕ}
use Rattle.laws.specs.Tables.{tabulate}
use Rattle.refusal.specs.Answer.{given}
use Rattle.text_out.specs.Text.{digits_up_to}
use Rattle.ledger_totals.specs.Error.{places_of, error_row}
use Rattle.score_row.specs.Rows.{row_place}

-- the row of document 01's collection with a line more has 64 bytes
zeros : ℕ → List ℕ
unfolding tabulate
zeros n = tabulate n (λ (k : ℕ). 0)

places : row_place (zeros 64) (given (record { scored = 2; apart = 1; sum = 131662932545 }, 1))
    ∷ row_place (zeros 63) (given (record { scored = 2; apart = 1; sum = 131662932545 }, 1)) ∷ []
    ≡ given (64 ∷ []) ∷ given [] ∷ []
unfolding zeros error_row places_of digits_up_to
places = refl
