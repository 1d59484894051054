-- Worked examples of the definitions, by computation: no record, a short piece, an empty board with a wrong result, and the 10,000,001st. Assumes nothing.
use mathlib.Core.Path.{◌≡◌, refl}
use mathlib.Core.List.{[], ◌∷◌}
use lib.ListN.{replicate}
use Rattle.store_record.specs.Record.{piece_says}
use Rattle.store_cut.specs.Pieces.{records_from, pieces_of}
use Rattle.store_gathered.specs.Gathered.{first_refused}

none : first_refused 1 (pieces_of []) ≡ record { number = 0; refusal = 0 }
unfolding first_refused records_from
none = refl

short : first_refused 1 (pieces_of (replicate 33 0)) ≡ record { number = 1; refusal = 18 }
unfolding first_refused records_from piece_says
short = refl

many : first_refused 10000001 (replicate 34 0 ∷ []) ≡ record { number = 10000001; refusal = 22 }
unfolding first_refused
many = refl
