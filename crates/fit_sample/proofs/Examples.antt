-- A worked example of the definitions, by computation: numbers of one byte, of two and of three, and one below zero. Assumes nothing.
use mathlib.Core.Path.{◌≡◌, refl}
use mathlib.Core.List.{[], ◌∷◌}
use lib.IntN.{pos, negsuc}
use Rattle.refusal.specs.Answer.{given}
use Rattle.trace_counts.specs.declared.Trace.{Trace}
use Rattle.fit_sample.specs.Sample.{words_of, number_bytes, sample_by}

abbrev black_to_move : Trace
black_to_move = record {
  pawns = pos 8 ∷ pos 7 ∷ [];
  knights = pos 2 ∷ pos 1 ∷ [];
  bishops = pos 2 ∷ pos 2 ∷ [];
  rooks = pos 2 ∷ pos 2 ∷ [];
  queens = pos 1 ∷ pos 1 ∷ [];
  bishop_pair = pos 1 ∷ pos 1 ∷ [];
  mobility = pos 300 ∷ pos 0 ∷ pos 0 ∷ pos 0 ∷ pos 0 ∷ pos 0 ∷ pos 0 ∷ pos 0 ∷ pos 0 ∷ pos 0 ∷ pos 0 ∷ pos 70000 ∷ [];
  side = negsuc 0;
  piece_count = pos 32;
}

-- with a list of one byte in the place of its 192
bytes :
    sample_by (given black_to_move) 32 2 (9 ∷ [])
    ≡
    8 ∷ 0 ∷ 0 ∷ 0 ∷ 7 ∷ 0 ∷ 0 ∷ 0 ∷ 2 ∷ 0 ∷ 0 ∷ 0 ∷ 1 ∷ 0 ∷ 0 ∷ 0 ∷
    2 ∷ 0 ∷ 0 ∷ 0 ∷ 2 ∷ 0 ∷ 0 ∷ 0 ∷ 2 ∷ 0 ∷ 0 ∷ 0 ∷ 2 ∷ 0 ∷ 0 ∷ 0 ∷
    1 ∷ 0 ∷ 0 ∷ 0 ∷ 1 ∷ 0 ∷ 0 ∷ 0 ∷ 1 ∷ 0 ∷ 0 ∷ 0 ∷ 1 ∷ 0 ∷ 0 ∷ 0 ∷
    44 ∷ 1 ∷ 0 ∷ 0 ∷ 0 ∷ 0 ∷ 0 ∷ 0 ∷ 0 ∷ 0 ∷ 0 ∷ 0 ∷ 0 ∷ 0 ∷ 0 ∷ 0 ∷
    0 ∷ 0 ∷ 0 ∷ 0 ∷ 0 ∷ 0 ∷ 0 ∷ 0 ∷ 0 ∷ 0 ∷ 0 ∷ 0 ∷ 0 ∷ 0 ∷ 0 ∷ 0 ∷
    0 ∷ 0 ∷ 0 ∷ 0 ∷ 0 ∷ 0 ∷ 0 ∷ 0 ∷ 0 ∷ 0 ∷ 0 ∷ 0 ∷ 112 ∷ 17 ∷ 1 ∷ 0 ∷
    255 ∷ 255 ∷ 255 ∷ 255 ∷ 32 ∷ 0 ∷ 0 ∷ 0 ∷ 32 ∷ 2 ∷ 9 ∷ 0 ∷ 0 ∷ []
unfolding number_bytes words_of
bytes = refl
