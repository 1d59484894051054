-- Worked examples of the definitions, by computation. Assumes nothing.
use mathlib.Core.Path.{◌≡◌, refl}
use mathlib.Core.List.{[], ◌∷◌, ◌++◌}
use lib.ListN.{replicate}
use Rattle.refusal.specs.Answer.{given, refused}
use Rattle.position.specs.Checked.{of_side}
use Rattle.text_in.specs.Text.{text}
use Rattle.text_out.specs.Text.{digits_up_to}
use Rattle.line_ranks.specs.Promises.{empty_board}
use Rattle.line_text.specs.Spelt.{ranks_text}
use Rattle.line_write.specs.Write.{wanted_text, text_written_of, buffer_after}
use Rattle.std.specs.Prelude.{None, Some}

-- a buffer of just the text's length; one byte less; half points that are no result's, which come before the room
rooms : text_written_of empty_board (of_side 0) None (replicate 25 1) ∷ text_written_of empty_board (of_side 0) None (replicate 24 1)
    ∷ text_written_of empty_board (of_side 0) (Some 3) (replicate 24 1) ∷ []
    ≡ given 25 ∷ refused 17 [] ∷ refused 13 [] ∷ []
unfolding ranks_text digits_up_to
rooms = refl

-- the bytes after the text stay
stay : buffer_after (text_written_of empty_board (of_side 0) (Some 0) (replicate 31 1)) (wanted_text empty_board (of_side 0) (Some 0)) (replicate 31 1)
    ≡ text "8/8/8/8/8/8/8/8 w - - 0 1;0-1" ++ (1 ∷ 1 ∷ [])
unfolding ranks_text digits_up_to
stay = refl
