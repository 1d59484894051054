-- Worked examples of the position field, by computation. Assumes nothing.
use mathlib.Core.Path.{◌≡◌, refl}
use mathlib.Core.List.{List, [], ◌∷◌, map}
use Prim.Native.Nat.{ℕ}
use Prim.Native.String.{String}
use Rattle.text_in.specs.Text.{text, every, holds, before, after, without, trim, place_in}
use Rattle.line_ranks.specs.Ranks.{are_ranks, stacked}
use Rattle.line_tail.specs.Words.{nth_word}
use Rattle.line_tail.specs.Tail.{rights_fit, passant_fits, counters_fit_fields, state_said}
use Rattle.line_parse.specs.Line.{fields_say, line_of}
use Rattle.line.specs.Field.{field_of}

fields : List String → List (List ℕ)
unfolding field_of line_of fields_say every holds before after without trim place_in are_ranks stacked nth_word rights_fit passant_fits counters_fit_fields state_said
fields lines = map (λ s. field_of (text s)) lines

field_parts : fields (" 8/8/8/8/8/8/8/8 w - - \r;1-0" ∷ "8/8/8/8/8/8/8/8 w;1/2" ∷ "8/8/8/8/8/8/8/8 w" ∷ []) ≡ text "8/8/8/8/8/8/8/8 w - -" ∷ [] ∷ [] ∷ []
unfolding fields
field_parts = refl
