-- Worked examples of the definitions, by computation: a line's own refusals come first. Assumes nothing.
use mathlib.Core.Path.{◌≡◌, refl}
use mathlib.Core.List.{[], ◌∷◌}
use Prim.Native.Nat.{ℕ}
use Prim.Native.String.{String}
use Rattle.laws.specs.Tables.{tabulate}
use Rattle.laws.specs.Tests.{all_below}
use Rattle.refusal.specs.Answer.{Answer, given, refused}
use Rattle.bits.specs.Bitboard.{has, those, some, how_many, first_from, lowest_of, is_in, board}
use Rattle.text_in.specs.Text.{text, every, holds, before, after, without, without_last, trim, place_in}
use Rattle.position_boards.specs.Boards.{bitboards_of}
use Rattle.position_odds.specs.Named.{lowest_wrong}
use Rattle.position.specs.Checked.{of_side}
use Rattle.position.specs.declared.State.{State}
use Rattle.attack_steps.specs.Steps.{reached}
use Rattle.attack_rays.specs.Rays.{seen}
use Rattle.attack.specs.Attacks.{occupied}
use Rattle.attack_to.specs.Attackers.{attackers, is_attacked, is_check}
use Rattle.score_material.specs.Pieces.{count}
use Rattle.position_profile.specs.Profile.{one_king, few_pawns, few_pieces, or_profile}
use Rattle.line_ranks.specs.Ranks.{are_ranks, stacked}
use Rattle.line_tail.specs.Words.{nth_word}
use Rattle.line_tail.specs.Tail.{rights_fit, passant_fits, counters_fit_fields, state_said}
use Rattle.line_parse.specs.Line.{fields_say, line_of}
use Rattle.line_parse.specs.Promises.{by_value}
use Rattle.line_profile.specs.Under.{line_under}
use Rattle.line_profile.specs.declared.Profile.TheVariants as P

said : String → Answer (State × ℕ)
unfolding line_of fields_say every holds before after without without_last trim place_in are_ranks stacked nth_word rights_fit passant_fits counters_fit_fields
    state_said tabulate bitboards_of or_profile one_king few_pawns few_pieces count lowest_wrong first_from all_below how_many has is_check is_attacked attackers
    lowest_of occupied some those reached board seen is_in
said line = by_value (line_under P.RealPlay (text line))

-- in check and to move; the same, but just moved; no king, and no result either; no king
paper :
    said "4k3/8/8/8/8/8/4R3/4K3 b;0-1" ∷ said "4k3/8/8/8/8/8/4R3/4K3 w;0-1" ∷ said "8/8/8/8/8/8/8/8 w;1/2" ∷ said "8/8/8/8/8/8/8/8 w;1-0" ∷ []
    ≡ given (of_side 1, 0) ∷ refused 28 (60 ∷ []) ∷ refused 13 [] ∷ refused 24 [] ∷ []
unfolding said
paper = refl
