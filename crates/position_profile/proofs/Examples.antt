-- Worked examples of the definitions, by computation. Assumes nothing.
use mathlib.Core.Path.{◌≡◌, refl}
use mathlib.Core.List.{List, [], ◌∷◌}
use Prim.Native.Nat.{ℕ}
use lib.ListN.{set}
use Rattle.laws.specs.Tests.{all_below}
use Rattle.refusal.specs.Answer.{Answer, given, refused}
use Rattle.bits.specs.Bitboard.{has, those, some, how_many, first_from, lowest_of, is_in, board}
use Rattle.position_boards.proofs.Examples.{start_boards}
use Rattle.position_odds.specs.Named.{lowest_wrong}
use Rattle.position.specs.Checked.{of_side}
use Rattle.attack_steps.specs.Steps.{reached}
use Rattle.attack_rays.specs.Rays.{seen}
use Rattle.attack.specs.Attacks.{occupied}
use Rattle.attack_to.specs.Attackers.{attackers, is_attacked, is_check}
use Rattle.score_material.specs.Pieces.{count}
use Rattle.position_profile.specs.Profile.{one_king, few_pawns, few_pieces, or_profile}

abbrev answer : List ℕ → Answer Unit
answer bbs = or_profile bbs (of_side 0) (given tt)

-- ---- the starting position with no white king; with a second black one on e5; with a ninth black pawn on e5; with a 17th white piece on e4;
-- with pawns on c8 (White's) and a8 (Black's): the lower square, a8 being 56 and c8 58; with a white pawn on h1 and a black one on b1
broken : List (Answer Unit)
unfolding or_profile one_king few_pawns few_pieces count lowest_wrong first_from all_below how_many has
broken =
    answer (set start_boards 6 0)
    ∷ answer (set start_boards 7 0x1000001000000000)
    ∷ answer (set start_boards 3 0x00FF001000000000)
    ∷ answer (set start_boards 0 0x000000001000FFFF)
    ∷ answer (set (set start_boards 2 0x0400000000000F00) 3 0x010F000000000000)
    ∷ answer (set (set start_boards 2 0x0000000000000F80) 3 0x000F000000000002)
    ∷ []

broken_are : broken ≡ refused 24 [] ∷ refused 24 [] ∷ refused 25 [] ∷ refused 26 [] ∷ refused 27 (56 ∷ []) ∷ refused 27 (1 ∷ []) ∷ []
unfolding broken
broken_are = refl

-- ---- each rule over both colours before the next: seventeen white pieces and nine black pawns; nine white pawns with seventeen pieces
orders : List (Answer Unit)
unfolding or_profile one_king few_pawns few_pieces count lowest_wrong first_from all_below how_many has
orders =
    answer (set (set start_boards 0 0x000000001000FFFF) 3 0x00FF001000000000) ∷ answer (set (set start_boards 0 0x000000001000FFFF) 2 0x000000001000FF00) ∷ []

orders_are : orders ≡ refused 25 [] ∷ refused 25 [] ∷ []
unfolding orders
orders_are = refl

-- ---- kings on e1 and e8, a white rook on e2: with Black to move it passes, though Black is in check; with White to move Black was left in check on e8
abbrev rook_boards : List ℕ
rook_boards = 0x1010 ∷ 0x1000000000000000 ∷ 0 ∷ 0 ∷ 0 ∷ 0 ∷ 0x10 ∷ 0x1000000000000000 ∷ 0 ∷ 0 ∷ 0x1000 ∷ 0 ∷ 0 ∷ 0 ∷ []

left_in_check : or_profile {A = ℕ} rook_boards (of_side 1) (given 11) ∷ or_profile {A = ℕ} rook_boards (of_side 0) (given 11) ∷ [] ≡ given 11
    ∷ refused 28 (60 ∷ []) ∷ []
unfolding or_profile one_king few_pawns few_pieces count lowest_wrong first_from all_below how_many has is_check is_attacked attackers lowest_of occupied some
    those reached board seen is_in
left_in_check = refl
