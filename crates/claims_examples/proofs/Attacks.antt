-- Positions worked out by another program, and worked examples of the refusals, by computation. Assumes nothing.
use mathlib.Core.Path.{◌≡◌, refl}
use mathlib.Core.Bool.{true, false}
use mathlib.Core.List.{List, [], ◌∷◌}
use Prim.Native.Nat.{ℕ}
use Rattle.laws.specs.Tables.{tabulate}
use Rattle.laws.specs.Tests.{all_below}
use Rattle.refusal.specs.Answer.{given, refused}
use Rattle.bits.specs.Bitboard.{has, some, how_many}
use Rattle.position_boards.specs.Sound.{boards_with, of_colour}
use Rattle.position_odds.specs.Odds.{or_odds}
use Rattle.position_further.specs.Rule.{home, at_home, just_passed}
use Rattle.position.specs.Checked.{of_side, checked}
use Rattle.attack.specs.Attacks.{attacks}
use Rattle.attack_to.specs.Attackers.{attackers, is_attacked, is_check}
use Rattle.attack.specs.Answers.{piece_attacks_of}
use Rattle.attack_to.specs.Answers.{attacks_to_of, is_attacked_of, is_check_of}
use Rattle.claims_examples.specs.Written.{boards_of}

-- r3k2r/p1ppqpb1/bn2pnp1/3PN3/1p2P3/2N2Q1p/PPPBBPPP/R3K2R
abbrev middle : List ℕ
middle =
    0x181024ff91 ∷ 0x917d730002800000 ∷ 0x81000e700 ∷ 0x2d500002800000 ∷ 0x1000040000 ∷ 0x220000000000 ∷ 0x10 ∷ 0x1000000000000000 ∷ 0x1800
    ∷ 0x40010000000000 ∷ 0x81 ∷ 0x8100000000000000 ∷ 0x200000 ∷ 0x10000000000000 ∷ []

abbrev taken : ℕ
taken = 0x917d731812a4ff91

-- ---- each kind there: pawns of d5 and h2, knight e5, bishop d2, rook h1, queen f3, king e8; a number past the kinds, and a square past h8
kinds : attacks 0 0 35 taken ∷ attacks 0 1 15 taken ∷ attacks 1 0 36 taken ∷ attacks 2 0 11 taken ∷ attacks 3 0 7 taken ∷ attacks 4 0 21 taken
    ∷ attacks 5 1 60 taken ∷ []
    ≡ 0x140000000000 ∷ 0x40 ∷ 0x28440044280000 ∷ 0x804020140014 ∷ 0x8070 ∷ 0x20a070dc7000 ∷ 0x2838000000000000 ∷ []
unfolding attacks
kinds = refl

nothing : attacks 6 0 35 0 ∷ attacks 4 0 64 0 ∷ attacks 5 1 64 0 ∷ [] ≡ 0 ∷ 0 ∷ 0 ∷ []
unfolding attacks
nothing = refl

-- ---- who attacks d5, f3, a3, e1 and f6, of both colours
crowds : attackers middle 35 taken ∷ attackers middle 21 taken ∷ attackers middle 16 taken ∷ attackers middle 4 taken ∷ attackers middle 45 taken ∷ []
    ≡ 0x320010040000 ∷ 0x1000005000 ∷ 0x2000200 ∷ 0x881 ∷ 0x50000000200000 ∷ []
unfolding attackers
crowds = refl

-- the pieces stand in the bitboards: with no square occupied the queen on f3 reaches d5 too, and a piece whose square is not occupied counts
unmasked : attackers middle 35 0 ≡ 0x320010240000
unfolding attackers
unmasked = refl

-- d5, f3, d6 and e5: attacked by Black, where White is named, and by White, where Black is
sides : is_attacked middle 35 0 ∷ is_attacked middle 21 0 ∷ is_attacked middle 43 0 ∷ is_attacked middle 36 0 ∷ [] ≡ true ∷ false ∷ true ∷ false ∷ []
unfolding is_attacked
sides = refl

sides_black : is_attacked middle 35 1 ∷ is_attacked middle 21 1 ∷ is_attacked middle 43 1 ∷ is_attacked middle 36 1 ∷ [] ≡ true ∷ true ∷ false ∷ false ∷ []
unfolding is_attacked
sides_black = refl

-- ---- check: white kings a1 and h8, black rook g8: the lowest king is not attacked, and Black has none
abbrev two_kings : List ℕ
two_kings = 0x8000000000000001 ∷ 0x4000000000000000 ∷ 0 ∷ 0 ∷ 0 ∷ 0 ∷ 0x8000000000000001 ∷ 0 ∷ 0 ∷ 0 ∷ 0 ∷ 0x4000000000000000 ∷ 0 ∷ 0 ∷ []

-- kings e1 and e8, white rook e4
abbrev rook_check : List ℕ
rook_check = 0x10000010 ∷ 0x1000000000000000 ∷ 0 ∷ 0 ∷ 0 ∷ 0 ∷ 0x10 ∷ 0x1000000000000000 ∷ 0 ∷ 0 ∷ 0x10000000 ∷ 0 ∷ 0 ∷ 0 ∷ []

checks : is_check two_kings 0 ∷ is_check two_kings 1 ∷ is_check rook_check 0 ∷ is_check rook_check 1 ∷ is_check middle 0 ∷ [] ≡ false ∷ true ∷ false ∷ true ∷ false ∷ []
unfolding is_check
checks = refl

-- ---- refusals: a code of 1 or 14 and a square of 64, SHAPE before SQUARE; a queen on h8 alone
refusals : piece_attacks_of 1 64 0 ∷ piece_attacks_of 14 0 0 ∷ piece_attacks_of 13 64 0 ∷ piece_attacks_of 13 63 0 ∷ []
    ≡ refused 1 [] ∷ refused 1 [] ∷ refused 4 [] ∷ given 0x7fc0a09088848281 ∷ []
unfolding attacks
refusals = refl

-- thirteen bitboards; an empty board of 64 bytes and a square of 64; a colour of 2; no king
abbrev none : List ℕ
none = 0 ∷ 0 ∷ 0 ∷ 0 ∷ 0 ∷ 0 ∷ 0 ∷ 0 ∷ 0 ∷ 0 ∷ 0 ∷ 0 ∷ 0 ∷ 0 ∷ []

unfoldable bare : List ℕ
unfolding tabulate
bare = tabulate 64 (λ k. 0)

position_refusals : attacks_to_of (0 ∷ []) bare (of_side 0) 64 0 ∷ attacks_to_of none bare (of_side 2) 64 0 ∷ attacks_to_of none bare (of_side 1) 64 0
    ∷ attacks_to_of none bare (of_side 1) 63 0 ∷ []
    ≡ refused 1 [] ∷ refused 1 [] ∷ refused 4 [] ∷ given 0 ∷ []
unfolding checked or_odds home at_home just_passed boards_with of_colour how_many some has all_below bare attackers
position_refusals = refl

colour_refusals : is_attacked_of none bare (of_side 0) 0 2 ∷ is_attacked_of none bare (of_side 0) 64 1 ∷ is_attacked_of none bare (of_side 0) 0 1
    ∷ is_check_of none bare (of_side 0) 2 ∷ is_check_of none bare (of_side 0) 0 ∷ []
    ≡ refused 1 [] ∷ refused 4 [] ∷ given false ∷ refused 1 [] ∷ given true ∷ []
unfolding checked or_odds home at_home just_passed boards_with of_colour how_many some has all_below bare is_attacked is_check
colour_refusals = refl

-- ---- the boards are those of the positions that they are called
as_written : boards_of "r3k2r/p1ppqpb1/bn2pnp1/3PN3/1p2P3/2N2Q1p/PPPBBPPP/R3K2R"
    ∷ boards_of "6rK/8/8/8/8/8/8/K7"
    ∷ boards_of "4k3/8/8/8/4R3/8/8/4K3" ∷ []
    ≡ middle ∷ two_kings ∷ rook_check ∷ []
unfolding boards_of
as_written = refl
