-- Exchanges, their captures, refusals and the least attacker, by computation. Assumes nothing.
use mathlib.Core.Path.{◌≡◌, refl}
use mathlib.Core.List.{List, [], ◌∷◌, map}
use Prim.Native.Nat.{ℕ}
use Prim.Native.String.{String}
use lib.IntN.{ℤ, pos, negsuc}
use lib.ListN.{length}
use Rattle.laws.specs.Tests.{all_below}
use Rattle.laws.specs.Tables.{tabulate}
use Rattle.refusal.specs.Answer.{Answer, given, refused}
use Rattle.chess.specs.Named.{white, black, pawn, knight, bishop, rook, queen, king}
use Rattle.bits.specs.Bitboard.{has, those, some, how_many, first_from, board}
use Rattle.position_boards.specs.Boards.{bitboards_of}
use Rattle.position_boards.specs.Sound.{boards_with, of_colour}
use Rattle.position_odds.specs.Named.{lowest_wrong}
use Rattle.position_odds.specs.Odds.{or_odds}
use Rattle.position_further.specs.Rule.{home, at_home, just_passed}
use Rattle.position.specs.Checked.{of_side, checked}
use Rattle.position.specs.declared.State.{State}
use Rattle.attack.specs.Attacks.{occupied}
use Rattle.attack_to.specs.Attackers.{attackers}
use Rattle.claims_examples.specs.Written.{bytes_of, square_named}
use Rattle.exchange_order.specs.Orders.{order, each_once}
use Rattle.exchange_least.specs.Least.{Attacker, nobody, attacker, least_of}
use Rattle.exchange_least.specs.Answers.{lvp_of}
use Rattle.exchange_start.specs.Capture.{may_capture, uncrowded}
use Rattle.exchange_start.specs.declared.Mode.{Mode}
use Rattle.exchange_start.specs.declared.Mode.TheVariants.{First}
use Rattle.exchange_value.specs.Stop.{Stop, played_out, before, stop_of, carried_out, alternating}
use Rattle.exchange.specs.Exchange.{Capture, captures_of, exchange_of}
use Rattle.exchange.specs.PrivateSource.{source_see}
use Rattle.exchange.specs.Answers.{see_of}

-- the door's answer in a mode, refusals and all, for any six kinds and any state
unfoldable pub answered_in : Mode → List ℕ → State → String → String → String → Answer ℤ
unfolding bytes_of bitboards_of tabulate those has some how_many all_below boards_with of_colour or_odds home at_home just_passed checked each_once may_capture
    uncrowded exchange_of
answered_in mode kinds state ranks from to =
    let bytes : List ℕ = bytes_of ranks in
    let bbs : List ℕ = bitboards_of bytes in
    see_of mode kinds bbs bytes state (square_named from) (square_named to)

-- in document 01's mode with White to move; and for document 01's order
unfoldable answered_by : List ℕ → String → String → String → Answer ℤ
unfolding answered_in
answered_by kinds = answered_in First kinds (of_side white)

unfoldable answered : String → String → String → Answer ℤ
unfolding answered_by
answered = answered_by order

-- queen d1 takes pawn d5, pawn e4 behind her; knight f6, bishop b7 defend; kings g1, g8
abbrev queen_case : String
queen_case = "6k1/1b6/5n2/3p4/4P3/8/8/3Q2K1"

-- with a second white king on a1
abbrev kings_case : String
kings_case = "6k1/1b6/5n2/3p4/4P3/8/8/K2Q2K1"

-- bishops before knights; the bishop twice; a kind 6
abbrev bishop_first : List ℕ
bishop_first = pawn ∷ bishop ∷ knight ∷ rook ∷ queen ∷ king ∷ []

abbrev bishop_twice : List ℕ
bishop_twice = pawn ∷ bishop ∷ bishop ∷ rook ∷ queen ∷ king ∷ []

abbrev no_king : List ℕ
no_king = pawn ∷ knight ∷ bishop ∷ rook ∷ queen ∷ 6 ∷ []

-- ---- the queen's exchange: each capture's square, kind and value taken
abbrev pub capture : String → ℕ → ℕ → Capture
capture from kind taken = record { from = square_named from; kind = kind; taken = taken }

-- the captures in a mode; and in document 01's with White to move
unfoldable pub told_in : Mode → List ℕ → State → String → String → String → List Capture
unfolding bytes_of bitboards_of tabulate those captures_of
told_in mode kinds state ranks from to =
    let bytes : List ℕ = bytes_of ranks in
    let bbs : List ℕ = bitboards_of bytes in
    captures_of mode kinds bbs bytes state (square_named from) (square_named to)

unfoldable told : List ℕ → String → String → String → List Capture
unfolding told_in
told kinds = told_in First kinds (of_side white)

-- for any order of the kinds
unfoldable queens : List ℕ → List Capture
unfolding told
queens kinds = told kinds queen_case "d1" "d5"

-- queen d1, knight f6, pawn e4, bishop b7
queens_are : queens order ≡ capture "d1" queen 100 ∷ capture "f6" knight 1013 ∷ capture "e4" pawn 304 ∷ capture "b7" bishop 100 ∷ []
unfolding queens
queens_are = refl

-- bishops before knights: queen d1, bishop b7, pawn e4, knight f6
bishops_first : queens bishop_first ≡ capture "d1" queen 100 ∷ capture "b7" bishop 1013 ∷ capture "e4" pawn 292 ∷ capture "f6" knight 100 ∷ []
unfolding queens
bishops_first = refl

-- "Bishops before knights because 292 is under 304: the queen case gives −721". ORDER: bishop twice, before MOVE (nothing on e1) and CROWD (a second
-- king on a1); a kind 6;
-- after SQUARE
orders : answered_by bishop_first queen_case "d1" "d5" ∷ answered_by bishop_twice queen_case "e1" "d5" ∷ answered_by bishop_twice kings_case "d1" "d5"
    ∷ answered_by no_king queen_case "d1" "d5" ∷ answered_by bishop_twice queen_case "d9" "d5" ∷ []
    ≡ given (negsuc 720) ∷ refused 20 [] ∷ refused 20 [] ∷ refused 20 [] ∷ refused 4 [] ∷ []
unfolding answered_by
orders = refl

-- ---- where exchanges stop (document 02, W-207), and what the captures before that add up to
unfoldable pub stops : List ℕ → Stop
unfolding stop_of
stops vs = stop_of vs

unfoldable sums : List ℕ → ℤ
unfolding stop_of alternating
sums vs = alternating (carried_out (stop_of vs) vs)

abbrev pub taken : List Capture → List ℕ
taken cs = map (λ c. c.taken) cs

-- at once after the first: pawn d4 takes knight e5, which queen e7 and rook e8 defend, rook e1 behind; 304, 100, 1013, 487: S(3) is 487, S(2) 526, S(1) -426
pawn_case : told order "4r3/4q3/8/4n3/3P4/8/8/4R3" "d4" "e5" ≡ capture "d4" pawn 304 ∷ capture "e7" queen 100 ∷ capture "e1" rook 1013
    ∷ capture "e8" rook 487 ∷ []
unfolding told
pawn_case = refl

-- at zero: rooks e1, e2 against rook e8, e2 takes pawn e5; 100, 487, 487: S(1) is 0, "not above zero"
rook_case : told order "4r3/8/8/4p3/8/8/4R3/4R3" "e2" "e5" ≡ capture "e2" rook 100 ∷ capture "e8" rook 487 ∷ capture "e1" rook 487 ∷ []
unfolding told
rook_case = refl

-- played out: the queen's
stops_are : stops (304 ∷ 100 ∷ 1013 ∷ 487 ∷ []) ∷ stops (100 ∷ 487 ∷ 487 ∷ []) ∷ stops (100 ∷ 1013 ∷ 304 ∷ 100 ∷ []) ∷ [] ≡ before 1 ∷ before 1 ∷ played_out ∷ []
unfolding stops
stops_are = refl

sums_are : sums (304 ∷ 100 ∷ 1013 ∷ 487 ∷ []) ∷ sums (100 ∷ 487 ∷ 487 ∷ []) ∷ sums (100 ∷ 1013 ∷ 304 ∷ 100 ∷ []) ∷ [] ≡ pos 304 ∷ pos 100 ∷ negsuc 708 ∷ []
unfolding sums
sums_are = refl

-- two orders stop at different points: each side attacks e5 by all six kinds, and knight f3 takes a knight there
abbrev all_kinds : String
all_kinds = "4r3/2b1q3/2n2p2/3Knk2/3P4/5NB1/4Q3/4R3"

unfoldable all_kinds_stop : List ℕ → Stop
unfolding told stops
all_kinds_stop kinds = stops (taken (told kinds all_kinds "f3" "e5"))

two_orders : all_kinds_stop order ∷ all_kinds_stop bishop_first ∷ [] ≡ before 6 ∷ before 2 ∷ []
unfolding all_kinds_stop
two_orders = refl

-- what the source folds back
unfoldable queens_by_source : ℤ
unfolding bytes_of bitboards_of tabulate those source_see
queens_by_source = let bytes : List ℕ = bytes_of queen_case in let bbs : List ℕ = bitboards_of bytes in
    source_see order bbs bytes (of_side white) (square_named "d1") (square_named "d5")

by_source : queens_by_source ≡ negsuc 708
unfolding queens_by_source
by_source = refl

-- ---- 32 pieces and 31 captures on e4, which d2 begins: as many as there can be
abbrev thirty_two_rule : String
thirty_two_rule = "Q3q3/1Q2q2Q/3nrn2/2nQRqN1/r1qQqRqQ/2NQqbn1/2bNQNQ1/4Q2q"

-- with a pawn on a7 too
abbrev thirty_three : String
thirty_three = "Q3q3/pQ2q2Q/3nrn2/2nQRqN1/r1qQqRqQ/2NQqbn1/2bNQNQ1/4Q2q"

longest : answered thirty_two_rule "d2" "e4" ≡ given (pos 709)
unfolding answered
longest = refl

unfoldable longest_list : ℕ
unfolding told
longest_list = length (told order thirty_two_rule "d2" "e4")

longest_has : longest_list ≡ 31
unfolding longest_list
longest_has = refl

-- it stops before the third capture: 1013 - 304 is 709
unfoldable longest_stop : Stop
unfolding told stops
longest_stop = stops (taken (told order thirty_two_rule "d2" "e4"))

longest_stops : longest_stop ≡ before 2
unfolding longest_stop
longest_stops = refl

-- ---- refusals: CROWD of a 33rd piece (a7), and of a second white king (a1), not of one king a colour; MOVE before CROWD
crowds : answered thirty_three "d2" "e4" ∷ answered kings_case "d1" "d5" ∷ answered kings_case "d1" "e5" ∷ []
    ≡ refused 6 [] ∷ refused 6 [] ∷ refused 5 [] ∷ []
unfolding answered
crowds = refl

-- MOVE: nothing on the start, a black piece there, nothing on the target, a white piece there, a knight that does not attack it
moves : answered queen_case "e1" "d5" ∷ answered queen_case "f6" "e4" ∷ answered queen_case "d1" "d4" ∷ answered queen_case "d1" "e4"
    ∷ answered "6k1/1b6/5n2/3p4/4P3/8/8/1N1Q2K1" "b1" "d5" ∷ []
    ≡ refused 5 [] ∷ refused 5 [] ∷ refused 5 [] ∷ refused 5 [] ∷ refused 5 [] ∷ []
unfolding answered
moves = refl

-- SQUARE of either square, before MOVE: d9 is none
squares : answered queen_case "d9" "d5" ∷ answered queen_case "d1" "d9" ∷ [] ≡ refused 4 [] ∷ refused 4 [] ∷ []
unfolding answered
squares = refl

-- BYTEBOARD with a2 where a byte is not its board's, before SQUARE; SHAPE where the side is none, before BYTEBOARD
unfoldable amiss : ℕ → String → Answer ℤ
unfolding bytes_of bitboards_of tabulate those has some how_many all_below boards_with of_colour or_odds lowest_wrong first_from home at_home just_passed checked
    each_once may_capture uncrowded exchange_of
amiss side from =
    let bbs : List ℕ = bitboards_of (bytes_of queen_case) in
    see_of First order bbs (bytes_of "6k1/1b6/5n2/3p4/4P3/8/P7/3Q2K1") (of_side side) (square_named from) (square_named "d5")

amiss_is : amiss white "d1" ∷ amiss white "d9" ∷ amiss 2 "d1" ∷ [] ≡ refused 16 (square_named "a2" ∷ []) ∷ refused 16 (square_named "a2" ∷ []) ∷ refused 1 [] ∷ []
unfolding amiss
amiss_is = refl

-- ---- the least attacker of a colour on d5, where only some squares are still there: the queen's position with black knights on c7 and e7 too
unfoldable least_on : List ℕ → ℕ → List String → Answer Attacker
unfolding bytes_of bitboards_of tabulate those has some how_many all_below boards_with of_colour or_odds home at_home just_passed checked each_once attackers
    occupied board least_of
least_on kinds colour still =
    let bytes : List ℕ = bytes_of "6k1/1bn1n3/5n2/3p4/4P3/8/8/3Q2K1" in
    let bbs : List ℕ = bitboards_of bytes in
    lvp_of kinds bbs bytes (of_side white) colour (attackers bbs (square_named "d5") (occupied bbs)) (board (map square_named still))

abbrev least : String → ℕ → Answer Attacker
least square kind = given (attacker (square_named square) kind)

-- the pawn before the queen; the queen alone; of two knights the lower, before the bishop; the bishop alone; the king, which does not attack; no colour
least_are : least_on order white ("d1" ∷ "e4" ∷ []) ∷ least_on order white ("d1" ∷ []) ∷ least_on order black ("b7" ∷ "e7" ∷ "c7" ∷ [])
    ∷ least_on order black ("b7" ∷ []) ∷ least_on order black ("g8" ∷ []) ∷ least_on order 2 ("b7" ∷ []) ∷ []
    ≡ least "e4" pawn ∷ least "d1" queen ∷ least "c7" knight ∷ least "b7" bishop ∷ given nobody ∷ refused 1 [] ∷ []
unfolding least_on
least_are = refl

-- in other orders: the queen before the pawn, the bishop before the knights; a kind left out; SHAPE before ORDER
least_by : least_on (king ∷ queen ∷ rook ∷ bishop ∷ knight ∷ pawn ∷ []) white ("d1" ∷ "e4" ∷ []) ∷ least_on bishop_first black ("b7" ∷ "e7" ∷ "c7" ∷ [])
    ∷ least_on bishop_twice black ("b7" ∷ []) ∷ least_on bishop_twice 2 ("b7" ∷ []) ∷ []
    ≡ least "d1" queen ∷ least "b7" bishop ∷ refused 20 [] ∷ refused 1 [] ∷ []
unfolding least_on
least_by = refl
