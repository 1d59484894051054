-- Exchanges in both modes (document 02, W-213), by computation. Assumes nothing.
use mathlib.Core.Path.{◌≡◌, refl}
use mathlib.Core.List.{List, [], ◌∷◌}
use Prim.Native.Nat.{ℕ, ◌+◌}
use Prim.Native.String.{String}
use lib.IntN.{ℤ, pos, negsuc}
use Rattle.refusal.specs.Answer.{Answer, given, refused}
use Rattle.chess.specs.Named.{white, black, pawn, rook, queen}
use Rattle.chess.specs.Values.{value_of}
use Rattle.position.specs.Checked.{no_rights, of_side}
use Rattle.position.specs.declared.State.{State}
use Rattle.claims_examples.specs.Written.{square_named}
use Rattle.exchange_order.specs.Orders.{order}
use Rattle.exchange_start.specs.declared.Mode.{Mode}
use Rattle.exchange_start.specs.declared.Mode.TheVariants.{First, Second}
use Rattle.exchange_value.specs.Stop.{Stop, played_out, before}
use Rattle.exchange.specs.Exchange.{Capture}
use Rattle.claims_examples.proofs.Exchanges.{answered_in, capture, told_in, stops, taken}
use Rattle.std.specs.Prelude.{Some}

-- "adding 913": a queen's value less a pawn's
promotion_is : value_of queen ≡ value_of pawn + 913
promotion_is = refl

-- a side to move, and an en passant square
abbrev passing_state : ℕ → String → State
passing_state side square = record { side = side; rights = no_rights; passant = Some (square_named square); halfmoves = 0; moves = 1 }

-- ---- en passant
-- pawn e5 takes d6, rook d1 behind the passed pawn d5; pawn c7 defends d6
abbrev passing_case : String
passing_case = "4k3/2p5/8/3pP3/8/8/8/3RK3"

unfoldable passed : Mode → State → String → String → Answer ℤ
unfolding answered_in
passed mode state from to = answered_in mode order state passing_case from to

-- MOVE in the first mode, without the square, of the rook, which attacks d5 alone, and of another square
passes : passed Second (passing_state white "d6") "e5" "d6" ∷ passed First (passing_state white "d6") "e5" "d6" ∷ passed Second (of_side white) "e5" "d6"
    ∷ passed Second (passing_state white "d6") "d1" "d6" ∷ passed Second (passing_state white "d6") "e5" "f6" ∷ []
    ≡ given (pos 100) ∷ refused 5 [] ∷ refused 5 [] ∷ refused 5 [] ∷ refused 5 [] ∷ []
unfolding passed
passes = refl

-- the passed pawn has left before rook d1 is looked for: it takes back
unfoldable passing_told : List Capture
unfolding told_in
passing_told = told_in Second order (passing_state white "d6") passing_case "e5" "d6"

passing_told_holds : passing_told ≡ capture "e5" pawn 100 ∷ capture "c7" pawn 100 ∷ capture "d1" rook 100 ∷ []
unfolding passing_told
passing_told_holds = refl

-- Black's: pawn e4 takes d3, and the same again; no knight takes en passant; a rook behind the passed pawn takes back at once
unfoldable passed_by : State → String → String → String → Answer ℤ
unfolding answered_in
passed_by state ranks from to = answered_in Second order state ranks from to

others_pass : passed_by (passing_state black "d3") "3rk3/8/8/8/3Pp3/8/2P5/4K3" "e4" "d3" ∷ passed_by (passing_state white "d6") "4k3/8/8/3p4/4N3/8/8/4K3" "e4" "d6"
    ∷ passed_by (passing_state white "d6") "4k3/8/8/3pP3/8/8/8/3r2K1" "e5" "d6" ∷ [] ≡ given (pos 100) ∷ refused 5 [] ∷ given (pos 0) ∷ []
unfolding passed_by
others_pass = refl

-- ---- a pawn that captures onto the last rank
-- king c8 takes the queen that the pawn then is: 304 and 913 less 1013, as 304 less 100 in the first mode
unfoldable promoted : Mode → String → String → String → Answer ℤ
unfolding answered_in
promoted mode ranks from to = answered_in mode order (of_side white) ranks from to

taken_back : promoted Second "1nk5/P7/8/8/8/8/8/4K3" "a7" "b8" ∷ promoted First "1nk5/P7/8/8/8/8/8/4K3" "a7" "b8" ∷ [] ≡ given (pos 204) ∷ given (pos 204) ∷ []
unfolding promoted
taken_back = refl

-- and where nobody takes it
stays : promoted Second "1n5k/P7/8/8/8/8/8/4K3" "a7" "b8" ∷ promoted First "1n5k/P7/8/8/8/8/8/4K3" "a7" "b8" ∷ [] ≡ given (pos 1217) ∷ given (pos 304) ∷ []
unfolding promoted
stays = refl

-- a pawn that captures elsewhere stays one
elsewhere : promoted Second "4k3/8/8/3p4/4P3/8/8/4K3" "e4" "d5" ≡ given (pos 100)
unfolding promoted
elsewhere = refl

-- ---- a later capture promotes: queen b1 takes knight b8, rook d8 takes back, and pawn a7 takes the rook
abbrev later_case : String
later_case = "1n1r3k/P7/8/8/8/8/8/1Q2K3"

later : promoted Second later_case "b1" "b8" ∷ promoted First later_case "b1" "b8" ∷ [] ≡ given (pos 304) ∷ given (negsuc 221) ∷ []
unfolding promoted
later = refl

unfoldable later_told : Mode → List Capture
unfolding told_in
later_told mode = told_in mode order (of_side white) later_case "b1" "b8"

later_told_holds : later_told Second ∷ later_told First ∷ []
    ≡ (capture "b1" queen 304 ∷ capture "d8" rook 1013 ∷ capture "a7" pawn 1400 ∷ [])
    ∷ (capture "b1" queen 304 ∷ capture "d8" rook 1013 ∷ capture "a7" pawn 487 ∷ []) ∷ []
unfolding later_told
later_told_holds = refl

unfoldable later_stop : Mode → Stop
unfolding later_told stops
later_stop mode = stops (taken (later_told mode))

-- 1013 less 1400 does not pay, 1013 less 487 does
later_stops : later_stop Second ∷ later_stop First ∷ [] ≡ before 1 ∷ played_out ∷ []
unfolding later_stop
later_stops = refl
