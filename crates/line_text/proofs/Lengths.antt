-- How long the texts are: a byte for each square at most, and one for a run. Assumes nothing.
use mathlib.Core.Path.{◌≡◌, refl}
use mathlib.Core.Bool.{Bool, true, false, cond}
use mathlib.Core.List.{List, [], ◌∷◌, ◌++◌}
use Prim.Native.Nat.{ℕ, zero, suc, ◌+◌, ◌*◌, ◌≤◌}
use native.Mathlib.Omega.{arith}
use lib.Dec.{leb}
use lib.ListN.{length, drop, length-take, length-append}
use borrow.Author.Tests.{leb-true}
use Rattle.text_in.specs.Text.{text, space, semicolon, slash}
use Rattle.text_out.specs.Text.{decimal_of}
use Rattle.text_out.proofs.Spelled.{length_below}
use Rattle.position_further.specs.declared.Rights.{Rights}
use Rattle.position.specs.declared.State.{State}
use Rattle.line_parse.specs.Line.{sides, results}
use Rattle.line_text.specs.Spelt.{letter_of, run_digit, spelt, rank_of, rank_text, ranks_text, placement}
use Rattle.line_text.specs.Words.{or_else, letter_for, rights_letters, rights_text, passant_text, counter_text}
use Rattle.line_text.specs.Lines.{text_at, state_fields, parted, position_text, line_text, ended_line}
use Rattle.std.specs.Prelude.{Option, None, Some}

digit_one : (k : ℕ) → length (run_digit (suc k)) ≤ 1
digit_one k = omega arith

pub spelt_length : (squares : List ℕ) (n : ℕ) → length (spelt n squares) ≤ length (run_digit n) + length squares
unfolding spelt
spelt_length [] n = omega arith
spelt_length (zero ∷ squares) n = omega (arith, spelt_length squares (suc n), digit_one n)
spelt_length (suc c ∷ squares) n = omega (arith, length-append (run_digit n) (letter_of (suc c) ∷ spelt 0 squares), spelt_length squares 0)

-- eight bytes a rank at most, and a `/` between two
pub rank_squares : (k : ℕ) (board : List ℕ) → length (rank_of k board) ≤ 8
rank_squares k board = omega (arith, length-take 8 (drop (8 * k) board))

pub rank_length : (k : ℕ) (board : List ℕ) → length (rank_text k board) ≤ 8
rank_length k board = omega (arith, spelt_length (rank_of k board) 0, rank_squares k board)

pub ranks_length : (n : ℕ) (board : List ℕ) → length (ranks_text n board) ≤ 9 * n + 8
unfolding ranks_text
ranks_length zero board = rank_length 0 board
ranks_length (suc n) board =
    omega (arith, length-append (rank_text (suc n) board) (slash ∷ ranks_text n board), rank_length (suc n) board, ranks_length n board)

pub side_length : (side : ℕ) → length (text_at sides side) ≤ 1
side_length zero = omega arith
side_length (suc zero) = omega arith
side_length (suc (suc k)) = omega arith

pub result_length : (half : ℕ) → length (text_at results half) ≤ 7
result_length zero = omega arith
result_length (suc zero) = omega arith
result_length (suc (suc zero)) = omega arith
result_length (suc (suc (suc k))) = omega arith

-- `-` or four letters at most; two bytes; four digits at most
pub letter_length : (right : Bool) (letter : ℕ) → length (letter_for right letter) ≤ 1
letter_length true letter = omega arith
letter_length false letter = omega arith

pub letters_length : (r : Rights) → length (rights_letters r) ≤ 4
letters_length r =
    let a : List ℕ = letter_for r.white_short 75 in
    let b : List ℕ = letter_for r.white_long 81 in
    let c : List ℕ = letter_for r.black_short 107 in
    let d : List ℕ = letter_for r.black_long 113 in
    omega (
      arith,
      length-append a (b ++ (c ++ d)),
      length-append b (c ++ d),
      length-append c d,
      letter_length r.white_short 75,
      letter_length r.white_long 81,
      letter_length r.black_short 107,
      letter_length r.black_long 113,
    )

pub rights_length : (r : Rights) → length (rights_text r) ≤ 4
rights_length r = go (rights_letters r) (letters_length r)
  where
    go : (s : List ℕ) → length s ≤ 4 → length (or_else (text "-") s) ≤ 4
    go [] h = omega arith
    go (b ∷ s) h = h

pub passant_length : (p : Option ℕ) → length (passant_text p) ≤ 2
passant_length None = omega arith
passant_length (Some s) = omega arith

pub counter_length : (n : ℕ) → length (counter_text n) ≤ 4
counter_length n = go (leb n 9999) refl
  where
    go : (t : Bool) → leb n 9999 ≡ t → length (cond t (decimal_of n) []) ≤ 4
    go true e = let h = leb-true n 9999 e in length_below 20 3 n (omega arith)
    go false e = omega arith

-- two texts with one space between them
parted_length : (s t : List ℕ) → length (s ++ (space ∷ t)) ≡ length s + (1 + length t)
parted_length s t = omega (arith, length-append s (space ∷ t))

pub counters_length : (halfmoves moves : ℕ) → length (parted (counter_text halfmoves ∷ counter_text moves ∷ [])) ≤ 9
counters_length halfmoves moves = omega (arith, parted_length (counter_text halfmoves) (counter_text moves), counter_length halfmoves, counter_length moves)

pub state_length : (state : State) → length (parted (state_fields state)) ≤ 19
state_length state =
    let counters : List ℕ = parted (counter_text state.halfmoves ∷ counter_text state.moves ∷ []) in
    let passant : List ℕ = passant_text state.passant in
    let rights : List ℕ = rights_text state.rights in
    let a = parted_length passant counters in
    let b = parted_length rights (passant ++ (space ∷ counters)) in
    let c = parted_length (text_at sides state.side) (rights ++ (space ∷ (passant ++ (space ∷ counters)))) in
    omega (arith, side_length state.side, rights_length state.rights, passant_length state.passant, counters_length state.halfmoves state.moves)

pub position_length : (board : List ℕ) (state : State) → length (position_text board state) ≤ 91
position_length board state = omega (arith, ranks_length 7 board, parted_length (placement board) (parted (state_fields state)), state_length state)

pub line_text_length : (board : List ℕ) (state : State) (half : ℕ) → length (line_text board state half) ≤ 99
line_text_length board state half =
    omega (arith, position_length board state, length-append (position_text board state) (semicolon ∷ text_at results half), result_length half)

pub ended_length : (board : List ℕ) (state : State) (half : ℕ) → length (ended_line board state half) ≤ 100
ended_length board state half = omega (arith, line_text_length board state half, length-append (line_text board state half) (text "\n"))
