-- The twelve grids of square weights as they are printed (document 003): the eighth rank comes first. Definitions only.
use Rattle.std.specs.Prelude.{List, [], ◌∷◌, ℕ, ℤ, pos, neg_ℤ}

-- a number with its sign
abbrev pub p : ℕ → ℤ
p n = pos n

abbrev pub m : ℕ → ℤ
m n = neg_ℤ (pos n)

abbrev pub pawn_opening : List ℤ
pawn_opening =
    p 0 ∷ p 0 ∷ p 0 ∷ p 0 ∷ p 0 ∷ p 0 ∷ p 0 ∷ p 0 ∷
    p 67 ∷ p 67 ∷ p 66 ∷ p 67 ∷ p 67 ∷ p 59 ∷ p 62 ∷ p 63 ∷
    p 3 ∷ m 21 ∷ p 8 ∷ p 43 ∷ p 28 ∷ m 8 ∷ p 16 ∷ m 6 ∷
    m 25 ∷ m 16 ∷ m 10 ∷ p 7 ∷ p 8 ∷ m 9 ∷ p 2 ∷ m 17 ∷
    m 20 ∷ m 11 ∷ m 23 ∷ p 0 ∷ p 0 ∷ m 6 ∷ m 6 ∷ m 26 ∷
    m 25 ∷ m 5 ∷ m 20 ∷ m 7 ∷ m 3 ∷ p 13 ∷ p 36 ∷ m 12 ∷
    m 35 ∷ m 16 ∷ m 32 ∷ m 27 ∷ m 16 ∷ p 2 ∷ p 20 ∷ m 35 ∷
    p 0 ∷ p 0 ∷ p 0 ∷ p 0 ∷ p 0 ∷ p 0 ∷ p 0 ∷ p 0 ∷ []

abbrev pub pawn_ending : List ℤ
pawn_ending =
    p 0 ∷ p 0 ∷ p 0 ∷ p 0 ∷ p 0 ∷ p 0 ∷ p 0 ∷ p 0 ∷
    p 117 ∷ p 117 ∷ p 97 ∷ p 87 ∷ p 88 ∷ p 97 ∷ p 117 ∷ p 114 ∷
    p 72 ∷ p 60 ∷ p 81 ∷ p 77 ∷ p 77 ∷ p 37 ∷ p 76 ∷ p 66 ∷
    p 54 ∷ p 48 ∷ p 18 ∷ p 5 ∷ m 14 ∷ p 6 ∷ p 33 ∷ p 43 ∷
    p 37 ∷ p 29 ∷ p 15 ∷ p 8 ∷ m 9 ∷ p 8 ∷ p 28 ∷ p 31 ∷
    p 29 ∷ p 13 ∷ m 14 ∷ m 5 ∷ m 13 ∷ m 21 ∷ m 9 ∷ p 21 ∷
    p 24 ∷ p 23 ∷ p 6 ∷ p 21 ∷ p 7 ∷ m 11 ∷ p 13 ∷ p 3 ∷
    p 0 ∷ p 0 ∷ p 0 ∷ p 0 ∷ p 0 ∷ p 0 ∷ p 0 ∷ p 0 ∷ []

abbrev pub knight_opening : List ℤ
knight_opening =
    m 116 ∷ m 61 ∷ m 1 ∷ p 0 ∷ p 20 ∷ m 32 ∷ m 12 ∷ m 111 ∷
    m 54 ∷ m 24 ∷ m 2 ∷ p 22 ∷ p 24 ∷ p 8 ∷ m 13 ∷ m 59 ∷
    m 11 ∷ p 31 ∷ p 25 ∷ p 60 ∷ p 48 ∷ p 61 ∷ p 23 ∷ m 11 ∷
    p 29 ∷ p 17 ∷ p 28 ∷ p 53 ∷ p 24 ∷ p 55 ∷ p 6 ∷ m 7 ∷
    p 0 ∷ p 9 ∷ p 26 ∷ p 6 ∷ p 29 ∷ p 5 ∷ p 21 ∷ m 9 ∷
    m 10 ∷ p 9 ∷ p 1 ∷ p 20 ∷ p 37 ∷ p 2 ∷ p 16 ∷ m 20 ∷
    m 40 ∷ m 21 ∷ p 8 ∷ p 4 ∷ p 2 ∷ p 20 ∷ m 11 ∷ m 24 ∷
    m 73 ∷ m 15 ∷ m 13 ∷ m 3 ∷ m 11 ∷ m 7 ∷ m 20 ∷ m 31 ∷ []

abbrev pub knight_ending : List ℤ
knight_ending =
    m 104 ∷ m 63 ∷ m 20 ∷ m 14 ∷ m 24 ∷ m 11 ∷ m 17 ∷ m 99 ∷
    p 4 ∷ p 17 ∷ p 6 ∷ m 11 ∷ p 1 ∷ m 2 ∷ m 29 ∷ m 19 ∷
    m 13 ∷ m 5 ∷ p 17 ∷ p 15 ∷ p 9 ∷ m 2 ∷ p 3 ∷ m 23 ∷
    m 3 ∷ p 19 ∷ p 19 ∷ m 2 ∷ p 16 ∷ m 7 ∷ p 37 ∷ p 3 ∷
    m 8 ∷ m 18 ∷ m 3 ∷ p 24 ∷ p 16 ∷ p 29 ∷ p 8 ∷ m 24 ∷
    m 31 ∷ m 28 ∷ m 17 ∷ m 9 ∷ m 28 ∷ m 10 ∷ m 58 ∷ m 15 ∷
    m 50 ∷ m 25 ∷ m 32 ∷ m 12 ∷ m 16 ∷ m 25 ∷ p 2 ∷ m 35 ∷
    m 66 ∷ m 62 ∷ m 74 ∷ m 40 ∷ m 47 ∷ m 46 ∷ m 71 ∷ m 61 ∷ []

abbrev pub bishop_opening : List ℤ
bishop_opening =
    m 35 ∷ m 9 ∷ m 11 ∷ m 8 ∷ m 14 ∷ m 40 ∷ m 9 ∷ m 43 ∷
    m 47 ∷ m 4 ∷ m 14 ∷ m 14 ∷ p 4 ∷ m 18 ∷ m 36 ∷ m 71 ∷
    m 14 ∷ p 17 ∷ p 1 ∷ p 7 ∷ p 9 ∷ p 17 ∷ p 0 ∷ p 11 ∷
    m 1 ∷ m 10 ∷ p 17 ∷ p 23 ∷ p 10 ∷ p 19 ∷ m 15 ∷ m 29 ∷
    p 3 ∷ p 23 ∷ m 19 ∷ p 7 ∷ p 18 ∷ m 8 ∷ m 6 ∷ m 11 ∷
    m 5 ∷ p 20 ∷ p 8 ∷ m 2 ∷ m 5 ∷ p 9 ∷ p 10 ∷ m 20 ∷
    p 22 ∷ m 7 ∷ p 3 ∷ m 10 ∷ p 2 ∷ p 11 ∷ p 5 ∷ p 0 ∷
    m 51 ∷ m 38 ∷ m 16 ∷ m 13 ∷ m 40 ∷ m 26 ∷ m 10 ∷ m 44 ∷ []

abbrev pub bishop_ending : List ℤ
bishop_ending =
    m 34 ∷ m 2 ∷ p 16 ∷ p 6 ∷ m 10 ∷ p 14 ∷ m 14 ∷ m 20 ∷
    p 5 ∷ p 20 ∷ p 16 ∷ p 0 ∷ p 10 ∷ p 9 ∷ m 3 ∷ p 1 ∷
    p 9 ∷ m 10 ∷ p 1 ∷ p 14 ∷ p 5 ∷ p 4 ∷ p 17 ∷ p 1 ∷
    m 12 ∷ p 26 ∷ p 3 ∷ m 12 ∷ m 2 ∷ p 5 ∷ p 23 ∷ m 3 ∷
    m 14 ∷ m 9 ∷ p 29 ∷ m 8 ∷ m 3 ∷ p 14 ∷ m 24 ∷ p 20 ∷
    p 9 ∷ m 12 ∷ m 14 ∷ p 13 ∷ m 5 ∷ m 37 ∷ m 19 ∷ m 2 ∷
    m 43 ∷ m 52 ∷ m 28 ∷ m 16 ∷ m 23 ∷ m 22 ∷ m 20 ∷ m 28 ∷
    m 39 ∷ m 5 ∷ m 29 ∷ m 31 ∷ m 8 ∷ m 11 ∷ m 19 ∷ m 10 ∷ []

abbrev pub rook_opening : List ℤ
rook_opening =
    p 46 ∷ p 51 ∷ p 45 ∷ p 33 ∷ p 30 ∷ p 27 ∷ p 18 ∷ p 26 ∷
    p 28 ∷ p 25 ∷ p 30 ∷ p 33 ∷ p 42 ∷ p 63 ∷ p 32 ∷ p 34 ∷
    p 12 ∷ m 3 ∷ p 5 ∷ p 17 ∷ p 34 ∷ p 14 ∷ m 8 ∷ m 12 ∷
    m 27 ∷ m 25 ∷ m 6 ∷ m 9 ∷ p 4 ∷ m 3 ∷ m 26 ∷ m 9 ∷
    m 30 ∷ m 14 ∷ m 21 ∷ m 25 ∷ m 15 ∷ m 29 ∷ m 24 ∷ m 26 ∷
    m 30 ∷ m 23 ∷ m 27 ∷ m 20 ∷ m 21 ∷ m 21 ∷ m 10 ∷ m 29 ∷
    m 20 ∷ m 27 ∷ m 22 ∷ m 14 ∷ m 12 ∷ p 1 ∷ m 11 ∷ m 3 ∷
    m 17 ∷ m 2 ∷ m 3 ∷ p 2 ∷ p 9 ∷ m 13 ∷ m 15 ∷ m 22 ∷ []

abbrev pub rook_ending : List ℤ
rook_ending =
    m 6 ∷ p 5 ∷ p 5 ∷ m 3 ∷ p 16 ∷ p 17 ∷ p 12 ∷ m 18 ∷
    p 0 ∷ p 12 ∷ p 11 ∷ p 9 ∷ p 17 ∷ p 11 ∷ p 18 ∷ p 1 ∷
    p 10 ∷ p 21 ∷ p 5 ∷ m 2 ∷ p 9 ∷ m 2 ∷ p 32 ∷ p 7 ∷
    p 30 ∷ p 19 ∷ p 17 ∷ p 22 ∷ p 25 ∷ p 26 ∷ p 27 ∷ p 16 ∷
    p 22 ∷ p 15 ∷ p 9 ∷ p 11 ∷ p 32 ∷ p 31 ∷ p 24 ∷ m 10 ∷
    p 8 ∷ p 10 ∷ m 5 ∷ p 1 ∷ p 18 ∷ p 8 ∷ p 6 ∷ p 13 ∷
    p 7 ∷ p 6 ∷ m 15 ∷ m 15 ∷ m 13 ∷ m 40 ∷ m 1 ∷ p 0 ∷
    m 4 ∷ p 13 ∷ p 10 ∷ m 16 ∷ m 11 ∷ p 2 ∷ p 10 ∷ m 23 ∷ []

abbrev pub queen_opening : List ℤ
queen_opening =
    m 12 ∷ p 44 ∷ p 33 ∷ p 21 ∷ p 41 ∷ p 49 ∷ p 50 ∷ p 43 ∷
    m 30 ∷ m 62 ∷ m 1 ∷ p 10 ∷ p 25 ∷ p 54 ∷ p 18 ∷ p 45 ∷
    m 4 ∷ m 22 ∷ m 13 ∷ m 9 ∷ p 24 ∷ p 64 ∷ p 62 ∷ p 40 ∷
    m 25 ∷ m 21 ∷ m 22 ∷ m 16 ∷ p 0 ∷ p 13 ∷ m 6 ∷ p 14 ∷
    m 6 ∷ m 24 ∷ m 24 ∷ m 16 ∷ m 19 ∷ m 16 ∷ p 3 ∷ p 0 ∷
    m 6 ∷ m 4 ∷ m 10 ∷ m 11 ∷ m 12 ∷ m 4 ∷ p 15 ∷ m 3 ∷
    m 33 ∷ m 9 ∷ p 12 ∷ p 7 ∷ p 1 ∷ p 15 ∷ p 5 ∷ p 2 ∷
    p 9 ∷ p 3 ∷ m 3 ∷ p 10 ∷ p 4 ∷ m 10 ∷ m 35 ∷ m 19 ∷ []

abbrev pub queen_ending : List ℤ
queen_ending =
    p 8 ∷ m 7 ∷ p 18 ∷ p 13 ∷ p 28 ∷ p 37 ∷ p 13 ∷ p 8 ∷
    m 9 ∷ p 24 ∷ p 28 ∷ p 36 ∷ p 21 ∷ p 36 ∷ p 23 ∷ p 16 ∷
    p 2 ∷ p 10 ∷ p 22 ∷ p 40 ∷ p 23 ∷ p 38 ∷ p 27 ∷ p 18 ∷
    p 28 ∷ p 29 ∷ p 30 ∷ p 35 ∷ p 32 ∷ p 23 ∷ p 25 ∷ p 19 ∷
    m 22 ∷ p 15 ∷ p 31 ∷ p 30 ∷ p 17 ∷ p 22 ∷ m 1 ∷ p 14 ∷
    m 19 ∷ m 21 ∷ p 1 ∷ m 2 ∷ m 12 ∷ m 8 ∷ m 5 ∷ p 3 ∷
    p 0 ∷ m 4 ∷ m 60 ∷ m 42 ∷ m 31 ∷ m 42 ∷ m 31 ∷ m 22 ∷
    m 46 ∷ m 46 ∷ m 32 ∷ m 33 ∷ m 54 ∷ m 45 ∷ m 52 ∷ m 27 ∷ []

abbrev pub king_opening : List ℤ
king_opening =
    m 20 ∷ m 35 ∷ m 15 ∷ m 38 ∷ m 41 ∷ m 23 ∷ m 26 ∷ m 10 ∷
    m 20 ∷ p 12 ∷ p 19 ∷ p 4 ∷ p 10 ∷ p 11 ∷ p 4 ∷ m 14 ∷
    p 2 ∷ p 21 ∷ p 22 ∷ p 14 ∷ p 12 ∷ p 25 ∷ p 19 ∷ p 0 ∷
    m 7 ∷ p 17 ∷ p 21 ∷ p 18 ∷ p 12 ∷ m 18 ∷ p 17 ∷ m 4 ∷
    m 30 ∷ m 7 ∷ p 10 ∷ p 13 ∷ p 16 ∷ m 15 ∷ m 24 ∷ m 34 ∷
    m 36 ∷ m 28 ∷ m 5 ∷ p 4 ∷ m 3 ∷ p 1 ∷ m 17 ∷ m 51 ∷
    m 26 ∷ m 26 ∷ m 17 ∷ m 28 ∷ m 22 ∷ m 7 ∷ p 1 ∷ p 13 ∷
    m 41 ∷ m 4 ∷ m 7 ∷ m 59 ∷ m 4 ∷ m 32 ∷ p 38 ∷ p 37 ∷ []

abbrev pub king_ending : List ℤ
king_ending =
    m 27 ∷ m 14 ∷ m 7 ∷ p 7 ∷ p 5 ∷ p 5 ∷ m 2 ∷ m 27 ∷
    m 8 ∷ p 14 ∷ p 24 ∷ p 27 ∷ p 42 ∷ p 22 ∷ p 28 ∷ p 3 ∷
    m 9 ∷ p 29 ∷ p 31 ∷ p 45 ∷ p 53 ∷ p 31 ∷ p 32 ∷ p 11 ∷
    m 11 ∷ p 20 ∷ p 25 ∷ p 43 ∷ p 42 ∷ p 50 ∷ p 27 ∷ p 4 ∷
    m 23 ∷ m 3 ∷ p 15 ∷ p 36 ∷ p 39 ∷ p 41 ∷ p 15 ∷ m 15 ∷
    m 26 ∷ m 16 ∷ p 3 ∷ p 24 ∷ p 25 ∷ p 16 ∷ m 3 ∷ m 15 ∷
    m 10 ∷ m 23 ∷ m 20 ∷ p 7 ∷ p 20 ∷ m 1 ∷ m 18 ∷ m 30 ∷
    m 29 ∷ m 27 ∷ m 23 ∷ m 13 ∷ m 45 ∷ m 20 ∷ m 49 ∷ m 60 ∷ []
