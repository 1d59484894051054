-- The two positions that reach the bound of demand 3 (claims/proofs/Reached). Assumes nothing.
use mathlib.Core.Path.{◌≡◌, refl}
use mathlib.Core.List.{List, [], ◌∷◌}
use Prim.Native.Nat.{ℕ}
use Rattle.claims_examples.specs.Written.{bytes_of, boards_of}

-- 8/8/q7/1r3n2/k5QK/4Q3/8/1b2Q3 b
abbrev pub low : List ℕ
low =
    0xc0100010 ∷ 0x12201000002 ∷ 0 ∷ 0 ∷ 0 ∷ 0x2000000000 ∷ 0x80000000 ∷ 0x1000000 ∷ 0 ∷ 2 ∷ 0 ∷ 0x200000000 ∷ 0x40100010 ∷ 0x10000000000 ∷ []

abbrev pub low_bytes : List ℕ
low_bytes =
    0 ∷ 9 ∷ 0 ∷ 0 ∷ 12 ∷ 0 ∷ 0 ∷ 0
    ∷ 0 ∷ 0 ∷ 0 ∷ 0 ∷ 0 ∷ 0 ∷ 0 ∷ 0
    ∷ 0 ∷ 0 ∷ 0 ∷ 0 ∷ 12 ∷ 0 ∷ 0 ∷ 0
    ∷ 7 ∷ 0 ∷ 0 ∷ 0 ∷ 0 ∷ 0 ∷ 12 ∷ 6
    ∷ 0 ∷ 11 ∷ 0 ∷ 0 ∷ 0 ∷ 5 ∷ 0 ∷ 0
    ∷ 13 ∷ 0 ∷ 0 ∷ 0 ∷ 0 ∷ 0 ∷ 0 ∷ 0
    ∷ 0 ∷ 0 ∷ 0 ∷ 0 ∷ 0 ∷ 0 ∷ 0 ∷ 0
    ∷ 0 ∷ 0 ∷ 0 ∷ 0 ∷ 0 ∷ 0 ∷ 0 ∷ 0 ∷ []

-- k7/6bp/8/8/8/2n1p1qb/7K/3q4 w
abbrev pub high : List ℕ
high =
    0x8000 ∷ 0x1c0000000d40008 ∷ 0 ∷ 0x80000000100000 ∷ 0 ∷ 0x40000 ∷ 0x8000 ∷ 0x100000000000000 ∷ 0 ∷ 0x40000000800000 ∷ 0 ∷ 0 ∷ 0 ∷ 0x400008 ∷ []

abbrev pub high_bytes : List ℕ
high_bytes =
    0 ∷ 0 ∷ 0 ∷ 13 ∷ 0 ∷ 0 ∷ 0 ∷ 0
    ∷ 0 ∷ 0 ∷ 0 ∷ 0 ∷ 0 ∷ 0 ∷ 0 ∷ 6
    ∷ 0 ∷ 0 ∷ 5 ∷ 0 ∷ 3 ∷ 0 ∷ 13 ∷ 9
    ∷ 0 ∷ 0 ∷ 0 ∷ 0 ∷ 0 ∷ 0 ∷ 0 ∷ 0
    ∷ 0 ∷ 0 ∷ 0 ∷ 0 ∷ 0 ∷ 0 ∷ 0 ∷ 0
    ∷ 0 ∷ 0 ∷ 0 ∷ 0 ∷ 0 ∷ 0 ∷ 0 ∷ 0
    ∷ 0 ∷ 0 ∷ 0 ∷ 0 ∷ 0 ∷ 0 ∷ 9 ∷ 3
    ∷ 7 ∷ 0 ∷ 0 ∷ 0 ∷ 0 ∷ 0 ∷ 0 ∷ 0 ∷ []

-- ---- the boards and bytes are those of the positions that they are called
as_written : boards_of "8/8/q7/1r3n2/k5QK/4Q3/8/1b2Q3" ∷ bytes_of "8/8/q7/1r3n2/k5QK/4Q3/8/1b2Q3"
    ∷ boards_of "k7/6bp/8/8/8/2n1p1qb/7K/3q4" ∷ bytes_of "k7/6bp/8/8/8/2n1p1qb/7K/3q4" ∷ []
    ≡ low ∷ low_bytes ∷ high ∷ high_bytes ∷ []
unfolding boards_of bytes_of
as_written = refl
