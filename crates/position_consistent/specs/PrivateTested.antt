-- What the private functions give: whole bitboards and words, where the definitions go square by square. Definitions only.
use Rattle.std.specs.Prelude.{Bool, cond, ◌&&◌, List, ℕ, ◌+◌, ◌*◌, ◌/◌, ◌%◌, ◌^◌, eqb, get_or}
use Rattle.std.specs.Int.Bits.{bit_and, bit_or}
use Rattle.laws.specs.Tests.{all_below}
use Rattle.bits.specs.Bitboard.{has, those, some}
use Rattle.position_boards.specs.Sound.{on}

-- a board where its code has a binary digit, and the empty one where it hasn't
abbrev pub chosen_by : ℕ → ℕ → ℕ → ℕ
chosen_by board code digit = cond (has code digit) board 0

-- a piece stands on square k whose code has a binary digit
unfoldable pub digit_there : List ℕ → ℕ → ℕ → Bool
digit_there bbs digit k = some 12 (λ n. has (2 + n) digit && on bbs (2 + n) k)

-- the squares of such pieces
abbrev pub plane_of : List ℕ → ℕ → ℕ
plane_of bbs digit = those 64 (digit_there bbs digit)

-- the squares of a file, moved to the first
abbrev pub first_file : ℕ → ℕ → ℕ
first_file b file = bit_and (b / 2 ^ file) 0x0101010101010101

-- four bitboards on a file as the binary digits of a number to each rank, in a byte of its own
unfoldable pub file_codes : ℕ → ℕ → ℕ → ℕ → ℕ → ℕ
file_codes ones twos fours eights file =
    bit_or
    (bit_or (first_file ones file) (first_file twos file * 2 ^ 1 % 2 ^ 64))
    (bit_or (first_file fours file * 2 ^ 2 % 2 ^ 64) (first_file eights file * 2 ^ 3 % 2 ^ 64))

-- the byte of a rank on a file is the number that the word has for the rank
abbrev pub rank_right : List ℕ → ℕ → ℕ → ℕ → Bool
rank_right bytes codes file rank = eqb (get_or bytes (8 * rank + file) 0) (codes / 2 ^ (8 * rank) % 16)

abbrev pub file_right : List ℕ → ℕ → ℕ → Bool
file_right bytes codes file = all_below 8 (rank_right bytes codes file)

-- and so on each file
abbrev pub files_right : List ℕ → ℕ → ℕ → ℕ → ℕ → Bool
files_right bytes ones twos fours eights = all_below 8 (λ file. file_right bytes (file_codes ones twos fours eights file) file)
