-- Rays, and what a slider sees (document 01: "A ray goes on up to and including the first occupied square, whichever colour stands
-- there"). Definitions only.
use Rattle.std.specs.Prelude.{ℕ, zero, suc, ◌+◌, ◌-◌, ◌*◌, ◌/◌, ◌%◌, cond, ◌&&◌, List, [], ◌∷◌, ◌++◌, nat_le, nat_lt, slice_index_or}
use Rattle.bits.specs.Bitboard.{has, board}
use Rattle.attack_steps.specs.Steps.{Step, ne, nw, se, sw}

-- the square one step on from s; 64 where the step leaves the board, or s stands beyond it
unfoldable pub onward : Step → ℕ → ℕ
onward d s =
    let f : ℕ = s % 8 + d.right in
    let r : ℕ = s / 8 + d.up in
    cond (nat_lt s 64 && nat_le d.left f && nat_lt f (8 + d.left) && nat_le d.down r && nat_lt r (8 + d.down)) ((r - d.down) * 8 + (f - d.left)) 64

-- n squares from t on, as far as they stand on the board
unfoldable pub path_from : ℕ → Step → ℕ → List ℕ
unfolding onward
path_from zero d t = []
path_from (suc n) d t = let rest : List ℕ = path_from n d (onward d t) in cond (nat_lt t 64) (t ∷ rest) []

-- the whole way from t on, t itself first: no way on the board is longer than 8
unfoldable pub path : Step → ℕ → List ℕ
unfolding path_from
path d t = path_from 8 d t

-- a list's squares "up to and including the first" that stands in occ
unfoldable pub through : ℕ → List ℕ → List ℕ
unfolding has
through occ [] = []
through occ (q ∷ qs) = let rest : List ℕ = through occ qs in q ∷ cond (has occ q) [] rest

-- the ray from s, s itself not in it; empty from a square above 63
unfoldable pub ray_of : Step → ℕ → ℕ → ℕ
unfolding through path board
ray_of d s occ = board (through occ (path d (onward d s)))

-- ---- the eight directions, numbered: on the first four the squares rise, and each of the others is opposite to the one four before it
abbrev pub north : Step
north = ne 0 1

abbrev pub east : Step
east = ne 1 0

abbrev pub north_west : Step
north_west = nw 1 1

abbrev pub north_east : Step
north_east = ne 1 1

abbrev pub south : Step
south = se 0 1

abbrev pub west : Step
west = nw 1 0

abbrev pub south_east : Step
south_east = se 1 1

abbrev pub south_west : Step
south_west = sw 1 1

-- a number past the eight leads off the board at once
abbrev pub nowhere : Step
nowhere = ne 8 0

abbrev pub dir_of : ℕ → Step
dir_of d = slice_index_or (north ∷ east ∷ north_west ∷ north_east ∷ south ∷ west ∷ south_east ∷ south_west ∷ []) d nowhere

-- ---- sliders
abbrev pub straight : List Step
straight = north ∷ east ∷ south ∷ west ∷ []

abbrev pub slanted : List Step
slanted = north_west ∷ north_east ∷ south_east ∷ south_west ∷ []

-- the squares seen from s in each of the directions ds
unfoldable pub seen : List Step → ℕ → ℕ → List ℕ
unfolding through path
seen [] s occ = []
seen (d ∷ ds) s occ = through occ (path d (onward d s)) ++ seen ds s occ
