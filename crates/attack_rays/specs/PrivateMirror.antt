-- The board turned half round, and squares changed in pairs: how a line is worked out. Only the rays' bodies know of this. Definitions only.
use Rattle.std.specs.Prelude.{ℕ, ◌+◌, ◌-◌, Bool, cond, not, ◌&&◌, List, nat_le}
use Rattle.std.specs.Bool.{beq}
use Rattle.laws.specs.Tests.{all_below}
use Rattle.bits.specs.Bitboard.{has, those}
use Rattle.attack_rays.specs.Rays.{path, onward, dir_of}

-- the squares from s on in a direction, to the edge of the board
unfoldable pub ahead : ℕ → ℕ → List ℕ
unfolding path onward
ahead d s = path (dir_of d) (onward (dir_of d) s)

-- W-204: "its mirror image": square k of x stands at 63 - k
unfoldable pub mirrored : ℕ → ℕ
unfolding has those
mirrored x = those 64 (λ k. has x (63 - k))

-- the square that k is changed with, where m has the lower of each two
unfoldable pub partner : ℕ → ℕ → ℕ → ℕ
unfolding has
partner n m k = cond (has m k) (n + k) (k - n)

-- m has the lower of each two squares that are n apart
unfoldable pub paired : ℕ → ℕ → Bool
unfolding has all_below
paired n m = all_below 64 (λ k. beq (nat_le n k && has m (k - n)) (not (has m k)))
