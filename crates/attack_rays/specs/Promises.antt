-- What each function promises, for all inputs. Definitions only.
use Rattle.std.specs.Prelude.{◌≡◌, ℕ, ◌++◌}
use Rattle.bits.specs.Bitboard.{board}
use Rattle.attack_rays.specs.Rays.{ray_of, dir_of, seen, straight, slanted}

abbrev pub Rays : ℕ → ℕ → ℕ → ℕ → Type 0
Rays d s occ r = r ≡ ray_of (dir_of d) s occ

abbrev pub Bishops : ℕ → ℕ → ℕ → Type 0
Bishops s occ r = r ≡ board (seen slanted s occ)

abbrev pub Rooks : ℕ → ℕ → ℕ → Type 0
Rooks s occ r = r ≡ board (seen straight s occ)

abbrev pub Queens : ℕ → ℕ → ℕ → Type 0
Queens s occ r = r ≡ board (seen (straight ++ slanted) s occ)
