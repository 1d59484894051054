-- From a square above 63 no ray goes out, and none in a direction past the eight. Assumes nothing.
use Rattle.std.proofs.Common.{◌≡◌, ℕ, ◌+◌, ◌%◌, ◌≤◌, [], ◌∷◌, sym, ap, ◌∙◌, arith, le-ltb}
use mathlib.Core.Bool.{and-false}
use lib.ListN.{get_or-eq_default}
use Rattle.bits.specs.Bitboard.{board}
use Rattle.attack_steps.specs.Steps.{Step}
use Rattle.attack_rays.specs.Rays.{onward, path, through, ray_of, dir_of, nowhere, north, east, north_west, north_east, south, west, south_east, south_west}

off : (d : Step) (s : ℕ) → 64 ≤ s → onward d s ≡ 64
unfolding onward
off d s h = simp (le-ltb s 64 h)

beyond : (s : ℕ) → onward nowhere s ≡ 64
unfolding onward
beyond s = simp (le-ltb (s % 8 + 8) 8 (omega arith), and-false)

none : (d : Step) (s occ : ℕ) → onward d s ≡ 64 → 0 ≡ ray_of d s occ
unfolding ray_of
none d s occ e = sym (ap (λ (t : ℕ). board (through occ (path d t))) e)

pub no_square : (d : Step) (s occ : ℕ) → 64 ≤ s → 0 ≡ ray_of d s occ
no_square d s occ h = none d s occ (off d s h)

pub no_direction : (d s occ : ℕ) → 8 ≤ d → 0 ≡ ray_of (dir_of d) s occ
no_direction d s occ h =
    none nowhere s occ (beyond s)
    ∙ ap (λ (e : Step). ray_of e s occ) (sym (get_or-eq_default (north ∷ east ∷ north_west ∷ north_east ∷ south ∷ west ∷ south_east ∷ south_west ∷ []) nowhere h))
