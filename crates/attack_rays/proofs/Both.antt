-- Two lines, each both ways: four rays, of which the two on which the squares fall are those of the board turned half round, turned
-- back. Assumes nothing.
use Rattle.std.proofs.Common.{◌≡◌, ℕ, ◌+◌, ◌-◌, ◌^◌, ◌<◌, ◌≤◌, [], ◌∷◌, sym, refl, ap, ◌∙◌, subst, ap₂}
use lib.Bits.{bit_or, or_lt}
use Rattle.bits.specs.Bitboard.{board}
use Rattle.bits.proofs.Lists.{board_lt, or_assoc}
use Rattle.attack_steps.specs.Steps.{Step}
use Rattle.attack_rays.specs.Rays.{path, onward, through, ray_of, dir_of, seen}
use Rattle.attack_rays.specs.PrivateMirror.{mirrored}
use Rattle.attack_rays.proofs.Paths.{no_square}
use Rattle.attack_rays.proofs.Turn.{ray_turned, mirrored_or}
use Rattle.attack_rays.proofs.Union.{four}

ray_lt : (d : Step) (s occ : ℕ) → ray_of d s occ < 2 ^ 64
unfolding ray_of
ray_lt d s occ = board_lt (through occ (path d (onward d s)))

-- the occupied squares turned are m; what is seen in the first direction and in the second, as they are and turned, is p, q, u and v
pub both : (a b s occ : ℕ) → a < 4 → b < 4 → s < 64 → (m p q u v w : ℕ)
    → m ≡ mirrored occ → p ≡ ray_of (dir_of a) s occ → q ≡ ray_of (dir_of b) s occ
    → u ≡ ray_of (dir_of a) (63 - s) m → v ≡ ray_of (dir_of b) (63 - s) m → w ≡ mirrored (bit_or u v)
    → bit_or (bit_or p q) w ≡ board (seen (dir_of a ∷ dir_of b ∷ dir_of (a + 4) ∷ dir_of (b + 4) ∷ []) s occ)
both a b s occ ha hb hs m p q u v w em ep eq eu ev ew =
    let r : ℕ = ray_of (dir_of (a + 4)) s occ in
    let t : ℕ = ray_of (dir_of (b + 4)) s occ in
    let er : mirrored u ≡ r = ap mirrored (eu ∙ ap (ray_of (dir_of a) (63 - s)) em) ∙ ray_turned a s occ ha hs in
    let et : mirrored v ≡ t = ap mirrored (ev ∙ ap (ray_of (dir_of b) (63 - s)) em) ∙ ray_turned b s occ hb hs in
    let lt : (x : ℕ) (d : Step) → x ≡ ray_of d s occ → x < 2 ^ 64 = λ x d e. subst (λ (y : ℕ). y < 2 ^ 64) (sym e) (ray_lt d s occ) in
    ap (bit_or (bit_or p q)) (ew ∙ mirrored_or u v ∙ ap₂ bit_or er et)
    ∙ or_assoc p q (bit_or r t) (lt p (dir_of a) ep) (lt q (dir_of b) eq) (or_lt 64 r t (ray_lt (dir_of (a + 4)) s occ) (ray_lt (dir_of (b + 4)) s occ))
    ∙ four (dir_of a) (dir_of b) (dir_of (a + 4)) (dir_of (b + 4)) s occ p q r t ep eq refl refl

-- nothing is seen from a square above 63
pub unseen : (a b c d : Step) (s occ : ℕ) → 64 ≤ s → 0 ≡ board (seen (a ∷ b ∷ c ∷ d ∷ []) s occ)
unseen a b c d s occ h = four a b c d s occ 0 0 0 0 (no_square a s occ h) (no_square b s occ h) (no_square c s occ h) (no_square d s occ h)
