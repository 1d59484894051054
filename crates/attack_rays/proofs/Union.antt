-- What a slider sees is the union of its rays. Assumes nothing.
use Rattle.std.proofs.Common.{◌≡◌, ℕ, ◌||◌, List, [], ◌∷◌, ◌++◌, sym, refl, ap, ◌∙◌, ap₂, append_assoc}
use lib.Bits.{bit_or, or_zero_r}
use Rattle.bits.specs.Bitboard.{has, board}
use Rattle.bits.proofs.Digits.{has_or}
use Rattle.bits.proofs.Lists.{board_nil, board_append}
use Rattle.attack_steps.specs.Steps.{Step}
use Rattle.attack_rays.specs.Rays.{onward, path, through, ray_of, seen, straight, slanted}

-- one more direction
seen_cons : (d : Step) (ds : List Step) (s occ : ℕ) → bit_or (ray_of d s occ) (board (seen ds s occ)) ≡ board (seen (d ∷ ds) s occ)
unfolding seen ray_of
seen_cons d ds s occ = sym (board_append (through occ (path d (onward d s))) (seen ds s occ))

seen_one : (d : Step) (s occ : ℕ) → ray_of d s occ ≡ board (seen (d ∷ []) s occ)
unfolding seen
seen_one d s occ = sym (or_zero_r (ray_of d s occ)) ∙ ap (bit_or (ray_of d s occ)) (sym board_nil) ∙ seen_cons d [] s occ

pub four : (a b c d : Step) (s occ p q r t : ℕ) → p ≡ ray_of a s occ → q ≡ ray_of b s occ → r ≡ ray_of c s occ → t ≡ ray_of d s occ
    → bit_or p (bit_or q (bit_or r t)) ≡ board (seen (a ∷ b ∷ c ∷ d ∷ []) s occ)
four a b c d s occ p q r t ep eq er et =
    ap₂ bit_or ep (ap₂ bit_or eq (ap₂ bit_or er (et ∙ seen_one d s occ) ∙ seen_cons c (d ∷ []) s occ) ∙ seen_cons b (c ∷ d ∷ []) s occ)
    ∙ seen_cons a (b ∷ c ∷ d ∷ []) s occ

-- the directions of two lists together
together : (ds es : List Step) (s occ : ℕ) → seen ds s occ ++ seen es s occ ≡ seen (ds ++ es) s occ
unfolding seen
together [] es s occ = refl
together (d ∷ ds) es s occ =
    append_assoc (through occ (path d (onward d s))) (seen ds s occ) (seen es s occ)
    ∙ ap (λ (l : List ℕ). through occ (path d (onward d s)) ++ l) (together ds es s occ)

pub seen_append : (ds es : List Step) (s occ : ℕ) → bit_or (board (seen ds s occ)) (board (seen es s occ)) ≡ board (seen (ds ++ es) s occ)
seen_append ds es s occ = sym (board_append (seen ds s occ) (seen es s occ)) ∙ ap board (together ds es s occ)

-- a queen's squares are a rook's and a bishop's
pub has_queen : (s occ k : ℕ) → has (board (seen (straight ++ slanted) s occ)) k ≡ (has (board (seen straight s occ)) k || has (board (seen slanted s occ)) k)
has_queen s occ k = sym (ap (λ (b : ℕ). has b k) (seen_append straight slanted s occ)) ∙ has_or (board (seen straight s occ)) (board (seen slanted s occ)) k
