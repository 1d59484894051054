-- No piece attacks the square that it stands on. Assumes nothing.
use mathlib.Core.Path.{◌≡◌, ◌∙◌}
use mathlib.Core.Bool.{false, and-false}
use mathlib.Core.List.{List}
use Prim.Native.Nat.{ℕ, ◌<◌}
use Rattle.bits.specs.Bitboard.{has, board}
use Rattle.bits.proofs.Those.{has_those}
use Rattle.attack_steps.specs.Steps.{reached, knight_steps, king_steps, white_pawn_steps, black_pawn_steps}
use Rattle.attack_mutual.proofs.Steps.{white_pawn_leaves, black_pawn_leaves, knight_leaves, king_leaves}
use Rattle.attack_rays.specs.Rays.{seen, straight, slanted}
use Rattle.attack_mutual.proofs.Rays.{straight_leaves, slanted_leaves}
use Rattle.attack_to.specs.Attackers.{attacking, attackers}

nothing : (bbs : List ℕ) (p q r t u w s : ℕ) → has p s ≡ false → has q s ≡ false → has r s ≡ false → has t s ≡ false → has u s ≡ false → has w s ≡ false
    → attacking bbs p q r t u w s ≡ false
nothing bbs p q r t u w s h₁ h₂ h₃ h₄ h₅ h₆ = simp (h₁, h₂, h₃, h₄, h₅, h₆, and-false)

pub not_self : (bbs : List ℕ) (s occ : ℕ) → s < 64 → has (attackers bbs s occ) s ≡ false
unfolding attackers
not_self bbs s occ h =
    has_those 64 (attacking bbs (reached black_pawn_steps s) (reached white_pawn_steps s) (reached knight_steps s) (reached king_steps s)
    (board (seen slanted s occ)) (board (seen straight s occ))) s h
    ∙ nothing bbs (reached black_pawn_steps s) (reached white_pawn_steps s) (reached knight_steps s) (reached king_steps s) (board (seen slanted s occ))
    (board (seen straight s occ)) s
    (black_pawn_leaves s h) (white_pawn_leaves s h) (knight_leaves s h) (king_leaves s h) (slanted_leaves s occ h) (straight_leaves s occ h)
