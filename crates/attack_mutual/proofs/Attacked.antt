-- Attacked means: on a consistent position a square is attacked exactly where some piece of the colour other than the one named attacks it from where it
-- stands. The definition looks from the square; this law looks from each piece. Assumes nothing.
use mathlib.Core.Path.{◌≡◌, refl, ap, ◌∙◌}
use mathlib.Core.Bool.{Bool, true, false, cond, ◌&&◌, and_comm, and-false}
use mathlib.Core.List.{List}
use Prim.Native.Nat.{ℕ, ◌<◌}
use native.Mathlib.Omega.{arith}
use lib.Dec.{eqb}
use lib.ListN.{get_or}
use borrow.Author.Tests.{lt-ltb}
use Rattle.laws.proofs.Truth.{true_T}
use Rattle.chess.specs.Codes.{is_piece, kind_of, colour_of}
use Rattle.bits.specs.Bitboard.{has, some}
use Rattle.bits.proofs.Some.{some_same}
use Rattle.position_boards.specs.Sound.{on}
use Rattle.position_consistent.specs.Consistent.{consistent}
use Rattle.position_boards.specs.Boards.{stands_on}
use Rattle.position_consistent.proofs.Only.{every_board}
use Rattle.attack.specs.Attacks.{other, occupied, attacks}
use Rattle.attack.proofs.Other.{other_lt}
use Rattle.attack_to.specs.Attackers.{attackers, is_attacked}
use Rattle.attack_mutual.proofs.Back.{back, stands_alone}

-- the byte on k is a piece of this colour, and the piece attacks s
abbrev pub hits : List ℕ → ℕ → ℕ → ℕ → ℕ → Bool
hits bytes occ colour s k =
    let piece : ℕ = get_or bytes k 0 in
    (is_piece piece && eqb (colour_of piece) colour) && has (attacks (kind_of piece) (colour_of piece) k occ) s

module _ (bbs bytes : List ℕ) (e : consistent bbs bytes ≡ true) where
  from_each : (occ colour s k : ℕ) → colour < 2 → s < 64 → k < 64 → (has (attackers bbs s occ) k && on bbs colour k) ≡ hits bytes occ colour s k
  from_each occ colour s k hc hs hk =
      ap (λ (t : Bool). has (attackers bbs s occ) k && t) (every_board bbs bytes e k colour hk (omega arith) ∙ side)
      ∙ go (is_piece (get_or bytes k 0)) refl
    where
      side : stands_on (get_or bytes k 0) colour ≡ (is_piece (get_or bytes k 0) && eqb (colour_of (get_or bytes k 0)) colour)
      side = ap (λ (t : Bool). is_piece (get_or bytes k 0) && cond t (eqb (colour_of (get_or bytes k 0)) colour) (eqb (get_or bytes k 0) colour)) (lt-ltb colour 2 hc)

      go : (t : Bool) → is_piece (get_or bytes k 0) ≡ t
          → (has (attackers bbs s occ) k && (t && eqb (colour_of (get_or bytes k 0)) colour))
          ≡ ((t && eqb (colour_of (get_or bytes k 0)) colour) && has (attacks (kind_of (get_or bytes k 0)) (colour_of (get_or bytes k 0)) k occ) s)
      go true q =
          and_comm (has (attackers bbs s occ) k) (eqb (colour_of (get_or bytes k 0)) colour)
          ∙ ap (λ (t : Bool). eqb (colour_of (get_or bytes k 0)) colour && t) (back bbs (get_or bytes k 0) k s occ (stands_alone bbs bytes k e hk (true_T q)) hk hs)
      go false q = and-false (has (attackers bbs s occ) k)

  pub attacked_means : (s colour : ℕ) → s < 64 → is_attacked bbs s colour ≡ some 64 (hits bytes (occupied bbs) (other colour) s)
  unfolding is_attacked
  attacked_means s colour hs =
      some_same 64 (λ k. has (attackers bbs s (occupied bbs)) k && on bbs (other colour) k) (hits bytes (occupied bbs) (other colour) s)
      (λ k hk. from_each (occupied bbs) (other colour) s k (other_lt colour) hs hk)
