-- The attackers as the code puts them together: digit by digit, `&` and `|` are the definition's `&&` and `||`. Assumes nothing.
use mathlib.Core.Path.{◌≡◌, sym, ◌∙◌}
use mathlib.Core.Bool.{Bool, false, ◌||◌, ◌&&◌, and-false}
use mathlib.Core.List.{List}
use Prim.Native.Nat.{ℕ, ◌^◌, ◌<◌, ◌≤◌}
use native.Mathlib.Nat.{lt_of_le_of_lt}
use lib.Bits.{bit_and, bit_or, and_le_r, or_lt}
use lib.Dec.{lit<}
use Rattle.bits.specs.Bitboard.{has, those, board}
use Rattle.bits.proofs.Digits.{has_or, has_and, has_zero}
use Rattle.bits.proofs.Lists.{board_lt}
use Rattle.bits.proofs.Those.{is_those}
use Rattle.attack_rays.specs.Rays.{seen, straight, slanted, north, east, south, west, north_west, north_east, south_east, south_west}
use Rattle.attack_rays.proofs.Both.{unseen}
use Rattle.attack_steps.specs.Steps.{reached, steps_of, knight_steps, king_steps, white_pawn_steps, black_pawn_steps}
use Rattle.attack_steps.proofs.Tables.{reached_off}
use Rattle.attack.specs.Attacks.{standing}
use Rattle.attack_to.specs.Attackers.{attacking, attackers}

cut : (x y : ℕ) → y < 2 ^ 64 → bit_and x y < 2 ^ 64
cut x y h = lt_of_le_of_lt (and_le_r x y) h

module _ (a b c d e f p q r s t u : ℕ) where
  abbrev six : ℕ
  six = bit_or (bit_and a p) (bit_or (bit_and b q) (bit_or (bit_and c r) (bit_or (bit_and d s) (bit_or (bit_and e t) (bit_and f u)))))

  abbrev one_of : ℕ → Bool
  one_of k = (has a k && has p k) || ((has b k && has q k) || ((has c k && has r k) || ((has d k && has s k) || ((has e k && has t k) || (has f k && has u k)))))

  digits : (k : ℕ) → has six k ≡ one_of k
  digits k = simp (has_or, has_and)

  six_is : p < 2 ^ 64 → q < 2 ^ 64 → r < 2 ^ 64 → s < 2 ^ 64 → t < 2 ^ 64 → u < 2 ^ 64 → six ≡ those 64 one_of
  six_is hp hq hr hs ht hu =
      is_those six one_of
      (or_lt 64 _ _ (cut a p hp) (or_lt 64 _ _ (cut b q hq) (or_lt 64 _ _ (cut c r hr) (or_lt 64 _ _ (cut d s hs) (or_lt 64 _ _ (cut e t ht) (cut f u hu))))))
      (λ k h. digits k)

-- the pieces of a kind, of both colours
abbrev pub both_of : List ℕ → ℕ → ℕ
both_of bbs kind = bit_or (standing bbs kind 0) (standing bbs kind 1)

module _ (bbs : List ℕ) (s occ : ℕ) where
  joined : reached (steps_of 1) s < 2 ^ 64 → reached (steps_of 0) s < 2 ^ 64 → reached (steps_of 2) s < 2 ^ 64 → reached (steps_of 3) s < 2 ^ 64
      → six (standing bbs 0 0) (standing bbs 0 1) (both_of bbs 1) (both_of bbs 5) (bit_or (both_of bbs 2) (both_of bbs 4)) (bit_or (both_of bbs 3) (both_of bbs 4))
      (reached (steps_of 1) s) (reached (steps_of 0) s) (reached (steps_of 2) s) (reached (steps_of 3) s) (board (seen slanted s occ)) (board (seen straight s occ))
      ≡ attackers bbs s occ
  unfolding attackers
  joined h₁ h₂ h₃ h₄ =
      simp has_or at
      (six_is (standing bbs 0 0) (standing bbs 0 1) (both_of bbs 1) (both_of bbs 5) (bit_or (both_of bbs 2) (both_of bbs 4)) (bit_or (both_of bbs 3) (both_of bbs 4))
      (reached (steps_of 1) s) (reached (steps_of 0) s) (reached (steps_of 2) s) (reached (steps_of 3) s) (board (seen slanted s occ)) (board (seen straight s occ))
      h₁ h₂ h₃ h₄ (board_lt (seen slanted s occ)) (board_lt (seen straight s occ)))

  -- the same of what the calls gave
  pub gathered : (a b c d e f q p₁ p₂ p₃ p₄ p₅ p₆ : ℕ)
      → p₁ < 2 ^ 64 → p₂ < 2 ^ 64 → p₃ < 2 ^ 64 → p₄ < 2 ^ 64
      → a ≡ standing bbs 0 0 → p₁ ≡ reached (steps_of 1) s → b ≡ standing bbs 0 1 → p₂ ≡ reached (steps_of 0) s → c ≡ both_of bbs 1 → p₃ ≡ reached (steps_of 2) s
      → d ≡ both_of bbs 5 → p₄ ≡ reached (steps_of 3) s → q ≡ both_of bbs 4 → e ≡ both_of bbs 2 → p₅ ≡ board (seen slanted s occ) → f ≡ both_of bbs 3
      → p₆ ≡ board (seen straight s occ)
      → six a b c d (bit_or e q) (bit_or f q) p₁ p₂ p₃ p₄ p₅ p₆ ≡ attackers bbs s occ
  gathered a b c d e f q p₁ p₂ p₃ p₄ p₅ p₆ l₁ l₂ l₃ l₄ h₁ h₂ h₃ h₄ h₅ h₆ h₇ h₈ h₉ h₁₀ h₁₁ h₁₂ h₁₃ =
      rw (h₁, h₂, h₃, h₄, h₅, h₆, h₇, h₈, h₉, h₁₀, h₁₁, h₁₂, h₁₃)
      (joined (rw h₂ at l₁) (rw h₄ at l₂) (rw h₆ at l₃) (rw h₈ at l₄))

-- a square above 63 is reached from nowhere
nothing : (bbs : List ℕ) (k : ℕ) → attacking bbs 0 0 0 0 0 0 k ≡ false
nothing bbs k = simp (has_zero, and-false)

pub beyond : (bbs : List ℕ) (s occ : ℕ) → 64 ≤ s → 0 ≡ attackers bbs s occ
unfolding attackers
beyond bbs s occ h =
    rw (
      reached_off black_pawn_steps s h,
      reached_off white_pawn_steps s h,
      reached_off knight_steps s h,
      reached_off king_steps s h,
      sym (unseen north_west north_east south_east south_west s occ h),
      sym (unseen north east south west s occ h),
    )
    (is_those 0 (attacking bbs 0 0 0 0 0 0) (lit< tt) (λ k l. has_zero k ∙ sym (nothing bbs k)))
