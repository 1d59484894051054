-- The occupancy of a rising way, o, against o less twice the slider, wrapped: the squares on which they differ and that stand on the way
-- are those that the slider sees. Assumes nothing.
use Rattle.std.proofs.Common.{◌≡◌, ℕ, zero, suc, ◌+◌, ◌-◌, ◌*◌, ◌/◌, ◌%◌, ◌^◌, ◌<◌, ◌≤◌, Bool, true, false, not, ◌&&◌, T, leb, List, sym, refl, ap, ◌∙◌, subst, ap₂, le_of_suc-le-suc, not-suc-le-zero, mul_comm, pow-suc, arith, le→leb, pow_mono}
use mathlib.Core.Bool.{beq, and-false}
use lib.Bits.{bit_and, bit_xor, and_lt, xor_lt}
use Rattle.bits.specs.Bitboard.{has, is_in, board}
use Rattle.bits.proofs.Digits.{has_and, has_xor, has_mod, has_shr, has_half_holds}
use Rattle.bits.proofs.Lists.{has_board, is_board, board_lt}
use Rattle.laws.proofs.Truth.{and_l, and_r, and_i, not_i, not_e, iff}
use Rattle.attack_rays.specs.Rays.{through}
use Rattle.attack_rays.proofs.Borrow.{clear_to, borrowed}
use Rattle.attack_rays.proofs.Rising.{rises, Free, above, seen_is, is_seen}

no_left : (a b : Bool) → (a && b) ≡ false → T b → a ≡ false
no_left true true e t = e
no_left true false e t = absurd t
no_left false b e t = refl

-- `clear_to`, digit by digit
clear_at : (j h i : ℕ) → T (clear_to j h) → i < j → has h i ≡ false
clear_at zero h i t l = absurd (not-suc-le-zero l)
clear_at (suc j) h zero t l = not_e (has h 0) (and_l (not (has h 0)) (clear_to j (h / 2)) t)
clear_at (suc j) h (suc i) t l = has_half_holds h i ∙ clear_at j (h / 2) i (and_r (not (has h 0)) (clear_to j (h / 2)) t) (le_of_suc-le-suc l)

is_clear : (j h : ℕ) → ((i : ℕ) → i < j → has h i ≡ false) → T (clear_to j h)
is_clear zero h f = tt
is_clear (suc j) h f =
    and_i (not (has h 0)) (clear_to j (h / 2)) (not_i (has h 0) (f 0 (omega arith)))
    (is_clear j (h / 2) (λ i l. sym (has_half_holds h i) ∙ f (suc i) (Prim.Native.Nat.suc-le-suc l)))

-- the wrapped difference of o and p, which is at most 2 ^ 64, as a difference of numbers
unwrap : (o w p : ℕ) → o < 2 ^ 64 → w < 2 ^ 64 → p ≤ 2 ^ 64 → (w + p % 2 ^ 64) % 2 ^ 64 ≡ o → w ≡ (o + 2 ^ 64 - p) % 2 ^ 64
unwrap o w p ho hw hp e = omega arith

-- o has the occupied squares of the way among those above s; what else it has, at s or below, changes nothing
module _ (occ s : ℕ) (l : List ℕ) (hs : s < 64) (r : T (rises s l)) (o : ℕ) (ho : o < 2 ^ 64)
    (above-s : (j : ℕ) → s < j → j < 64 → has o j ≡ (has occ j && is_in j l))
    (w : ℕ) (hw : w < 2 ^ 64) (ew : (w + 2 * 2 ^ s % 2 ^ 64) % 2 ^ 64 ≡ o) where
  big : ℕ
  big = o + 2 ^ 64

  twice : 2 * 2 ^ s ≡ 2 ^ suc s
  twice = mul_comm 2 (2 ^ s) ∙ sym (pow-suc 2 s)

  small : 2 ^ suc s ≤ 2 ^ 64
  small = pow_mono hs

  at : (j : ℕ) → s < j → j < 64 → has big j ≡ (has occ j && is_in j l)
  unfolding big
  at j l h =
      let e : (o + 2 ^ 64) % 2 ^ 64 ≡ o = omega (arith, ho) in
      sym (has_mod 64 (o + 2 ^ 64) j h) ∙ ap (λ (x : ℕ). has x j) e ∙ above-s j l h

  differ : (k : ℕ) → k < 64 → has (bit_xor o w) k ≡ (leb (suc s) k && clear_to (k - suc s) (big / 2 ^ suc s))
  unfolding big
  differ k h =
      let e₁ : o ≡ big % 2 ^ 64 = omega (arith, ho) in
      let e₂ : w ≡ (big - 2 ^ suc s) % 2 ^ 64 =
      unwrap o w (2 ^ suc s) ho hw small (ap (λ (x : ℕ). (w + x % 2 ^ 64) % 2 ^ 64) (sym twice) ∙ ew) in
      ap (λ (x : ℕ). has x k) (ap₂ bit_xor e₁ e₂) ∙ has_xor (big % 2 ^ 64) ((big - 2 ^ suc s) % 2 ^ 64) k
      ∙ ap₂ (λ (x y : Bool). not (beq x y)) (has_mod 64 big k h) (has_mod 64 (big - 2 ^ suc s) k h)
      ∙ sym (has_xor big (big - 2 ^ suc s) k) ∙ borrowed (suc s) k big (omega (arith, small))

  pub sees : bit_and (bit_xor o w) (board l) ≡ board (through occ l)
  sees =
      is_board (bit_and (bit_xor o w) (board l)) (through occ l)
      (and_lt 64 (bit_xor o w) (board l) (xor_lt 64 o w ho hw) (board_lt l))
      (λ k h. has_and (bit_xor o w) (board l) k ∙ ap₂ (λ (x y : Bool). x && y) (differ k h) (has_board l k h)
      ∙ iff (lhs k) (is_in k (through occ l)) (to k h) (from k h))
    where
      lhs : ℕ → Bool
      lhs k = (leb (suc s) k && clear_to (k - suc s) (big / 2 ^ suc s)) && is_in k l

      to : (k : ℕ) → k < 64 → T (lhs k) → T (is_in k (through occ l))
      to k h t =
          let a = leb (suc s) k in
          let b = clear_to (k - suc s) (big / 2 ^ suc s) in
          let i : T (is_in k l) = and_r (a && b) (is_in k l) t in
          let c : T b = and_r a b (and_l (a && b) (is_in k l) t) in
          is_seen occ s k l r i
          (λ q iq lt.
          let sq : s < q = above s q l r iq in
          let e : suc s + (q - suc s) ≡ q = omega arith in
          no_left (has occ q) (is_in q l)
          (sym (at q sq (omega arith)) ∙ ap (has big) (sym e) ∙ sym (has_shr big (suc s) (q - suc s))
          ∙ clear_at (k - suc s) (big / 2 ^ suc s) (q - suc s) c (omega arith))
          iq)

      from : (k : ℕ) → k < 64 → T (is_in k (through occ l)) → T (lhs k)
      from k h t =
          let v = seen_is occ s k l r t in
          let sk : s < k = above s k l r v.0 in
          let a = leb (suc s) k in
          let b = clear_to (k - suc s) (big / 2 ^ suc s) in
          and_i (a && b) (is_in k l)
          (and_i a b (le→leb (suc s) k sk)
          (is_clear (k - suc s) (big / 2 ^ suc s)
          (λ i li. has_shr big (suc s) i ∙ at (suc s + i) (omega arith) (omega arith) ∙ free (suc s + i) (omega arith) v.1)))
          v.0
        where
          free : (j : ℕ) → j < k → Free occ k l → (has occ j && is_in j l) ≡ false
          free j lj f = go (is_in j l) refl
            where
              go : (b : Bool) → is_in j l ≡ b → (has occ j && is_in j l) ≡ false
              go true e = ap₂ (λ (x y : Bool). x && y) (f j (subst T (sym e) tt) lj) e
              go false e = ap (λ (y : Bool). has occ j && y) e ∙ and-false (has occ j)
