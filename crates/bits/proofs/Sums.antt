-- Two sums over a bitboard's squares are one where their terms agree on the board. Assumes nothing.
use mathlib.Core.Path.{◌≡◌, refl, ap, ◌∙◌}
use mathlib.Core.Bool.{Bool, true, false, cond}
use mathlib.Core.List.{◌∷◌}
use Prim.Native.Nat.{ℕ, zero, suc, ◌+◌, ◌<◌}
use native.Mathlib.Omega.{arith}
use Rattle.laws.specs.Sums.{counted}
use Rattle.bits.specs.Bitboard.{has, squares_from, squares}

counted_from : (f g : ℕ → ℕ) (n k b a : ℕ) → ((s : ℕ) → s < k + n → f s ≡ g s) → counted f a (squares_from n k b) ≡ counted g a (squares_from n k b)
unfolding counted squares_from
counted_from f g zero k b a e = refl
counted_from f g (suc n) k b a e = pick (has b k) (λ z. counted_from f g n (suc k) b z (λ s h. e s (omega arith)))
  where
    pick : (t : Bool) → ((z : ℕ) → counted f z (squares_from n (suc k) b) ≡ counted g z (squares_from n (suc k) b))
        → counted f a (cond t (k ∷ squares_from n (suc k) b) (squares_from n (suc k) b))
        ≡ counted g a (cond t (k ∷ squares_from n (suc k) b) (squares_from n (suc k) b))
    pick true rest = ap (λ (x : ℕ). counted f (a + x) (squares_from n (suc k) b)) (e k (omega arith)) ∙ rest (a + g k)
    pick false rest = rest a

pub counted_squares : (f g : ℕ → ℕ) (b a : ℕ) → ((s : ℕ) → s < 64 → f s ≡ g s) → counted f a (squares b) ≡ counted g a (squares b)
unfolding squares
counted_squares f g b a e = counted_from f g 64 0 b a (λ s h. e s (omega arith))
