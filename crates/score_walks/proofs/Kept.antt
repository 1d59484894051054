-- A walk over a bitboard's squares that adds a number at each: the sum so far, with the squares that are left added, is the whole, and has room.
-- Assumes nothing.
use mathlib.Core.Path.{◌≡◌, refl, sym, ap, ◌∙◌}
use mathlib.Core.List.{[], ◌∷◌}
use Prim.Native.Nat.{ℕ, ◌+◌, ◌*◌, ◌^◌, ◌<◌, ◌≤◌}
use native.Mathlib.Nat.{mul-suc, mul-le-mul, le_refl}
use native.Mathlib.Omega.{arith}
use lib.ListN.{length}
use Rattle.laws.specs.Sums.{counted}
use Rattle.laws.proofs.Sums.{counted_none, counted_one}
use Rattle.bits.specs.Bitboard.{squares}
use Rattle.bits.proofs.Squares.{squares_le}

-- f is what is added at a square, most the most that it is
pub record Kept (most : ℕ) (f : ℕ → ℕ) (pieces sum rest : ℕ) : Type 0 where
  pub fits : rest < 2 ^ 64
  pub whole : counted f sum (squares rest) ≡ counted f 0 (squares pieces)
  pub room : sum + most * length (squares rest) ≤ most * 64

module _ (most : ℕ) (f : ℕ → ℕ) (pieces : ℕ) where
  pub begun : pieces < 2 ^ 64 → Kept most f pieces 0 pieces
  begun h = let l = mul-le-mul (le_refl most) (squares_le pieces) in record { fits = h; whole = refl; room = omega arith }

  module _ (sum rest : ℕ) (k : Kept most f pieces sum rest) where
    -- a turn: the square s comes
    module _ (s r v : ℕ) (e : squares rest ≡ s ∷ squares r) (l : v ≤ most) where
      grown : sum + v + most * length (squares r) ≤ most * 64
      grown =
          let n : most * length (squares rest) ≡ most * length (squares r) + most = ap (λ x. most * length x) e ∙ mul-suc most (length (squares r)) in
          let m = k.room in
          omega arith

      pub has_room : sum + v ≤ most * 64
      has_room = let g = grown in omega arith

      pub more : r < 2 ^ 64 → v ≡ f s → Kept most f pieces (sum + v) r
      more h ev = record {
        fits = h;
        whole = ap (λ (x : ℕ). counted f (sum + x) (squares r)) ev ∙ sym (counted_one f sum s (squares r)) ∙ sym (ap (counted f sum) e) ∙ k.whole;
        room = grown;
      }

    -- the end: no square is left
    pub over : squares rest ≡ [] → sum ≡ counted f 0 (squares pieces)
    over e = sym (counted_none f sum) ∙ sym (ap (counted f sum) e) ∙ k.whole

    pub within : sum ≤ most * 64
    within = let m = k.room in omega arith
