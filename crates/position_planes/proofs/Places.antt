-- The table of 15: where it has a byte, and what stands there. Assumes nothing.
use mathlib.Core.Path.{◌≡◌, refl, ap, ◌∙◌}
use mathlib.Core.Bool.{Bool, true, false, cond, ◌&&◌, and-false}
use Prim.Native.Nat.{ℕ, ◌≤◌, ◌<◌}
use native.Mathlib.Omega.{arith}
use lib.Dec.{leb, ltb}
use borrow.Author.Tests.{lt-leb, ltb-true, ltb-false}
use Rattle.chess.specs.Codes.{is_piece}
use Rattle.position_planes.specs.Sorted.{table_place}

-- ---- a byte is below 14, or it is no code
pub by_place : (P : ℕ → ℕ → Type 0) → ((b : ℕ) → b < 14 → P b b) → ((b : ℕ) → 14 ≤ b → P b 14) → (byte : ℕ) → P byte (table_place byte)
by_place P code last byte = go (ltb byte 14) refl
  where
    go : (t : Bool) → ltb byte 14 ≡ t → P byte (cond t byte 14)
    go true e = code byte (ltb-true byte 14 e)
    go false e = last byte (ltb-false byte 14 e)

pub no_piece : (byte : ℕ) → 14 ≤ byte → is_piece byte ≡ false
no_piece byte h = ap (λ (t : Bool). leb 2 byte && t) (lt-leb byte 13 (omega arith)) ∙ and-false (leb 2 byte)
