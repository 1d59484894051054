-- The constant of 14, read by the white piece's code, is the values of the kinds. That the source's numbers are those of the rule antt
-- computes, where a proof cites these laws. Assumes nothing.
use mathlib.Core.Path.{◌≡◌, refl, ap, ◌∙◌}
use Prim.Native.Nat.{ℕ, zero, suc, ◌*◌, ◌≤◌, ◌<◌}
use native.Mathlib.Nat.{mul-le-mul}
use native.Mathlib.Omega.{arith}
use lib.ListN.{get_or}
use Rattle.laws.proofs.Tests.{entry_le}
use Rattle.chess.specs.Codes.{white_of}
use Rattle.chess.proofs.Codes.{white_le}
use Rattle.chess.specs.Values.{values, value_of}
use Rattle.score_material.specs.Material.{piece_values}

value_at : (kind : ℕ) → get_or piece_values (white_of kind) 0 ≡ value_of kind
unfolding piece_values
value_at zero = refl
value_at (suc zero) = refl
value_at (suc (suc zero)) = refl
value_at (suc (suc (suc zero))) = refl
value_at (suc (suc (suc (suc zero)))) = refl
value_at (suc (suc (suc (suc (suc zero))))) = refl
value_at (suc (suc (suc (suc (suc (suc kind)))))) = refl

-- ---- read at the code that the calls gave
module _ (kind code place : ℕ) (e : code ≡ white_of kind) (f : place ≡ code) where
  pub place_lt : place < 14
  place_lt = let h = white_le kind in omega arith

  pub value_is : get_or piece_values place 0 ≡ value_of kind
  value_is = ap (λ (i : ℕ). get_or piece_values i 0) (f ∙ e) ∙ value_at kind

-- ---- how large
pub worth_le : (n kind : ℕ) → n ≤ 64 → n * value_of kind ≤ 640000
worth_le n kind h = mul-le-mul h (entry_le 10000 values tt kind)
