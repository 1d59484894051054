-- The door is determined by its promise: two results that it allows are equal, and so is each lent number afterwards. Assumes nothing.
use mathlib.Core.Path.{◌≡◌}
use Prim.Native.Nat.{ℕ}
use lib.Ieee.{Float}
use Rattle.abi_codes.proofs.Determined.{doors}
use Rattle.abi_codes.specs.declared.Code.{Code}
use Rattle.abi_coefficients.specs.Promises.{WeighsByTable}

pub table_coefficient : (value : Float) (half : ℕ) (k : Float) (lines : ℕ) (expected coefficient : Float) (r s : Code) (e f c d : Float)
    → WeighsByTable value half k lines expected coefficient r e c → WeighsByTable value half k lines expected coefficient s f d → (r ≡ s) × (e ≡ f) × (c ≡ d)
table_coefficient value half k lines expected coefficient r s e f c d = doors
