-- Each door is determined by its promise: two results that it allows are equal, and so is every lent number afterwards. Assumes nothing.
use mathlib.Core.Path.{◌≡◌, ap}
use mathlib.Core.List.{List}
use Prim.Native.Nat.{ℕ}
use lib.Ieee.{Float}
use lib.IntN.{ℤ}
use Rattle.refusal.proofs.Paper.{one}
use Rattle.abi_codes.proofs.Determined.{door}
use Rattle.abi_fits.specs.Promises.{ComputesTrace, EvalsTrace, AddsGradient, StepsAdam, Ships}
use Rattle.fit_adam.specs.Adam.{Fit}
use Rattle.abi_codes.specs.declared.Code.{Code}
use Rattle.abi_states.specs.declared.State.{State as Stated}

-- ---- traces
pub compute_trace : (bitboards board : List ℕ) (state : Stated) (counts mobility : List ℤ) (sign pieces : ℤ) (entries : List ℤ)
    (r s : Code) (c d m n : List ℤ) (t u p q : ℤ) (v w : List ℤ)
    → ComputesTrace bitboards board state counts mobility sign pieces entries r c m t p v
    → ComputesTrace bitboards board state counts mobility sign pieces entries s d n u q w
    → (r ≡ s) × (c ≡ d) × (m ≡ n) × (t ≡ u) × (p ≡ q) × (v ≡ w)
compute_trace bitboards board state counts mobility sign pieces entries r s c d m n t u p q v w x y = (
  one x.code y.code,
  one x.counted y.counted,
  one x.moved y.moved,
  one x.turn y.turn,
  one x.total y.total,
  one x.marked y.marked,
)

pub trace_eval : (counts mobility : List ℤ) (sign pieces : ℤ) (entries : List ℤ) (weights squares : List Float) (value : Float) (r s : Code) (v w : Float)
    → EvalsTrace counts mobility sign pieces entries weights squares value r v
    → EvalsTrace counts mobility sign pieces entries weights squares value s w → (r ≡ s) × (v ≡ w)
trace_eval counts mobility sign pieces entries weights squares value r s v w = door

pub gradient_add : (counts mobility : List ℤ) (sign pieces : ℤ) (entries : List ℤ) (c : Float) (gradient : List Float) (r s : Code) (g h : List Float)
    → AddsGradient counts mobility sign pieces entries c gradient r g → AddsGradient counts mobility sign pieces entries c gradient s h → (r ≡ s) × (g ≡ h)
gradient_add counts mobility sign pieces entries c gradient r s g h = door

pub adam_step : (gradient m v weights : List Float) (iteration : ℕ) (rate : Float) (r s : Code) (m₁ v₁ w₁ m₂ v₂ w₂ : List Float)
    → StepsAdam gradient m v weights iteration rate r m₁ v₁ w₁ → StepsAdam gradient m v weights iteration rate s m₂ v₂ w₂
    → (r ≡ s) × (m₁ ≡ m₂) × (v₁ ≡ v₂) × (w₁ ≡ w₂)
adam_step gradient m v weights iteration rate r s m₁ v₁ w₁ m₂ v₂ w₂ p q =
    let e = one p.lent q.lent in
    (one p.code q.code, ap (λ (x : Fit). x.m) e, ap (λ (x : Fit). x.v) e, ap (λ (x : Fit). x.weights) e)

pub shipped_weights : (weights squares : List Float) (r s : Code) (v w y z : List Float)
    → Ships weights squares r v y → Ships weights squares s w z → (r ≡ s) × (v ≡ w) × (y ≡ z)
shipped_weights weights squares r s v w y z p q = (one p.code q.code, one p.lent q.lent, one p.written q.written)
