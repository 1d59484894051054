-- Each public function is determined by its promise: two results and buffers that it allows are equal. Assumes nothing.
use mathlib.Core.Path.{◌≡◌}
use mathlib.Core.List.{List}
use Prim.Native.Nat.{ℕ}
use Rattle.refusal.proofs.Paper.{one}
use Rattle.store_cut.specs.Promises.{EndsPieces, CutsPiece}
use Rattle.store_cut.specs.declared.CutPiece.{CutPiece}

pub ends : (held more r s : ℕ) → EndsPieces held more r → EndsPieces held more s → r ≡ s
ends held more r s p q = one p q

pub next : (held : ℕ) (piece chunk : List ℕ) (from : ℕ) (r s : CutPiece) (piece₁ piece₂ : List ℕ)
    → CutsPiece held piece chunk from r piece₁ → CutsPiece held piece chunk from s piece₂ → (r ≡ s) × (piece₁ ≡ piece₂)
next held piece chunk from r s piece₁ piece₂ p q = (one p.answer q.answer, one p.kept q.kept)
