-- Each public function is determined by its promise: two answers, and two contents of each lent memory, that it allows are equal.
-- Assumes nothing.
use mathlib.Core.Path.{◌≡◌}
use mathlib.Core.List.{List}
use Prim.Native.Nat.{ℕ}
use Rattle.refusal.proofs.Paper.{one}
use Rattle.text_out.proofs.Determined.{put}
use Rattle.ledger_joined_row.specs.Promises.{text_of, TakesRow}
use Rattle.ledger_joined_row.specs.declared.TakenRow.{TakenRow}

pub take : (row : List ℕ) (number whole loaded others : ℕ) (out out₁ out₂ : List ℕ) (at : ℕ) (r s : TakenRow)
    → TakesRow out out₁ at number whole loaded others row r → TakesRow out out₂ at number whole loaded others row s → (r ≡ s) × (out₁ ≡ out₂)
take row number whole loaded others out out₁ out₂ at r s p q =
    let e = put out out₁ out₂ at (text_of number whole row) r.placed s.placed p.text q.text in
    let f = one p.kind q.kind in
    (λ i. record { kind = f i; placed = e.0 i }, e.1)
