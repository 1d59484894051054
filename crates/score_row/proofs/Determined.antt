-- The public function is determined by its promise: two answers, and two contents of the lent memory, that it allows are equal.
-- Assumes nothing.
use mathlib.Core.Path.{◌≡◌, refl}
use mathlib.Core.List.{List, [], ◌∷◌}
use Prim.Native.Nat.{ℕ}
use Rattle.refusal.proofs.Paper.{one, answered_by_one}
use Rattle.text_out.specs.Text.{place}
use Rattle.score_collection.specs.declared.Gathered.{Gathered}
use Rattle.score_row.specs.Rows.{WritesError}
use Rattle.std.specs.Prelude.{Result, Option, Some, None}
use Rattle.refusal.specs.declared.Refusal.{Refusal}

-- answers that read the same are one
abbrev written_from : List ℕ → Option ℕ
written_from (n ∷ l) = Some n
written_from [] = None

written_back : (p : Option ℕ) → written_from (place p) ≡ p
written_back (Some n) = refl
written_back None = refl

pub write : (gathered : Gathered) (line out : List ℕ) (r s : Result (Option ℕ) Refusal) (out₁ out₂ : List ℕ)
    → WritesError gathered line out r out₁ → WritesError gathered line out s out₂ → (r ≡ s) × (out₁ ≡ out₂)
write gathered line out r s out₁ out₂ p q = (answered_by_one place written_from written_back p.answer q.answer, one p.buffer q.buffer)
