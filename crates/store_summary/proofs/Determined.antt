-- Each public function is determined by its promise: two results, and two contents of each lent memory, that it allows are equal.
-- Assumes nothing.
use mathlib.Core.Path.{◌≡◌}
use mathlib.Core.List.{List}
use Prim.Native.Nat.{ℕ}
use Rattle.refusal.specs.Answer.{Answer}
use Rattle.refusal.proofs.Paper.{one, answered_same}
use Rattle.position.specs.declared.State.{State}
use Rattle.store_summary.specs.Promises.{Store, KeepsStore, AddsRecord, ReplacesRecord}
use Rattle.std.specs.Prelude.{Result}
use Rattle.refusal.specs.declared.Refusal.{Refusal}

keeps_one : (a : Answer Store) (s : Store) (r q : Result Unit Refusal) (run₁ summary₁ run₂ summary₂ : List ℕ) → KeepsStore a s r run₁ summary₁
    → KeepsStore a s q run₂ summary₂
    → (r ≡ q) × (run₁ ≡ run₂) × (summary₁ ≡ summary₂)
keeps_one a s r q run₁ summary₁ run₂ summary₂ p o = (answered_same r q (one p.answer o.answer), one p.run o.run, one p.summary o.summary)

pub add_record : (bitboards board : List ℕ) (state : State) (half : ℕ) (run summary : List ℕ) (r q : Result Unit Refusal) (run₁ summary₁ run₂ summary₂ : List ℕ)
    → AddsRecord bitboards board state half run summary r run₁ summary₁ → AddsRecord bitboards board state half run summary q run₂ summary₂
    → (r ≡ q) × (run₁ ≡ run₂) × (summary₁ ≡ summary₂)
add_record bitboards board state half run summary r q run₁ summary₁ run₂ summary₂ = keeps_one _ _ r q run₁ summary₁ run₂ summary₂

pub replace_record : (bitboards board : List ℕ) (state : State) (half number : ℕ) (run summary : List ℕ) (r q : Result Unit Refusal) (run₁ summary₁ run₂ summary₂ : List ℕ)
    → ReplacesRecord bitboards board state half number run summary r run₁ summary₁
    → ReplacesRecord bitboards board state half number run summary q run₂ summary₂
    → (r ≡ q) × (run₁ ≡ run₂) × (summary₁ ≡ summary₂)
replace_record bitboards board state half number run summary r q run₁ summary₁ run₂ summary₂ = keeps_one _ _ r q run₁ summary₁ run₂ summary₂
