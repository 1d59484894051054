-- What each function answers and promises, for all inputs. Definitions only.
use Rattle.std.specs.Prelude.{◌≡◌, List, ℕ, ◌*◌, ℤ, Result}
use Rattle.refusal.specs.Answer.{answered}
use Rattle.position.specs.declared.State.{State}
use Rattle.score_material.specs.Pieces.{count}
use Rattle.score_material.specs.Material.{worth, pair, pair_value, material_of}
use Rattle.refusal.specs.declared.Refusal.{Refusal}

abbrev pub EvalsMaterial : List ℕ → List ℕ → State → ℕ → Result ℤ Refusal → Type 0
EvalsMaterial bitboards board state colour r = answered r ≡ material_of bitboards board state colour

-- ---- the inner functions, on any bitboards
abbrev pub CountsKind : List ℕ → ℕ → ℕ → ℕ → Type 0
CountsKind bitboards kind colour r = r ≡ count bitboards kind colour

abbrev pub SideWorth : List ℕ → ℕ → ℕ → Type 0
SideWorth bitboards colour r = r ≡ worth bitboards colour

abbrev pub Pairs : List ℕ → ℕ → ℕ → Type 0
Pairs bitboards colour r = r ≡ pair bitboards colour * pair_value
