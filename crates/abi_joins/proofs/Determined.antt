-- Each door is determined by its promise: two results that it allows are equal, and so is what is lent afterwards. Assumes nothing.
use mathlib.Core.Path.{◌≡◌}
use mathlib.Core.List.{List}
use Prim.Native.Nat.{ℕ}
use Rattle.abi_codes.specs.declared.Code.{Code}
use Rattle.abi_codes.proofs.Determined.{door, doors}
use Rattle.abi_joins.specs.Promises.{ErrorsJoined, SummaryJoined}

pub chess_error_join : (totals : List ℕ) (others : ℕ) (more : List ℕ) (moreOthers : ℕ) (r s : Code) (t u : List ℕ) (v w : ℕ)
    → ErrorsJoined totals others more moreOthers r t v → ErrorsJoined totals others more moreOthers s u w → (r ≡ s) × (t ≡ u) × (v ≡ w)
chess_error_join totals others more moreOthers r s t u v w = doors

pub chess_join_summary : (summary more : List ℕ) (r s : Code) (t u : List ℕ) → SummaryJoined summary more r t → SummaryJoined summary more s u
    → (r ≡ s) × (t ≡ u)
chess_join_summary summary more r s t u = door
