-- Each door is determined by its promise: two results that it allows are equal, and so is every lent number afterwards. Assumes nothing.
use mathlib.Core.Path.{◌≡◌}
use mathlib.Core.Bool.{Bool}
use mathlib.Core.List.{List}
use Prim.Native.Nat.{ℕ}
use lib.IntN.{ℤ}
use Rattle.refusal.proofs.Paper.{one}
use Rattle.abi_codes.specs.declared.Code.{Code}
use Rattle.abi_codes.proofs.Determined.{door, doors}
use Rattle.abi_errors.specs.Promises.{ExpectsScore, AddsError, FeedsError, EndsError}

pub expected : (score : ℤ) (r s : ℕ) → ExpectsScore score r → ExpectsScore score s → r ≡ s
expected score r s = one

pub error_add : (totals : List ℕ) (side : ℕ) (some : Bool) (score : ℤ) (half : ℕ) (r s : Code) (t u : List ℕ)
    → AddsError totals side some score half r t → AddsError totals side some score half s u → (r ≡ s) × (t ≡ u)
error_add totals side some score half r s t u = door

pub error_feed : (state line chunk : List ℕ) (r s : Code) (t t' l l' : List ℕ)
    → FeedsError state line chunk r t l → FeedsError state line chunk s t' l' → (r ≡ s) × (t ≡ t') × (l ≡ l')
error_feed state line chunk r s t t' l l' p q = (one p.code q.code, one p.lent q.lent, one p.kept q.kept)

pub error_end : (state line totals : List ℕ) (others : ℕ) (r s : Code) (t u : List ℕ) (v w : ℕ)
    → EndsError state line totals others r t v → EndsError state line totals others s u w → (r ≡ s) × (t ≡ u) × (v ≡ w)
error_end state line totals others r s t u v w = doors
