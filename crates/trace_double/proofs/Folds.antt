-- The sum over the entries: an entry that is 0 adds nothing. Assumes nothing.
use mathlib.Core.Path.{◌≡◌, refl, ap, ap₂, ◌∙◌}
use mathlib.Core.List.{List}
use Prim.Native.Nat.{ℕ, zero, suc, ◌+◌, ◌^◌, ◌<◌}
use native.Mathlib.Nat.{zero-add}
use lib.IntN.{ℤ, pos}
use lib.Signed.{mag}
use lib.ListN.{get_or}
use lib.Ieee.{Float}
use mir.Syntax.{w32}
use Rattle.laws.proofs.Words.{held}
use Rattle.trace_counts.proofs.Held.{read}
use Rattle.trace_marks.specs.Marks.{fold_from}
use Rattle.trace_marks.proofs.Folds as folds
use Rattle.trace_double.specs.Double.{entry_added, folded}
use Rattle.trace_double.specs.PrivateFrom.{entry_step, entries_from}

module _ (squares : List Float) (x : Float) (entries : List ℤ) where
  -- one entry more, read back from its bits
  pub one_read : (score : Float) (k j : ℕ) {here now : Float} → mag (get_or entries (k + j) (pos 0)) < 2 ^ 31 → here ≡ entries_from squares x entries score k j
      → now ≡ entry_added squares x here (k + j) (held w32 (get_or entries (k + j) (pos 0))) → now ≡ entries_from squares x entries score k (suc j)
  one_read score k j {here = here} h e p =
      folds.one_more (entry_step squares x entries) score k j e (p ∙ ap (entry_added squares x here (k + j)) (read (get_or entries (k + j) (pos 0)) h))

  pub nothing : (k : ℕ) → get_or entries k (pos 0) ≡ pos 0 → (score : Float) → entry_step squares x entries score k ≡ score
  unfolding entry_added
  nothing k z score = rw z

  pub from_0 : (score : Float) (n : ℕ) → entries_from squares x entries score 0 n ≡ folded squares x entries score n
  unfolding fold_from folded
  from_0 score zero = refl
  from_0 score (suc n) = ap₂ (λ (s : Float) (i : ℕ). entry_added squares x s i (get_or entries i (pos 0))) (from_0 score n) (zero-add n)
